-- The places that frames stand for.
use Rattle.std.proofs.Common.{◌≡◌, ℕ, suc, ◌+◌, ◌-◌, ◌<◌, List, [], ◌∷◌, ◌++◌, length, take, get_or, set, arith, ap, sym, ◌∙◌}
use Rattle.sf_cert_text.proofs.Common.{replicate, flat_map, take_more, take_more_set, take_all, length-set, reverse-append, Place}
use Rattle.sf_cert_text.specs.declared.waiting.Frame.{Frame}
use Rattle.sf_cert_text.specs.Waiting.{places_of}

-- the places of the last frame come first
places-last : (front : List Frame) (f : Frame) → places_of (front ++ f ∷ []) ≡ replicate f.count f.place ++ places_of front
places-last front f = ap (flat_map (λ (frame : Frame). replicate frame.count frame.place)) (reverse-append front (f ∷ []))

-- the places of the last frame, and those of the others
places-split : (xs : List Frame) (n : ℕ) (f d : Frame) → n ≡ length xs → 0 < n → f ≡ get_or xs (n - 1) d → places_of xs ≡ replicate f.count f.place ++ places_of (take (n - 1) xs)
places-split xs n f d e some is =
    ap places_of (sym (take_all (n - 1 + 1) xs (omega arith)) ∙ take_more xs (n - 1) d (omega arith) ∙ ap (λ (g : Frame). take (n - 1) xs ++ g ∷ []) (sym is))
    ∙ places-last (take (n - 1) xs) f

-- the last place of a frame
pub places-popped : (xs front : List Frame) (n : ℕ) (f d : Frame) → n ≡ length xs → 0 < n → f ≡ get_or xs (n - 1) d → front ≡ take (n - 1) xs → f.count ≡ 1 → places_of xs ≡ f.place ∷ places_of front
places-popped xs front n f d e some is rest one =
    places-split xs n f d e some is
    ∙ ap (λ k. replicate k f.place ++ places_of (take (n - 1) xs)) one
    ∙ ap (λ (ys : List Frame). f.place ∷ places_of ys) (sym rest)

-- one of several places of a frame
pub places-lessened : (xs : List Frame) (n : ℕ) (f g d : Frame) → n ≡ length xs → 0 < n → f ≡ get_or xs (n - 1) d → g.place ≡ f.place → f.count ≡ suc g.count → places_of xs ≡ f.place ∷ places_of (set xs (n - 1) g)
places-lessened xs n f g d e some is same fewer =
    let front = take (n - 1) xs in
    let after : set xs (n - 1) g ≡ front ++ g ∷ [] = sym (take_all (n - 1 + 1) (set xs (n - 1) g) (omega (arith, length-set xs (n - 1) g))) ∙ take_more_set xs (n - 1) g (omega arith) in
    places-split xs n f d e some is
    ∙ ap (λ k. replicate k f.place ++ places_of front) fewer
    ∙ ap (λ p. f.place ∷ (replicate g.count p ++ places_of front)) (sym same)
    ∙ ap (λ (ps : List Place). f.place ∷ ps) (sym (ap places_of after ∙ places-last front g))

-- The least sides of blocks, as loops find them.
use Rattle.std.proofs.Common.{◌≡◌, ℕ, ◌<◌, ◌≤◌, min, List, [], ◌∷◌, length, map, take, get_or, refl, sym, ◌∙◌, arith}
use Rattle.std.proofs.lemmas.List.{ext_get_or, get_or-take, length-take-le}
use Rattle.std.proofs.lemmas.List.FromFn.{get_or-map-range_with_len, length-map-range_with_len}
use Rattle.sf_bound_kit.proofs.Common.{fold, range_with_len, Shape, least_sides}

-- the least sides with one shape more
abbrev pub with_least : Shape → Shape → Shape
with_least s t = record { w = min s.w t.w; h = min s.h t.h }

-- those of all, one side after the other
least-from : (s : Shape) (ss : List Shape) → fold with_least s ss ≡ (record { w = fold (λ n t. min n t.w) s.w ss; h = fold (λ n t. min n t.h) s.h ss })
least-from s [] = refl
least-from s (t ∷ ss) = least-from (with_least s t) ss

-- those of the first shape, taken on by the others one after another, are those of all
pub least_folded : (s : Shape) (ss : List Shape) → fold with_least s ss ≡ least_sides (s ∷ ss)
least_folded s ss = least-from s ss

-- the first places of a table that is filled from a function
pub filled : (f : ℕ → Shape) (n : ℕ) (xs : List Shape) → n ≤ length xs → ((i : ℕ) (d : Shape) → i < n → get_or xs i d ≡ f i) → take n xs ≡ map f (range_with_len 0 n)
filled f n xs le each =
    let none : Shape = record { w = 0; h = 0 } in
    ext_get_or none (take n xs) (map f (range_with_len 0 n)) (length-take-le n xs le ∙ sym (length-map-range_with_len f 0 n))
    (λ i lt. let within : i < n = omega (arith, lt, length-take-le n xs le) in
    get_or-take n xs i none within ∙ each i none within ∙ sym (get_or-map-range_with_len f 0 n i i none within (omega arith)))

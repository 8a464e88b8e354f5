-- What stretches leave open.
use Rattle.std.proofs.Common.{◌≡◌, ℕ, ◌<◌, min, List, [], ◌∷◌, ◌++◌, map, length, ap, sym, ◌∙◌, subst, refl, arith, true, append-nil}
use Rattle.sf_rounds.proofs.Common.{flat_map-append, map-append, IsPermutation, IsPermutation-refl, All-nil, All-cons, Design, Stretch, Part, Parts, Mark, marks, least, least-min, unnamed_mark, AreKept, AreTold, IsRead, kept-open, marks_in, open_mark, waits, all_waits, AreLeftOpen, root, Piece}
use Rattle.sf_node.specs.Children.{walk}
use Rattle.sf_node.specs.Later.{pending}
use Rattle.sf_rounds.specs.declared.leaving.Opened.{Opened}
use Rattle.sf_worker.specs.InHand.{HandView, IsStart, IsLeftOpen, left_of, marks_of, whole_of}
use Rattle.sf_rounds.proofs.Told.{told-none, told-both}

-- the least over two lists
least-append : (n : ℕ) (xs ys : List ℕ) → least n (xs ++ ys) ≡ least (least n xs) ys
least-append n [] ys = refl
least-append n (x ∷ xs) ys = ap (min x) (least-append n xs ys) ∙ sym (least-min (least n xs) x ys) ∙ ap (λ z. least z ys) (let e : min (least n xs) x ≡ min x (least n xs) = omega arith in e)

-- open subproblems name no part
opens-plain : (ns : List Parts) → map unnamed_mark (map open_mark ns) ≡ map open_mark ns
opens-plain [] = refl
opens-plain (n ∷ ns) = ap (λ ms. open_mark n ∷ ms) (opens-plain ns)

module _ (design : Design) (bound : Parts → ℕ) (part : Parts → Part → ℕ) where
  -- the piece of a stretch that was left open
  pub piece-opened : (s : Stretch) (hand hand' : HandView) (low low' cost : ℕ) (p : Piece) → IsStart design bound s hand → IsLeftOpen design bound low hand hand' low' → p.first.items ≡ hand'.first → p.tags.items ≡ hand'.tags → p.kept.items ≡ hand'.kept
      → AreTold design part cost [] (waits design s) (p ∷ [])
  piece-opened s hand hand' low low' cost p start open' first tags kept =
      let empty : marks_of design hand ≡ [] = ap (marks (whole_of design hand)) start.none in
      let same : marks_in design p ≡ marks_of design hand' = λ i. marks (pending design true (walk (root design) (first i))) (tags i) in
      let all : marks_in design p ≡ map open_mark (waits design s) = same ∙ open'.marks_are ∙ ap (λ ms. ms ++ map open_mark (left_of design hand)) empty ∙ ap (map open_mark) start.left in
      let none : p.kept.items ≡ [] = kept ∙ open'.kept ∙ start.kept in
      let nothing : AreKept part cost [] [] = record { values = refl; areas = λ i d h. absurd (omega arith) } in
      record {
        told = subst (IsPermutation (map open_mark (waits design s))) (sym (opens-plain (waits design s)) ∙ ap (map unnamed_mark) (sym all) ∙ ap (map unnamed_mark) (sym (append-nil (marks_in design p)))) (IsPermutation-refl (map open_mark (waits design s)));
        read = All-cons (IsRead design) p [] (
          ap (map (λ (m : Mark). m.tag)) same ∙ open'.hand_is.read ∙ sym tags,
          (let n = ap length (tags ∙ sym open'.hand_is.read ∙ ap (map (λ (m : Mark). m.tag)) (sym same ∙ all)) in long n),
        ) (All-nil (IsRead design));
        kept = All-cons (λ (q : Piece). AreKept part cost (marks_in design q) q.kept.items) p []
            (subst (AreKept part cost (marks_in design p)) (sym none) (subst (λ ms. AreKept part cost ms []) (sym all) (kept-open part cost [] [] (waits design s) nothing)))
            (All-nil (λ (q : Piece). AreKept part cost (marks_in design q) q.kept.items));
      }
    where
      long : length p.tags.items ≡ length (map (λ (m : Mark). m.tag) (map open_mark (waits design s))) → 0 < length p.tags.items
      long n = omega (arith, n)

  -- these stretches are left open
  pub record IsOpening (value : ℕ) (done : List Stretch) (pieces : List Piece) (low : ℕ) : Type 0 where
    pub told : (cost : ℕ) → AreTold design part cost [] (all_waits design done) pieces
    pub lowest : low ≡ least value (map bound (all_waits design done))

  -- before the first
  pub opening-none : (value : ℕ) (pieces : List Piece) → pieces ≡ [] → IsOpening value [] pieces value
  opening-none value pieces e = record { told = λ cost. subst (AreTold design part cost [] []) (sym e) (told-none design part cost); lowest = refl }

  -- one more
  pub opening-more : (value low low' : ℕ) (done : List Stretch) (s : Stretch) (old new : List Piece) (p : Piece) (hand hand' : HandView) → IsOpening value done old low → IsStart design bound s hand → IsLeftOpen design bound low hand hand' low'
      → p.first.items ≡ hand'.first → p.tags.items ≡ hand'.tags → p.kept.items ≡ hand'.kept → new ≡ old ++ p ∷ [] → IsOpening value (done ++ s ∷ []) new low'
  opening-more value low low' done s old new p hand hand' h start open' first tags kept e =
      let longer : all_waits design (done ++ s ∷ []) ≡ all_waits design done ++ waits design s = flat_map-append (waits design) done (s ∷ []) ∙ ap (λ z. all_waits design done ++ z) (append-nil (waits design s)) in
      record {
        told = λ cost.
            subst (AreTold design part cost [] (all_waits design (done ++ s ∷ []))) (sym e)
            (subst (λ ls. AreTold design part cost [] ls (old ++ p ∷ [])) (sym longer)
            (told-both design part cost [] (all_waits design done) old [] (waits design s) (p ∷ []) (h.told cost) (piece-opened s hand hand' low low' cost p start open' first tags kept)));
        lowest =
            open'.lowest ∙ ap (λ ns. least low (map bound ns)) start.left ∙ ap (λ n. least n (map bound (waits design s))) h.lowest
            ∙ sym (least-append value (map bound (all_waits design done)) (map bound (waits design s)))
            ∙ ap (least value) (sym (map-append bound (all_waits design done) (waits design s))) ∙ ap (λ ns. least value (map bound ns)) (sym longer);
      }

  -- all of them
  pub opening-done : (value : ℕ) (done stretches : List Stretch) (opened : Opened) → done ≡ stretches → IsOpening value done opened.pieces.items opened.bound → AreLeftOpen design bound part value stretches opened
  opening-done value done stretches opened e h = record {
    told = λ cost. subst (λ ss. AreTold design part cost [] (all_waits design ss) opened.pieces.items) e (h.told cost);
    lowest = h.lowest ∙ ap (λ ss. least value (map bound (all_waits design ss))) e;
  }

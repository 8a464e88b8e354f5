-- What improvements of walks and of a beginning come to.
use Rattle.std.proofs.Common.{◌≡◌, ℕ, ◌+◌, ◌<◌, ◌≤◌, List, [], ◌∷◌, length, refl, ap, sym, subst, ◌∙◌, arith, Option, None, IfSome, slice_index_or}
use Rattle.sf_anneal.proofs.Common.{get_or_default, Beginning, Design, Expr, IsFloorplan, IsImprovedStarts, IsNoDearer, IsStart, IsWalk, begun_plan, first_least, lesser, words_of}
use Rattle.sf_anneal.proofs.Collected.{gathered}
use Rattle.sf_anneal.proofs.Least.{least-no-dearer, least-one, least-same, lesser-one, lesser-second}

-- a list without results has no least
none-least : (ys : List (Option (Expr × ℕ))) → length ys ≡ 0 → first_least ys ≡ None
none-least [] e = refl
none-least (y ∷ ys) e = absurd (omega (arith, e))

module _ (design : Design) (begin : Option Beginning) (seed count moves trials : ℕ) where
  -- what a walk found before it was made better
  abbrev Was : List (Option (Expr × ℕ)) → ℕ → Option (Expr × ℕ) → Type 0
  Was ys i w = IsWalk design (words_of seed i) moves w × IsNoDearer w (slice_index_or ys i None) × (trials ≡ 0 → slice_index_or ys i None ≡ w)

  pub improved : (extra : ℕ) (ys : List (Option (Expr × ℕ))) (found : Option (Expr × ℕ)) → length ys ≡ count + extra → (begin ≡ None → extra ≡ 0)
      → ((i : ℕ) (d : Option (Expr × ℕ)) → i < length ys → IsStart design seed count moves trials i (slice_index_or ys i d))
      → IfSome (begun_plan begin) (λ pair. IsFloorplan design pair.0 pair.1) → found ≡ lesser (first_least ys) (begun_plan begin) → IsImprovedStarts design begin seed count moves trials found
  improved extra ys found many bare own plan is =
      let each = gathered (Was ys) 0 count (λ i l h. let s = (own i None (omega (arith, h, many))).walk (omega (arith, h)) in (s.was, (s.walk, s.no_dearer, s.unimproved))) in
      let ws = each.0 in
      let fewer : length ws ≤ length ys = omega (arith, many, each.1) in
      let at = λ (k : ℕ) (d : Option (Expr × ℕ)) (h : k < length ws). each.2 k d k (omega arith) (omega (arith, h, each.1)) in
      record {
        walked = first_least ws;
        starts = record { results = ws; many = each.1; walks = λ i d h. (each.2 i d i (omega arith) h).0; least = refl };
        floorplan = subst (λ r. IfSome r (λ pair. IsFloorplan design pair.0 pair.1)) (sym is)
            (lesser-one (λ pair. IsFloorplan design pair.0 pair.1) (first_least ys) (begun_plan begin) (least-one (λ pair. IsFloorplan design pair.0 pair.1) ys (λ k d h. (own k d h).floorplan)) plan);
        no_dearer = subst (IsNoDearer (first_least ws)) (sym is) (least-no-dearer ws ys (begun_plan begin) fewer (λ k d e h. dearer ys k e (slice_index_or ws k d) (omega (arith, h, fewer)) (at k d h).1));
        no_dearer_begun = subst (IsNoDearer (begun_plan begin)) (sym is) (lesser-second (first_least ys) (begun_plan begin));
        unimproved = λ e. is ∙ ap (λ r. lesser r (begun_plan begin)) (least-same ws ys fewer (λ k h. (at k None h).2 e) (λ k l h. (own k None h).unimproved (omega (arith, l, each.1)) e));
        none = λ e bare-begin. is ∙ ap (λ r. lesser r (begun_plan begin)) (none-least ys (omega (arith, many, e, bare bare-begin))) ∙ ap begun_plan bare-begin;
      }
    where
      dearer : (ys : List (Option (Expr × ℕ))) (k : ℕ) (e w : Option (Expr × ℕ)) → k < length ys → IsNoDearer w (slice_index_or ys k None) → IsNoDearer w (slice_index_or ys k e)
      dearer ys k e w h d = subst (IsNoDearer w) (get_or_default ys k None e h) d

use Rattle.std.proofs.Common.{◌≡◌, ℕ, ◌+◌, ◌<◌, ◌∙◌, List, [], ◌∷◌, ◌++◌, length, length-append, get_or, ap, sym, subst, arith, inl, inr}
use Rattle.sf_anneal.proofs.Common.{get_or-append_seam, cases_lt, get_or_append_left, Shape, IsBlockCurve}
use Rattle.sf_anneal.proofs.keeping.block_curves.Goals as goal

-- what holds of each by its number holds with one more of which it does
one-more : (P : ℕ → List Shape → Type 0) (xs : List (List Shape)) (x : List Shape) (n : ℕ) → length xs ≡ n → ((b : ℕ) → b < n → P b (get_or xs b [])) → P n x → (b : ℕ) → b < n + 1 → P b (get_or (xs ++ x ∷ []) b [])
one-more P xs x n e all last b h = elim (cases_lt b n) [
  | inl lt ↦ subst (P b) (sym (get_or_append_left xs (x ∷ []) [] b (omega (arith, e, lt)))) (all b lt)
  | inr ge ↦ (let same : n ≡ b = omega (arith, ge, h) in
      subst (λ v. P v (get_or (xs ++ x ∷ []) v [])) same (subst (P n) (sym (ap (λ v. get_or (xs ++ x ∷ []) v []) (sym e) ∙ get_or-append_seam xs x [] [])) last))
]

pub loop-block-preserved : goal.loop-block-preserved
loop-block-preserved c = record {
  many = omega (arith, ap length c.in_ok-push.ensures.items, c.loop-block.invariant.many, length-append c.loop-block.curves.items (c.in_ok-own_curve.field-0 ∷ []));
  each = λ b h. subst (λ v. IsBlockCurve c.args.design.now b (get_or v b [])) (sym c.in_ok-push.ensures.items)
      (one-more (IsBlockCurve c.args.design.now) c.loop-block.curves.items _ c.loop-block.block c.loop-block.invariant.many c.loop-block.invariant.each c.in_ok-own_curve.ensures b h);
}

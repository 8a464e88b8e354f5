-- A certificate has one answer.
use Rattle.std.proofs.Common.{◌≡◌, ℕ, [], ◌∷◌, inl, inr, refl, ap, sym, subst, ◌∙◌, Option, Some, Result, Err}
use Rattle.sf_checker.proofs.Common.{Design, Expr, Part, Parts, root, Cert, HasCost, Why, CostDiffers, BoundDiffers, Answer, Progress, walked, start, IsPlanRight, IsBadPlan, IsOtherCost, IsBadTree, IsOtherBound, IsFirst, IsAnswer, Yes, No}
use Rattle.sf_checker.proofs.Answered.{cost-one, unfit-costless, plan-of, first-invalid}
use Rattle.sf_checker.proofs.Walks.{faulty}

-- one plan has one expression
some-same : (e f : Expr) (plan : Option Expr) → plan ≡ Some e → plan ≡ Some f → e ≡ f
some-same e f plan p q = let k : Some e ≡ Some f = sym p ∙ q in cc

-- one walk has one failure
err-same : (r : Result Progress Why) (v w : Why) → r ≡ Err v → r ≡ Err w → v ≡ w
err-same r v w p q = let k : Err v ≡ Err w = sym p ∙ q in cc

module _ (design : Design) (bound : Parts → ℕ) (part : Parts → Part → ℕ) (cert : Cert) where
  -- a right plan costs what is said
  right-cost : (expr : Expr) → cert.plan ≡ Some expr → IsPlanRight design cert → HasCost design expr cert.cost
  right-cost expr e right = plan-of design cert.cost cert.plan expr e right

  -- a plan that is unfit is not right
  bad-right : IsBadPlan design cert → IsPlanRight design cert → ⊥
  bad-right bad right = unfit-costless design bad.expr cert.cost bad.unfit (right-cost bad.expr bad.planned right)

  -- nor is one of another cost
  other-right : (is : ℕ) → IsOtherCost design cert is → IsPlanRight design cert → ⊥
  other-right is other right = other.differs (cost-one design other.expr cert.cost is (right-cost other.expr other.planned right) other.costs)

  -- a plan that is unfit has no other cost
  bad-other : (is : ℕ) → IsBadPlan design cert → IsOtherCost design cert is → ⊥
  bad-other is bad other =
      let same : other.expr ≡ bad.expr = some-same other.expr bad.expr cert.plan other.planned bad.planned in
      unfit-costless design bad.expr is bad.unfit (subst (λ e. HasCost design e is) same other.costs)

  -- the other cost is one
  one-cost : (y z : ℕ) → IsOtherCost design cert y → IsOtherCost design cert z → y ≡ z
  one-cost y z p q =
      let same : p.expr ≡ q.expr = some-same p.expr q.expr cert.plan p.planned q.planned in
      cost-one design q.expr y z (subst (λ e. HasCost design e y) same p.costs) q.costs

  -- a tree at fault has no other bound
  tree-bound : (why : Why) (is : ℕ) → IsBadTree design bound part cert why → IsOtherBound design bound part cert is → ⊥
  tree-bound why is bad other = faulty bound part cert.cost cert.tags (start (root design) cert.cost) (root design ∷ []) why refl bad.found other.tree

  -- the four kinds of failure exclude each other, and each tells one
  one-first : (v w : Why) → IsFirst design bound part cert v → IsFirst design bound part cert w → v ≡ w
  one-first v w f g =
      elim f [
        | inl a ↦ elim g [
          | inl b ↦ a.0 ∙ sym b.0
          | inr g ↦ elim g [
            | inl b ↦ absurd (bad-other b.0 a.1 b.2)
            | inr g ↦ elim g [ inl b ↦ absurd (bad-right a.1 b.plan) | inr b ↦ absurd (bad-right a.1 b.2.plan) ]
          ]
        ]
        | inr f ↦ elim f [
          | inl a ↦ elim g [
            | inl b ↦ absurd (bad-other a.0 b.1 a.2)
            | inr g ↦ elim g [
              | inl b ↦ a.1 ∙ ap (CostDiffers cert.cost) (one-cost a.0 b.0 a.2 b.2) ∙ sym b.1
              | inr g ↦ elim g [ inl b ↦ absurd (other-right a.0 a.2 b.plan) | inr b ↦ absurd (other-right a.0 a.2 b.2.plan) ]
            ]
          ]
          | inr f ↦ elim f [
            | inl a ↦ elim g [
              | inl b ↦ absurd (bad-right b.1 a.plan)
              | inr g ↦ elim g [
                | inl b ↦ absurd (other-right b.0 b.2 a.plan)
                | inr g ↦ elim g [
                  | inl b ↦ err-same (walked bound part cert.cost (start (root design) cert.cost) cert.tags) v w a.found b.found
                  | inr b ↦ absurd (tree-bound v b.0 a b.2)
                ]
              ]
            ]
            | inr a ↦ elim g [
              | inl b ↦ absurd (bad-right b.1 a.2.plan)
              | inr g ↦ elim g [
                | inl b ↦ absurd (other-right b.0 b.2 a.2.plan)
                | inr g ↦ elim g [
                  | inl b ↦ absurd (tree-bound w a.0 b a.2)
                  | inr b ↦ a.1 ∙ ap (BoundDiffers cert.bound) (a.2.lowest ∙ sym b.2.lowest) ∙ sym b.1
                ]
              ]
            ]
          ]
        ]
      ]

  -- a certificate has one answer
  pub one-answer : (a b : Answer) → IsAnswer design bound part cert a → IsAnswer design bound part cert b → a ≡ b
  one-answer (Yes z low count) (Yes y least few) p q =
      ap (λ x. Yes x low count) (p.cost ∙ sym q.cost) ∙ ap (λ x. Yes y x count) (p.bound_is ∙ sym q.bound_is) ∙ ap (Yes y least) (p.count_is ∙ sym q.count_is)
  one-answer (Yes z low count) (No why) p q = absurd (first-invalid design bound part cert why q p.valid)
  one-answer (No why) (Yes z low count) p q = absurd (first-invalid design bound part cert why p q.valid)
  one-answer (No v) (No w) p q = ap No (one-first v w p q)

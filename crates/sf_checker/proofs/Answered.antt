-- The answer that the walk leads to, and that it is Yes just where the certificate is valid.
use Rattle.std.proofs.Common.{◌≡◌, ◌≢◌, ℕ, [], ◌∷◌, map, arith, refl, ap, sym, subst, ◌∙◌, true, inl, inr, Ok, Option, Some, None, ◌↔◌}
use Rattle.sf_checker.proofs.Common.{MatchOption, All, Contains, Design, leaves, block_count, shapes_of, Fits, MAX, Expr, Part, Parts, root, Cert, place_of, spell_trees, HasCost, IsValid, Why, Answer, Progress, walked, start, IsPlanRight, IsUnfit, IsOtherBound, IsFirst, IsRight, IsAnswer, is_yes, Yes, No}
use Rattle.sf_model.specs.Cost.{cost}
use Rattle.sf_polish.proofs.Spelling.{spells-one}
use Rattle.sf_node.proofs.Reached.{root-subproblem}
use Rattle.sf_checker.proofs.Walks.{IsSeen, seen, faulty}

-- a plan has one cost
pub cost-one : (design : Design) (expr : Expr) (y z : ℕ) → HasCost design expr y → HasCost design expr z → y ≡ z
cost-one design expr y z a b = sym a.costs ∙ ap (cost design) (spells-one expr a.tree b.tree a.spells b.spells) ∙ b.costs

-- a plan that has an unlisted shape or does not fit has none
pub unfit-costless : (design : Design) (expr : Expr) (z : ℕ) → IsUnfit design expr → HasCost design expr z → ⊥
unfit-costless design expr z u h =
    let same = spells-one expr h.tree u.tree h.spells u.spells in
    u.unfit (subst (λ t. All (λ leaf. Contains (shapes_of design leaf.0) leaf.1) (leaves t)) same h.legal.listed) (subst (Fits design.outline) same h.fits)

-- the expression of a plan that is right has the cost
pub plan-of : (design : Design) (z : ℕ) (plan : Option Expr) (expr : Expr) → plan ≡ Some expr → MatchOption plan (z ≡ MAX) (λ e. HasCost design e z) → HasCost design expr z
plan-of design z None expr e h = absurd (cc)
plan-of design z (Some other) expr e h = let same : other ≡ expr = cc in subst (λ x. HasCost design x z) same h

-- what the walk saw of a certificate's tags
pub seen-cert : (design : Design) (bound : Parts → ℕ) (part : Parts → Part → ℕ) (cert : Cert) (last : Progress) → cert.blocks ≡ block_count design → walked bound part cert.cost (start (root design) cert.cost) cert.tags ≡ Ok last → IsSeen bound part cert.cost (start (root design) cert.cost) cert.tags last
seen-cert design bound part cert last e w =
    seen design bound part cert.cost cert.tags (start (root design) cert.cost) (root design ∷ []) last refl w
    (subst (λ n. spell_trees n (map place_of (root design ∷ [])) cert.tags ≡ true) e cert.form.tree) (root-subproblem design, tt)

-- where the walk ends with the stated bound, the certificate is valid
pub answer-yes : (design : Design) (bound : Parts → ℕ) (part : Parts → Part → ℕ) (cert : Cert) (last : Progress) (count : ℕ) → cert.blocks ≡ block_count design → IsPlanRight design cert → walked bound part cert.cost (start (root design) cert.cost) cert.tags ≡ Ok last → last.low ≡ cert.bound → count ≡ last.decided → IsRight design bound part cert cert.cost cert.bound count
answer-yes design bound part cert last count e plan w low is =
    let s = seen-cert design bound part cert last e w in
    record {
      valid = record { plan = plan; tree = s.trees; stated = sym low ∙ s.low };
      cost = refl;
      bound_is = refl;
      count_is = omega (arith, is, s.count);
    }

-- where the walk ends with another bound, that is the failure
pub answer-bound : (design : Design) (bound : Parts → ℕ) (part : Parts → Part → ℕ) (cert : Cert) (last : Progress) (is : ℕ) → cert.blocks ≡ block_count design → IsPlanRight design cert → walked bound part cert.cost (start (root design) cert.cost) cert.tags ≡ Ok last → is ≡ last.low → cert.bound ≢ is → IsOtherBound design bound part cert is
answer-bound design bound part cert last is e plan w same differs =
    let s = seen-cert design bound part cert last e w in
    record { plan = plan; tree = s.trees; lowest = same ∙ s.low; differs = differs }

-- where something fails, the certificate is not valid
pub first-invalid : (design : Design) (bound : Parts → ℕ) (part : Parts → Part → ℕ) (cert : Cert) (why : Why) → IsFirst design bound part cert why → IsValid design bound part cert → ⊥
first-invalid design bound part cert why first valid =
    elim first [
      | inl a ↦ unfit-costless design a.1.expr cert.cost a.1.unfit (plan-of design cert.cost cert.plan a.1.expr a.1.planned valid.plan)
      | inr more ↦ elim more [
        | inl b ↦ b.2.differs (cost-one design b.2.expr cert.cost b.0 (plan-of design cert.cost cert.plan b.2.expr b.2.planned valid.plan) b.2.costs)
        | inr more ↦ elim more [
          | inl c ↦ faulty bound part cert.cost cert.tags (start (root design) cert.cost) (root design ∷ []) why refl c.found valid.tree
          | inr d ↦ d.2.differs (valid.stated ∙ sym d.2.lowest)
        ]
      ]
    ]

-- an answer is Yes just where the certificate is valid
pub answered : (design : Design) (bound : Parts → ℕ) (part : Parts → Part → ℕ) (cert : Cert) (a : Answer) → IsAnswer design bound part cert a → (is_yes a ≡ true) ↔ IsValid design bound part cert
answered design bound part cert (Yes z low count) h = ((λ e. h.valid), (λ v. refl))
answered design bound part cert (No why) h = ((λ e. absurd (cc)), (λ v. absurd (first-invalid design bound part cert why h v)))

-- What walks find and what is known are floorplans of the design that knows more.
use Rattle.std.proofs.Common.{◌≡◌, ◌≤◌, ℕ, Bool, true, false, Option, Some, None, inl, inr, IfSome, nat_lt, if◌then◌else◌, refl, ap, ◌∙◌, arith}
use Rattle.sf_known.proofs.Common.{cases_Bool, nat_tests, Beginning, IsFloorplan, IsNoDearer, IsSearchInput, Knows, StartOptions, begun_plan, cheaper, IsRouted, Design, Expr, BoundsChoice}
use Rattle.sf_known.proofs.OneKnown.{known-floorplan}
use Rattle.sf_known.proofs.Taken.{routed-floorplan}

-- what holds of two plans, where there are any, holds of the cheaper one
pub cheaper-holds : (P : Expr × ℕ → Type 0) (a b : Option (Expr × ℕ)) → IfSome a P → IfSome b P → IfSome (cheaper a b) P
cheaper-holds P None b h k = k
cheaper-holds P (Some p) None h k = h
cheaper-holds P (Some p) (Some q) h k = elim (cases_Bool (nat_lt q.1 p.1)) [ inl e ↦ rw e k | inr e ↦ rw e h ]

-- what walks found is a floorplan of the design that knows more
pub walked-floorplan : (bounds : BoundsChoice) (design known : Design) (walked : Option (Expr × ℕ)) → Knows bounds design known → IfSome walked (λ plan. IsFloorplan design plan.0 plan.1) → IfSome walked (λ plan. IsFloorplan known plan.0 plan.1)
walked-floorplan bounds design known None knows h = h
walked-floorplan bounds design known (Some plan) knows h = known-floorplan bounds design known plan.0 plan.1 knows h

-- a floorplan that a search begins with is one of the design with paths
pub routed-start : (bounds : BoundsChoice) (design routed : Design) (start : Option (Expr × ℕ)) → IsRouted bounds design routed → IfSome start (λ plan. IsFloorplan design plan.0 plan.1) → IfSome start (λ plan. IsFloorplan routed plan.0 plan.1)
routed-start bounds design routed None routes h = h
routed-start bounds design routed (Some plan) routes h = routed-floorplan bounds design routed plan.0 plan.1 routes h

-- of two plans the cheaper one costs no more than the first, by the test of their costs
chosen : (a b : Expr × ℕ) (test : Bool) → nat_lt b.1 a.1 ≡ test → (q : Expr × ℕ) × ((if test then Some b else Some a) ≡ Some q) × (q.1 ≤ a.1)
chosen a b true e = (b, refl, grind (arith, nat_tests))
chosen a b false e = (a, refl, omega arith)

-- so it is where there may be one alone
cheaper-first : (a : Expr × ℕ) (b : Option (Expr × ℕ)) → (q : Expr × ℕ) × (cheaper (Some a) b ≡ Some q) × (q.1 ≤ a.1)
cheaper-first a None = (a, refl, omega arith)
cheaper-first a (Some b) = chosen a b (nat_lt b.1 a.1) refl

-- a search begins with a plan no dearer than the packed plan of a placement that is given
pub no-dearer : (starts : StartOptions) (bounds : BoundsChoice) (design : Design) (begin : Option Beginning) (routed : Design) (start : Option (Expr × ℕ)) → IsSearchInput starts bounds design begin routed start → IsNoDearer (begun_plan begin) start
no-dearer starts bounds design begin routed start input p e =
    let b = input.begun in
    let w = b.walks.no_dearer_begun p e in
    let c = cheaper-first w.0 b.least in
    (c.0, b.is ∙ ap (λ x. cheaper x b.least) w.1 ∙ c.1, omega (arith, c.2, w.2))

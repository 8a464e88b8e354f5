-- A design has one least area, and where it knows that its floorplans are the same.
use Rattle.std.proofs.Common.{◌≡◌, ℕ, arith, sym, subst, ◌∙◌, inl, inr}
use Rattle.sf_model.proofs.Floored.{floor-one, legal-same}
use Rattle.sf_model.specs.Floored.{HasFloor}
use Rattle.sf_subsets.proofs.Common.{Design, Outline, Tree, Fits, IsAreaOf, IsLeastPlan, KnowsArea}

module _ (old : Design) (floor : ℕ) (new : Design) (has : HasFloor old floor new) where
  -- a least plan stays one
  pub least-kept : (tree : Tree) (area : ℕ) → IsLeastPlan old tree area → IsLeastPlan new tree area
  least-kept tree area p = record {
    legal = (legal-same old floor new tree has).0 p.legal;
    fits = subst (λ (o : Outline). Fits o tree) (sym has.outline) p.fits;
    area_is = p.area_is;
    least = λ t legal fits. p.least t ((legal-same old floor new t has).1 legal) (subst (λ (o : Outline). Fits o t) has.outline fits);
  }

-- two numbers that are the least area are one
area-one : (design : Design) (a b : ℕ) → IsAreaOf design a → IsAreaOf design b → a ≡ b
area-one design a b (inl p) (inl q) =
    omega (arith, p.1.least q.0 q.1.legal q.1.fits, q.1.area_is, q.1.least p.0 p.1.legal p.1.fits, p.1.area_is)
area-one design a b (inl p) (inr q) = absurd (q.0 p.0 p.1.legal p.1.fits)
area-one design a b (inr p) (inl q) = absurd (p.0 q.0 q.1.legal q.1.fits)
area-one design a b (inr p) (inr q) = p.1 ∙ sym q.1

-- so are two designs that know it
pub knowing-one : (design first second : Design) → KnowsArea design first → KnowsArea design second → first ≡ second
knowing-one design first second p q =
    floor-one design q.floor first second
    (subst (λ (n : ℕ). HasFloor design n first) (area-one design p.floor q.floor p.is q.is) p.has) q.has

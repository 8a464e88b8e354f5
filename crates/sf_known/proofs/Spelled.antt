-- A plan with the leaves of a floorplan is one, and what a floorplan's expression spells fits.
use Rattle.std.proofs.Common.{◌≡◌, List, length, sym, subst, ℕ, All, Contains, count_by, ◌==◌, ◌<◌}
use Rattle.sf_known.proofs.Common.{Design, IsLegal, block_count, shapes_of, Fits, Tree, leaves, IsFloorplan, Expr}
use Rattle.sf_model.specs.declared.parts.Shape.{Shape}
use Rattle.sf_polish.specs.Normal.{IsNormal}
use Rattle.sf_polish.specs.Postfix.{Spells}
use Rattle.sf_polish.proofs.Normality.{postfix-normal}
use Rattle.sf_polish.proofs.Spelling.{spells-one}
use Rattle.sf_subsets.specs.Floors.{IsFitting}

-- the same leaves in the same order
pub leaves-legal : (design : Design) (s t : Tree) → leaves s ≡ leaves t → IsLegal design t → IsLegal design s
leaves-legal design s t same h = record {
  blocks = record {
    each_once = subst (λ (ls : List (ℕ × Shape)). (b : ℕ) → b < block_count design → count_by (λ leaf. leaf.0 == b) ls ≡ 1) (sym same) h.blocks.each_once;
    no_other = subst (λ (ls : List (ℕ × Shape)). All (λ leaf. leaf.0 < block_count design) ls) (sym same) h.blocks.no_other;
  };
  listed = subst (λ (ls : List (ℕ × Shape)). All (λ leaf. Contains (shapes_of design leaf.0) leaf.1) ls) (sym same) h.listed;
}

module _ (design : Design) (expr : Expr) (z : ℕ) (p : IsFloorplan design expr z) where
  -- the expression of a floorplan is normal
  pub floorplan-normal : IsNormal (length expr.shapes) expr.tokens
  floorplan-normal = subst (λ n. IsNormal n expr.tokens) (sym p.one_each) (subst (IsNormal (block_count design)) p.spells.tokens (postfix-normal (block_count design) p.tree p.legal.blocks p.skewed))

  -- what it spells is a floorplan that fits
  pub floorplan-fitting : (tree : Tree) → Spells expr tree → IsFitting design tree
  floorplan-fitting tree spells =
      let same = spells-one expr p.tree tree p.spells spells in
      record { legal = subst (IsLegal design) same p.legal; fits = subst (Fits design.outline) same p.fits }

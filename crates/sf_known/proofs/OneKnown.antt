-- What a design knows is one thing, and changes no block.
use Rattle.std.proofs.Common.{◌≡◌, ℕ, List, length, inl, inr, sym, ap, subst, ◌∙◌}
use Rattle.sf_known.proofs.Common.{cases_lt, Design, IsFloorplan, cost-same, legal-same, Fits, block_count, Block, Outline, Expr, BoundsChoice, Standard, Strong, Pair, Fit, Both, Knows}
use Rattle.sf_model.specs.Floored.{HasFloor}
use Rattle.sf_subsets.proofs.Learned.{knowing-one}

-- by the same bounds a design gets to know one thing
pub knows-one : (bounds : BoundsChoice) (design first second : Design) → Knows bounds design first → Knows bounds design second → first ≡ second
knows-one Standard design first second p q = p ∙ sym q
knows-one Pair design first second p q = p ∙ sym q
knows-one Fit design first second p q = p ∙ sym q
knows-one Both design first second p q = p ∙ sym q
knows-one Strong design first second p q =
    elim (cases_lt 16 (block_count design)) [
      | inl many ↦ p.many many ∙ sym (q.many many)
      | inr few ↦ knowing-one design first second (p.few few) (q.few few)
    ]

-- it keeps its blocks
pub known-blocks : (bounds : BoundsChoice) (design known : Design) → Knows bounds design known → known.blocks ≡ design.blocks
known-blocks Standard design known h = ap (λ (d : Design). d.blocks) h
known-blocks Pair design known h = ap (λ (d : Design). d.blocks) h
known-blocks Fit design known h = ap (λ (d : Design). d.blocks) h
known-blocks Both design known h = ap (λ (d : Design). d.blocks) h
known-blocks Strong design known h =
    elim (cases_lt 16 (block_count design)) [
      | inl many ↦ ap (λ (d : Design). d.blocks) (h.many many)
      | inr few ↦ (h.few few).has.blocks
    ]

-- with a floor of its area a design has the floorplans that it had, at their costs
floored-floorplan : (old : Design) (floor : ℕ) (new : Design) (expr : Expr) (z : ℕ) → HasFloor old floor new → IsFloorplan old expr z → IsFloorplan new expr z
floored-floorplan old floor new expr z has p = record {
  tree = p.tree;
  spells = p.spells;
  one_each = p.one_each ∙ ap (λ (bs : List Block). length bs) (sym has.blocks);
  legal = (legal-same old floor new p.tree has).0 p.legal;
  skewed = p.skewed;
  fits = subst (λ (o : Outline). Fits o p.tree) (sym has.outline) p.fits;
  costs = p.costs ∙ sym (cost-same old floor new p.tree has);
}

-- so has one that knows what was asked for
pub known-floorplan : (bounds : BoundsChoice) (design known : Design) (expr : Expr) (z : ℕ) → Knows bounds design known → IsFloorplan design expr z → IsFloorplan known expr z
known-floorplan Standard design known expr z h p = subst (λ (d : Design). IsFloorplan d expr z) (sym h) p
known-floorplan Pair design known expr z h p = subst (λ (d : Design). IsFloorplan d expr z) (sym h) p
known-floorplan Fit design known expr z h p = subst (λ (d : Design). IsFloorplan d expr z) (sym h) p
known-floorplan Both design known expr z h p = subst (λ (d : Design). IsFloorplan d expr z) (sym h) p
known-floorplan Strong design known expr z h p =
    elim (cases_lt 16 (block_count design)) [
      | inl many ↦ subst (λ (d : Design). IsFloorplan d expr z) (sym (h.many many)) p
      | inr few ↦ (let k = h.few few in floored-floorplan design k.floor known expr z k.has p)
    ]

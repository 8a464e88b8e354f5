-- What a design knows is one thing, and changes no block.
use Rattle.std.proofs.Common.{◌≡◌, inl, inr, List, map, length, Some, Ok, Err, ap, ◌∙◌}
use Rattle.sf_program.proofs.Common.{Contents, Design, Block, DesignOptions, PlanOptions, WeightOptions, AtMostOne, GivesOne, HasBlocksOf, PlanInput, PlanRead, DesignRead, PartsRead, KnownRead, MadeKnown, WeighedParts, RawBlock, BoundsChoice}
use Rattle.sf_known.proofs.OneKnown.{knows-one, known-blocks}
use Rattle.sf_program.proofs.Once.{alike-then, once, then-one}
use Rattle.sf_program.proofs.OneDesign.{design-one}
use Rattle.sf_program.proofs.OneInput.{design_in, input-alike, input-blocks}

-- by the same bounds a design gets to know one thing
made-known-one : (bounds : BoundsChoice) (design : Design) → AtMostOne (MadeKnown bounds design)
made-known-one bounds design (Ok first) (Ok second) p q = ap Ok (knows-one bounds design first second p q)
made-known-one bounds design (Ok first) (Err why) p q = absurd q
made-known-one bounds design (Err why) s p q = absurd p

-- so the files stand for one design that knows it
pub known-one : (contents : Contents) (o : DesignOptions) (w : WeightOptions) (bounds : BoundsChoice) → GivesOne contents.may_fail (KnownRead (Some contents) o w bounds)
known-one contents o w bounds =
    then-one (DesignRead (Some contents) o w) (MadeKnown bounds) (design-one contents o w) (λ design. once (MadeKnown bounds design) (made-known-one bounds design))

-- so do those that `plan` reads
pub plan-one : (contents : Contents) (o : PlanOptions) → GivesOne contents.may_fail (PlanRead (Some contents) o)
plan-one contents o =
    alike-then design_in (PlanInput (Some contents) o) (MadeKnown o.bounds) (input-alike contents o) (λ design. once (MadeKnown o.bounds design) (made-known-one o.bounds design))

-- a design with the same blocks has a block for each that the files name
kept-blocks : (blocks : List RawBlock) (design known : Design) → known.blocks ≡ design.blocks → HasBlocksOf blocks design → HasBlocksOf blocks known
kept-blocks blocks design known same h = record {
  count = ap (λ (bs : List Block). length bs) same ∙ h.count;
  names = ap (λ (bs : List Block). map (λ (b : Block). b.name) bs) same ∙ h.names;
}

-- what `plan` reads has the blocks that its files name
pub plan-blocks : (contents : Contents) (o : PlanOptions) (read : WeighedParts) (design : Design) → PartsRead (Some contents) o.design.per_unit o.design.input o.weights.net_weights (Ok read) → PlanRead (Some contents) o (Ok design)
    → HasBlocksOf read.parts.blocks design
plan-blocks contents o read design said stands =
    elim stands [
      | inl m ↦ kept-blocks read.parts.blocks m.0.0 design (known-blocks o.bounds m.0.0 design m.2) (input-blocks contents o read m.0 said m.1)
      | inr m ↦ (let e = m.2 in absurd (cc))
    ]

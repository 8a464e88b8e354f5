use Rattle.std.proofs.Common.{arith, subst}
use borrow.Author.Count.{below_more}
use Rattle.sf_place.proofs.Common.{IsListed}
use Rattle.sf_place.proofs.Numbered.{all_by_number}
use Rattle.sf_place.proofs.verdict.first_unlisted.Goals as goal

pub is_listed-requires : goal.is_listed-requires
is_listed-requires c = omega (arith, c.spot_at-spot.ensures.block)

pub loop-block-preserved : goal.loop-block-preserved
loop-block-preserved c =
    below_more _ _ c.loop-block.invariant (subst (IsListed c.args.design.now) c.spot_at-spot.ensures.spot (c.is_listed.ensures.0 c.if-not-is_listed.false))

pub returns : goal.returns
returns c =
    all_by_number (IsListed c.args.design.now) c.args.spots.now c.requires.by_number
    (λ a h. c.loop-block.invariant a (omega arith))

use Rattle.std.proofs.Common.{◌≡◌, ◌-◌, length, arith, subst}
use Rattle.sf_subsets.proofs.Common.{AddsSplits, curve_at, AddsPair}
use Rattle.sf_subsets.proofs.Bits.{common-part, part-le}
use Rattle.sf_subsets.proofs.Added.{splits-begin, splits-next}
use Rattle.sf_subsets.proofs.table.gather_splits.Goals as goal

pub overflow_sub-set : goal.overflow_sub-set
overflow_sub-set c = omega (arith, part-le c.loop-part.part c.args.rest c.loop-part.invariant.0, c.requires.below, c.len-set.ensures)

pub gather_near-requires-clause-first : goal.gather_near-requires-clause-first
gather_near-requires-clause-first c = omega (arith, c.loop-part-test.true, c.requires.below, c.len-set.ensures)

pub gather_near-requires-clause-second : goal.gather_near-requires-clause-second
gather_near-requires-clause-second c = omega (arith, part-le c.loop-part.part c.args.rest c.loop-part.invariant.0, c.requires.below)

pub loop-part-init : goal.loop-part-init
loop-part-init c =
    let curves = c.args.table.now.curves.items in
    (λ i. omega arith, splits-begin c.args.outline c.args.limit curves (length curves) c.args.rest c.args.found.now.items)

pub loop-part-preserved : goal.loop-part-preserved
loop-part-preserved c =
    let a = c.args in
    let curves = a.table.now.curves.items in
    let part = c.loop-part.part in
    let count : c.len-set.result ≡ length curves = omega (arith, c.len-set.ensures) in
    let pair : AddsPair a.outline a.limit (curve_at curves (length curves - part)) (curve_at curves part) c.loop-part.found.items c.gather_near.new.found.items =
    subst (λ v. AddsPair a.outline a.limit (curve_at curves (v - part)) (curve_at curves part) c.loop-part.found.items c.gather_near.new.found.items) count c.in_ok-gather_near.ensures in (
      common-part (part - 1) a.rest,
      splits-next a.outline a.limit curves (length curves) a.rest part a.found.now.items c.loop-part.found.items c.gather_near.new.found.items c.requires.part c.requires.below (omega (arith, c.loop-part-test.true)) c.loop-part.invariant.0 c.loop-part.invariant.1 pair,
    )

pub returns : goal.returns
returns c =
    let a = c.args in
    let curves = a.table.now.curves.items in
    let e : c.loop-part.part ≡ 0 = omega (arith, c.loop-part-test.false) in
    subst (λ v. AddsSplits a.outline a.limit curves (length curves) a.rest v a.found.now.items c.loop-part.found.items) e c.loop-part.invariant.1

use Rattle.std.proofs.Common.{◌≡◌, ◌+◌, ◌^◌, ◌≤◌, arith, subst}
use Rattle.sf_subsets.proofs.Common.{IsTable, IsWithin, area_of, All-weaker}
use Rattle.sf_subsets.proofs.Bits.{power-more}
use Rattle.sf_subsets.proofs.Blocks.{within-small}
use Rattle.sf_subsets.proofs.Filled.{table-push}
use Rattle.sf_subsets.proofs.table.add_block.Goals as goal

pub push_curve-requires-clause-small : goal.push_curve-requires-clause-small
push_curve-requires-clause-small c =
    let design = c.args.design.now in
    All-weaker (IsWithin design.outline) (λ p. area_of p ≤ 2 ^ 40) (λ p fit. within-small design.outline p design.limits.width design.limits.height fit) c.in_ok-curve.curve c.in_ok-curve.ensures.within

pub loop-rest-preserved : goal.loop-rest-preserved
loop-rest-preserved c =
    let a = c.args in
    let k = 2 ^ a.block in
    let e : (k + c.loop-rest.rest) + 1 ≡ k + (c.loop-rest.rest + 1) = omega arith in
    subst (λ v. IsTable a.design.now a.budget.now v c.push_curve.new.table) e
    (table-push a.design.now a.budget.now (k + c.loop-rest.rest) c.loop-rest.table c.push_curve.new.table c.in_ok-curve.curve c.in_ok-push_curve.ensures.curves c.in_ok-push_curve.ensures.floors c.loop-rest.invariant c.in_ok-curve.ensures)

pub returns : goal.returns
returns c =
    let a = c.args in
    let e : 2 ^ a.block + c.loop-rest.rest ≡ 2 ^ (a.block + 1) =
    omega (arith, power-more a.block, c.loop-rest-test.false, c.loop-rest.auto.rest-end, c.len-others.ensures, c.requires.table.count) in
    subst (λ v. IsTable a.design.now a.budget.now v c.loop-rest.table) e c.loop-rest.invariant

use Rattle.std.proofs.Common.{◌≡◌, ◌^◌, ◌∷◌, ◌++◌, [], ap, arith, subst, ◌∙◌}
use Rattle.sf_subsets.proofs.Common.{IsTable, block_count}
use Rattle.sf_subsets.proofs.Filled.{table-begins}
use Rattle.sf_subsets.proofs.table.set_curves.Goals as goal

pub loop-block-init : goal.loop-block-init
loop-block-init c =
    table-begins c.args.design.now c.args.budget.now c.push_curve.new.table
    (c.in_ok-push_curve.ensures.curves ∙ ap (λ v. v ++ c.in_ok-empty_curve.field-0 ∷ []) c.new.ensures.items ∙ ap (λ v. v ∷ []) c.in_ok-empty_curve.ensures)
    c.in_ok-push_curve.ensures.floors

pub returns : goal.returns
returns c =
    let a = c.args in
    let e : c.loop-block.block ≡ block_count a.design.now =
    omega (arith, c.loop-block.auto.block-end, c.loop-block-test.false, c.block_count-block-end.ensures) in
    subst (λ v. IsTable a.design.now a.budget.now (2 ^ v) c.loop-block.table) e c.loop-block.invariant

use Rattle.std.proofs.Common.{◌≡◌}
use Rattle.sf_subsets.proofs.Common.{IfOk-weaker, IsPlanOfSize, plan_in, tree_of}
use Rattle.sf_model.specs.declared.plan.Plan.{Plan}
use Rattle.sf_subsets.proofs.Splits.{leaf-found, split-found}
use Rattle.sf_subsets.proofs.tracing.+plan_of_size.Goals as goal

pub returns-in_default : goal.returns-in_default
returns-in_default t c design made on =
    leaf-found design c.args.curves.now c.args.set c.lowest_block.result c.args.size (made c.args.set c.requires.inside c.args.size on) c.in_default.ensures c.lowest_block.ensures

pub returns : goal.returns
returns t c design made on =
    let split = c.in-Some.split in
    let first = c.in_ok-first.first in
    let second = c.in_ok-second.second in
    IfOk-weaker c.joined.result (λ (plan : Plan). tree_of plan ≡ plan_in split.direction (tree_of first) (tree_of second)) (λ plan. IsPlanOfSize design c.args.set c.args.size (tree_of plan))
    (λ (plan : Plan) e.
    split-found design c.args.curves.now c.args.set c.args.size split (tree_of first) (tree_of second) (tree_of plan) c.in-Some.ensures (c.in_ok-first.ensures design made c.in-Some.ensures.first) (c.in_ok-second.ensures design made c.in-Some.ensures.second) e)
    c.joined.ensures

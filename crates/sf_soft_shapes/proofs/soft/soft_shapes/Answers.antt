use Rattle.std.proofs.Common.{rules, arith}
use Rattle.sf_soft_shapes.proofs.Common.{common_steps, IsSoftList}
use Rattle.sf_soft_shapes.proofs.Spread.{soft_choice}
use Rattle.sf_soft_shapes.proofs.soft.soft_shapes.Goals as goal

pub returns-clause-choice : goal.returns-clause-choice
returns-clause-choice c =
    let is : IsSoftList c.args.area c.args.least c.args.most c.args.k c.in_ok-shapes_between.field-0.items = first_of (search rules, grind (arith, common_steps)) in
    soft_choice c.args.area c.args.least c.args.most c.args.k c.in_ok-shapes_between.field-0.items (omega arith) (omega arith) (omega arith) is

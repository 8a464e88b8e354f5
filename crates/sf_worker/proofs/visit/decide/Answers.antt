use Rattle.std.proofs.Common.{sym, ◌∙◌}
use Rattle.sf_worker.proofs.Deciding.{spans-few, some-wide}
use Rattle.sf_worker.proofs.visit.decide.Goals as goal

pub first_wide-requires : goal.first_wide-requires
first_wide-requires g c = spans-few c.args.design.now c.args.node.now c.requires.subproblem

pub unreachable-requires-in_default-first_wide : goal.unreachable-requires-in_default-first_wide
unreachable-requires-in_default-first_wide g c =
    some-wide c.args.design.now c.args.node.now (sym c.is_complete.ensures ∙ c.if-is_complete.true) (sym c.is_solved.ensures ∙ c.if-is_solved.false) (c.in_default-first_wide.ensures)

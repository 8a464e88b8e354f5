use Rattle.std.proofs.Common.{sym, subst}
use Rattle.sf_checker.proofs.Common.{IsFed}
use Rattle.sf_checker.proofs.Fed.{fed-answer, fed-stage}
use Rattle.sf_checker.proofs.pieces.Checking.finish.Goals as goal

pub returns-in-Ok-clause-answer : goal.returns-in-Ok-clause-answer
returns-in-Ok-clause-answer g c design bound part text fed =
    let inside = c.self.inside in
    let own = subst (IsFed g.B.Values.value g.B.Bounds.part_value design bound part text) (sym c.self.view_is) fed in
    fed-answer g.B.Values.value g.B.Bounds.part_value design bound part inside.design.now inside.bounds.now text inside.stage c.in-Ok.answer own
    (c.in-Ok.ensures.answer text (fed-stage g.B.Values.value g.B.Bounds.part_value design bound part inside.design.now inside.bounds.now text inside.stage own))

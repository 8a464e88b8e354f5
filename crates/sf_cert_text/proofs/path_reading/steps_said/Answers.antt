use Rattle.std.proofs.Common.{sym, subst, List}
use Rattle.sf_cert_text.proofs.Common.{Step}
use Rattle.sf_cert_text.proofs.PathReads.{IsSaying, saying-more}
use Rattle.sf_cert_text.proofs.path_reading.steps_said.Goals as goal

pub loop-net-preserved : goal.loop-net-preserved
loop-net-preserved c =
    subst (λ (steps : List Step). IsSaying c.args.line.now steps c.in-Some-next_field.after.now) (sym c.in_ok-push.ensures.items)
    (saying-more c.args.line.now c.loop-net.steps.items c.loop-net.rest.now c.loop-net.invariant
    c.in-Some.net.now c.in-Some-next_field.to.now c.in-Some.after.now c.in-Some-next_field.after.now c.in-Some-step_in.step
    c.in-Some.ensures.words c.in-Some-next_field.ensures.words c.in-Some-step_in.ensures)

use Rattle.sf_cert_text.proofs.Common.{All-more, Block, Step, FitsStep}
use Rattle.sf_cert_text.proofs.PathTexts.{steps-more}
use Rattle.sf_cert_text.proofs.path_writing.push_steps.Goals as goal

pub loop-step-preserved : goal.loop-step-preserved
loop-step-preserved c =
    let steps = c.args.steps.now in
    let i = c.loop-step.step-index in
    let none : Step = record { net = 0; to = Block 0 } in
    record {
      text = steps-more steps i none _ _ _ c.loop-step-test.true c.loop-step.invariant.text c.in_ok-push_step.ensures.text;
      fits = All-more FitsStep steps i none c.loop-step-test.true c.loop-step.invariant.fits c.in_ok-push_step.ensures.fits;
    }

use Rattle.std.proofs.Common.{◌<◌, length, get_or, take, arith, ap, subst, sym, ◌∙◌}
use Rattle.sf_resume.proofs.Common.{take_more, after, walk, CanStep, CanWalk, root, walk-append}
use Rattle.sf_node.specs.declared.step.Step.TheVariants.{Beside}
use Rattle.sf_resume.proofs.Readings.{can-at}
use Rattle.sf_resume.proofs.reading.cursor_at.Goals as goal

pub enter-requires-clause-can : goal.enter-requires-clause-can
enter-requires-clause-can g c =
    let top = root c.args.design.now in
    let steps = c.steps-steps.result.now in
    let i = c.loop-step.step-index in
    let lt : i < length steps = omega arith in
    subst (λ n. CanStep n (get_or steps i Beside)) (sym c.loop-step.invariant.node)
    (can-at top steps i Beside (subst (CanWalk top) (sym c.steps-steps.ensures) c.requires.reached) lt)

pub loop-step-preserved : goal.loop-step-preserved
loop-step-preserved g c =
    let top = root c.args.design.now in
    let steps = c.steps-steps.result.now in
    let i = c.loop-step.step-index in
    let step = get_or steps i Beside in
    let lt : i < length steps = omega arith in
    record {
      way = c.in_ok-enter.ensures.at;
      node = c.in_ok-enter.ensures.node ∙ ap (λ n. after n step) c.loop-step.invariant.node
          ∙ sym (ap (walk top) (take_more steps i Beside lt) ∙ walk-append top (take i steps) step);
    }

use Rattle.std.proofs.Common.{◌≡◌, ℕ, ◌+◌, ◌<◌, length, get_or, arith, refl, cond, ◌∙◌, ◌==◌}
use Rattle.sf_model.proofs.Common.{cond-true, eq-eqb, get_or_default, sum_by_more, sum_by-take-le, Step}
use Rattle.sf_model.specs.declared.parts.Pin.TheVariants as pin
use Rattle.sf_model.proofs.routing.take_nets.Goals as goal

pub returns-then-index-eq0-clause-over : goal.returns-then-index-eq0-clause-over
returns-then-index-eq0-clause-over c =
    let steps = c.args.steps.now in
    let i = c.loop-step.step-index in
    let none : Step = record { net = 0; to = pin.Block 0 } in
    let inside : i < length steps = omega arith in
    let net = (get_or steps i none).net in
    let there : net < length c.args.left.now.items = c.requires i none inside in
    let f : Step → ℕ = λ s. cond (s.net == net) 1 0 in
    let one : ◌≡◌ {A = ℕ} (cond (net == net) 1 0) 1 = cond-true (net == net) 1 0 (eq-eqb net net refl) in
    let more = sum_by_more f steps i none inside in
    let most = sum_by-take-le f steps (i + 1) in
    let kept = c.loop-step.invariant.1 net there in
    let held : net < length c.loop-step.left.items = omega (arith, there, c.loop-step.invariant.0) in
    let read : c.index.result.now ≡ get_or c.loop-step.left.items net 0 = c.index.ensures ∙ get_or_default c.loop-step.left.items net c.index.result.now 0 held in
    let gone : get_or c.loop-step.left.items net 0 ≡ 0 = omega (arith, c.if-index-eq0.true, read) in
    λ _. (net, there, omega (arith, one, more, most, kept, gone))

use Rattle.std.proofs.Common.{arith, sym, ◌∙◌, true≢false}
use Rattle.sf_model.proofs.Used.{hop-fails}
use Rattle.sf_model.proofs.routing.walks.Goals as goal

pub returns-then-not-is_hop : goal.returns-then-not-is_hop
returns-then-not-is_hop c = (
  λ h. absurd (true≢false (sym h)),
  λ all. absurd (hop-fails c.args.nets.now c.args.path.now c.as_slice-step-items.result.now c.loop-step.step-index c.loop-step.at c.as_slice-step-items.ensures (omega (arith, c.loop-step-test.true)) c.loop-step.invariant
      (λ hop. true≢false (sym (c.is_hop.ensures.1 hop) ∙ c.if-not-is_hop.true)) all),
)

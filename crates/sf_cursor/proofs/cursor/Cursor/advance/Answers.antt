use Rattle.std.proofs.Common.{sym, ◌∙◌, arith}
use Rattle.sf_cursor.proofs.Ways.{next-can, passed, turned, beyond-none, farther}
use Rattle.sf_cursor.proofs.Common.{root}
use Rattle.sf_cursor.proofs.cursor.Cursor.advance.Goals as goal

pub enter-requires-clause-can : goal.enter-requires-clause-can
enter-requires-clause-can g c = next-can c.leave_to.new.self.node c.in-Some.step c.in-Some-next_step.next c.in-Some.ensures.back.0.can c.in-Some-next_step.ensures

pub returns-in-Some-next_step-clause-next : goal.returns-in-Some-next_step-clause-next
returns-in-Some-next_step-clause-next g c =
    turned c.args.design.now (g.V.Values.value c.args.values.now c.args.design.now) c.args.floor c.loop-step.self.node c.in-Some.step c.in-Some-next_step.next c.in-Some.value c.leave_to.new.self c.enter.new.self.node c.in-Some.ensures.back.0
    c.in-Some.ensures.back.1 c.in-Some-next_step.ensures c.in_ok-enter.ensures.node
    ∙ c.loop-step.invariant.beyond

pub returns-in-Some-next_step-clause-whole : goal.returns-in-Some-next_step-clause-whole
returns-in-Some-next_step-clause-whole g c = λ e.
    turned c.args.design.now (g.V.Values.value c.args.values.now c.args.design.now) 0 c.loop-step.self.node c.in-Some.step c.in-Some-next_step.next c.in-Some.value c.leave_to.new.self c.enter.new.self.node c.in-Some.ensures.back.0
    (omega arith) c.in-Some-next_step.ensures c.in_ok-enter.ensures.node
    ∙ c.loop-step.invariant.whole

pub returns-in-Some-next_step-clause-above : goal.returns-in-Some-next_step-clause-above
returns-in-Some-next_step-clause-above g c = λ e. farther c.args.floor c.leave_to.new.self.node c.enter.new.self.node c.in-Some-next_step.next c.in-Some.ensures.back.1 c.in_ok-enter.ensures.node

pub loop-step-preserved : goal.loop-step-preserved
loop-step-preserved g c = record {
  at = c.in-Some.ensures.at;
  beyond = sym (passed c.args.design.now (g.V.Values.value c.args.values.now c.args.design.now) c.args.floor c.loop-step.self.node c.in-Some.step c.in-Some.value c.leave_to.new.self c.in-Some.ensures.back.0 c.in-Some.ensures.back.1 c.in_default-next_step.ensures) ∙ c.loop-step.invariant.beyond;
  whole = sym (passed c.args.design.now (g.V.Values.value c.args.values.now c.args.design.now) 0 c.loop-step.self.node c.in-Some.step c.in-Some.value c.leave_to.new.self c.in-Some.ensures.back.0 (omega arith) c.in_default-next_step.ensures) ∙ c.loop-step.invariant.whole;
}

pub returns-clause-next : goal.returns-clause-next
returns-clause-next g c = sym (beyond-none c.args.floor (root c.args.design.now) c.loop-step.self.node.steps c.in_default.ensures.back) ∙ c.loop-step.invariant.beyond

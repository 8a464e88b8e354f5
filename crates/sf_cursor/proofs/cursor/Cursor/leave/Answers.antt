use Rattle.std.proofs.Common.{ap, subst, sym, ◌∙◌, arith, false}
use Rattle.sf_cursor.proofs.Common.{HalvesOne, flags_after, NamesOne}
use Rattle.sf_cursor.proofs.Ways.{last-as, halves-one, path-back, names-back, names-few}
use Rattle.sf_cursor.proofs.cursor.Cursor.leave.Goals as goal

pub leave-requires : goal.leave-requires
leave-requires g c =
    let e = last-as _ _ c.in_ok-step.field-0.now (c.steps.ensures ∙ ap (λ p. p.node.steps) c.self.view_is) c.in_ok-step.ensures.value in
    subst (λ p. HalvesOne p.node c.in_ok-step.field-0.now) (sym c.self.view_is) (halves-one _ _ _ _ _ c.requires.at e)

pub returns-clause-back : goal.returns-clause-back
returns-clause-back g c =
    let e = last-as _ _ c.in_ok-step.field-0.now (c.steps.ensures ∙ ap (λ p. p.node.steps) c.self.view_is) c.in_ok-step.ensures.value in
    path-back _ _ _ _ _ c.in_ok-step.field-0.now c.in-Some.level c.requires.at e
    (ap (λ p. p.levels) (sym c.self.view_is) ∙ c.in-Some.ensures.items)
    (λ before f k. c.leave.ensures before (ap (λ p. p.node) c.self.view_is ∙ f) k)
    (c.mark.ensures ∙ ap (λ p. flags_after p.used c.in_ok-step.field-0.now false) c.self.view_is)
    (omega (arith, c.step_blocks.ensures, ap (λ p. p.operands) c.self.view_is))

pub returns-clause-at : goal.returns-clause-at
returns-clause-at g c = (returns-clause-back g c).at

pub mark-requires : goal.mark-requires
mark-requires g c =
    let e = last-as _ _ c.in_ok-step.field-0.now (c.steps.ensures ∙ ap (λ p. p.node.steps) c.self.view_is) c.in_ok-step.ensures.value in
    subst (λ p. NamesOne c.in_ok-step.field-0.now p.used) (sym c.self.view_is) (names-back _ _ _ _ _ c.requires.at e)

pub overflow_sub-self : goal.overflow_sub-self
overflow_sub-self g c =
    let e = last-as _ _ c.in_ok-step.field-0.now (c.steps.ensures ∙ ap (λ p. p.node.steps) c.self.view_is) c.in_ok-step.ensures.value in
    omega (arith, c.step_blocks.ensures, ap (λ p. p.operands) c.self.view_is, names-few _ _ _ _ _ c.requires.at e)

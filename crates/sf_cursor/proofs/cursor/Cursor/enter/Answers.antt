use Rattle.std.proofs.Common.{ap, ◌∙◌, ◌++◌, ◌∷◌, [], arith, true}
use Rattle.sf_cursor.proofs.Common.{after, halved, Level, flags_after}
use Rattle.sf_cursor.proofs.Flags.{few-operands, named-most}
use Rattle.sf_cursor.proofs.Ways.{few-on, path-on}
use Rattle.sf_cursor.proofs.cursor.Cursor.enter.Goals as goal

pub returns-clause-at : goal.returns-clause-at
returns-clause-at g c =
    let bound = g.V.Values.value c.args.values.now c.args.design.now in
    let level : Level = record { value = c.args.value; span = c.halved-span.result } in
    path-on c.args.design.now bound c.args.self.now _ c.args.step level c.requires.at c.requires.can
    (record { span = c.halved-span.ensures ∙ ap (λ p. halved p.node c.args.step) c.self.view_is; worth = c.requires.value })
    (c.in_ok-enter.ensures ∙ ap (λ p. after p.node c.args.step) c.self.view_is)
    (c.in_ok-push.ensures.items ∙ ap (λ p. p.levels ++ level ∷ []) c.self.view_is)
    (c.mark.ensures ∙ ap (λ p. flags_after p.used c.args.step true) c.self.view_is)
    (omega (arith, c.step_blocks.ensures, ap (λ p. p.operands) c.self.view_is))

pub overflow_add-self : goal.overflow_add-self
overflow_add-self g c =
    let now = c.args.self.now in
    omega (arith, few-operands c.args.design.now now.node c.requires.at.sub, c.requires.at.operands, ap (λ p. p.operands) c.self.view_is, c.step_blocks.ensures, named-most c.args.step)

pub invariant_of-self-in_err-enter : goal.invariant_of-self-in_err-enter
invariant_of-self-in_err-enter g c =
    few-on c.args.design.now (g.V.Values.value c.args.values.now c.args.design.now) c.args.self.now c.args.step c.self.inside.levels.items _ _ c.requires.at c.requires.can
    (ap (λ p. p.levels) c.self.view_is) c.in_ok-push.ensures.items

pub invariant_of-self-2 : goal.invariant_of-self-2
invariant_of-self-2 g c =
    few-on c.args.design.now (g.V.Values.value c.args.values.now c.args.design.now) c.args.self.now c.args.step c.self.inside.levels.items _ _ c.requires.at c.requires.can
    (ap (λ p. p.levels) c.self.view_is) c.in_ok-push.ensures.items

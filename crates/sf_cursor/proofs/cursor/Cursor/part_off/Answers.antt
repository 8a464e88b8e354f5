use Rattle.std.proofs.Common.{◌≡◌, ap, ◌∙◌, sym, subst, IfSome}
use Rattle.sf_cursor.proofs.Common.{Beside}
use Rattle.sf_cursor.proofs.Ways.{next-can}
use Rattle.sf_cursor.proofs.cursor.Cursor.part_off.Goals.{in-Some-get, in-None}
use Rattle.sf_cursor.proofs.Parting.{way-value, way-can, way-on, way-parts}
use Rattle.sf_cursor.proofs.cursor.Cursor.part_off.Goals as goal

pub next_beyond-requires-clause-can : goal.next_beyond-requires-clause-can
next_beyond-requires-clause-can g c =
    let same = c.steps-steps.ensures ∙ ap (λ p. p.node.steps) c.self.view_is in
    way-can _ _ _ _ _ _ _ Beside c.requires.at c.loop-level.invariant same c.loop-level-test.true

pub enter-requires-clause-can : goal.enter-requires-clause-can
enter-requires-clause-can g c =
    let same = c.steps-steps.ensures ∙ ap (λ p. p.node.steps) c.self.view_is in
    next-can c.loop-level.part.node _ c.in-Some.next (way-can _ _ _ _ _ _ _ Beside c.requires.at c.loop-level.invariant same c.loop-level-test.true) c.in-Some.ensures.1

pub returns-in-Some : goal.returns-in-Some
returns-in-Some g c =
    let same = c.steps-steps.ensures ∙ ap (λ p. p.node.steps) c.self.view_is in
    way-parts _ _ _ _ _ _ _ Beside c.requires.at c.loop-level.invariant same c.loop-level-test.true c.in-Some.next c.enter.new.self c.in-Some.ensures.0 c.in-Some.ensures.1 c.in_ok-enter.ensures.at c.in_ok-enter.ensures.node

pub enter-requires-in-loop-level-clause-can : goal.enter-requires-in-loop-level-clause-can
enter-requires-in-loop-level-clause-can g c =
    let same = c.steps-steps.ensures ∙ ap (λ p. p.node.steps) c.self.view_is in
    way-can _ _ _ _ _ _ _ Beside c.requires.at c.loop-level.invariant same c.loop-level-test.true

pub loop-level-preserved : goal.loop-level-preserved
loop-level-preserved g c =
    let same = c.steps-steps.ensures ∙ ap (λ p. p.node.steps) c.self.view_is in
    way-on _ _ _ _ _ _ _ Beside c.requires.at c.loop-level.invariant same c.loop-level-test.true c.enter-in-loop-level.new.self c.in_ok-enter-2.ensures.at c.in_ok-enter-2.ensures.node c.in_default.ensures

pub enter-requires-clause-value : goal.enter-requires-clause-value
enter-requires-clause-value g c =
    let same = c.steps-steps.ensures ∙ ap (λ p. p.node.steps) c.self.view_is in
    let bound = g.V.Values.value c.args.values.now c.args.design.now in
    elim c.match-get.branch [
      | in-Some-get w ↦ (
          let kept = w.in-Some-get.kept.now in
          let worth : IfSome kept.value (λ value. value ≡ bound c.loop-level.part.node) =
          way-value _ _ _ _ _ _ _ Beside c.requires.at c.loop-level.invariant same c.loop-level-test.true
          c.deref.result.now kept (c.deref.ensures.value ∙ ap (λ p. p.levels) c.self.view_is) w.in-Some-get.ensures.lookup.1 in
          subst (λ o. IfSome o (λ value. value ≡ bound c.loop-level.part.node)) (sym w.value-is) worth)
      | in-None w ↦ subst (λ o. IfSome o (λ value. value ≡ bound c.loop-level.part.node)) (sym w.value-is) tt
    ]

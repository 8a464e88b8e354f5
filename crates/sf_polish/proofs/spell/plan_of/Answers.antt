use Rattle.std.proofs.Common.{length, arith, refl, ap, sym, subst, ◌∙◌}
use Rattle.sf_polish.specs.declared.expr.Token.TheVariants as token
use Rattle.sf_polish.proofs.Stack.{Reads}
use Rattle.sf_polish.proofs.Normality.{normal-reads}
use Rattle.sf_polish.proofs.Stacked.{reading-start, reading-two, block-step, beside-step, above-step, reading-end, reading-result, last-left}
use Rattle.sf_polish.proofs.spell.plan_of.Goals as goal
use Rattle.sf_polish.proofs.spell.plan_of.Goals.{in-Block+in_ok-push-in-Block, in-Beside+in_ok-new-in-Beside+in_ok-new-in-Beside-2+in_ok-push-in-Beside, in-Above+in_ok-new-in-Above+in_ok-new-in-Above-2+in_ok-push-in-Above}

pub loop-token-init : goal.loop-token-init
loop-token-init c =
    reading-start c.as_slice-shapes.result.now c.as_slice-tokens.result.now c.new-stack.result.items c.new-stack.ensures.items
    (subst (λ z. Reads 0 z 1) (sym c.as_slice-tokens.ensures) (normal-reads (length c.args.expr.now.shapes) c.args.expr.now.tokens c.requires.normal))

pub take_last-right-requires : goal.take_last-right-requires
take_last-right-requires c =
    omega (arith, reading-two c.as_slice-shapes.result.now c.as_slice-tokens.result.now c.loop-token.token-index c.loop-token-test.true token.Beside c.loop-token.stack.items token.Beside c.loop-token.invariant c.in-Beside.is (λ s. s.0))

pub take_last-left-requires : goal.take_last-left-requires
take_last-left-requires c =
    last-left c.loop-token.stack.items c.take_last-right.new.stack.items c.take_last-right.result
    (reading-two c.as_slice-shapes.result.now c.as_slice-tokens.result.now c.loop-token.token-index c.loop-token-test.true token.Beside c.loop-token.stack.items token.Beside c.loop-token.invariant c.in-Beside.is (λ s. s.0)) c.take_last-right.ensures

pub take_last-upper-requires : goal.take_last-upper-requires
take_last-upper-requires c =
    omega (arith, reading-two c.as_slice-shapes.result.now c.as_slice-tokens.result.now c.loop-token.token-index c.loop-token-test.true token.Beside c.loop-token.stack.items token.Above c.loop-token.invariant c.in-Above.is (λ s. s.0))

pub take_last-lower-requires : goal.take_last-lower-requires
take_last-lower-requires c =
    last-left c.loop-token.stack.items c.take_last-upper.new.stack.items c.take_last-upper.result
    (reading-two c.as_slice-shapes.result.now c.as_slice-tokens.result.now c.loop-token.token-index c.loop-token-test.true token.Beside c.loop-token.stack.items token.Above c.loop-token.invariant c.in-Above.is (λ s. s.0)) c.take_last-upper.ensures

pub loop-token-preserved : goal.loop-token-preserved
loop-token-preserved c =
    let shapes = c.as_slice-shapes.result.now in
    let tokens = c.as_slice-tokens.result.now in
    let i = c.loop-token.token-index in
    elim c.match-token.branch [
      | in-Block+in_ok-push-in-Block w ↦ block-step shapes tokens i c.loop-token-test.true token.Beside c.loop-token.stack.items c.match-token.stack.items w.in-Block.block _ c.loop-token.invariant w.in-Block.is
          (ap (λ v. v.items) w.stack-is ∙ w.in_ok-push-in-Block.ensures.items) refl
      | in-Beside+in_ok-new-in-Beside+in_ok-new-in-Beside-2+in_ok-push-in-Beside w ↦ beside-step shapes tokens i c.loop-token-test.true token.Beside c.loop-token.stack.items w.take_last-right.new.stack.items w.take_last-left.new.stack.items c.match-token.stack.items w.take_last-left.result w.take_last-right.result _ c.loop-token.invariant w.in-Beside.is
          w.take_last-right.ensures w.take_last-left.ensures (ap (λ v. v.items) w.stack-is ∙ w.in_ok-push-in-Beside.ensures.items)
          (cc (w.in_ok-new-in-Beside.ensures.ok, w.in_ok-new-in-Beside-2.ensures.ok))
      | in-Above+in_ok-new-in-Above+in_ok-new-in-Above-2+in_ok-push-in-Above w ↦ above-step shapes tokens i c.loop-token-test.true token.Beside c.loop-token.stack.items w.take_last-upper.new.stack.items w.take_last-lower.new.stack.items c.match-token.stack.items w.take_last-lower.result w.take_last-upper.result _ c.loop-token.invariant w.in-Above.is
          w.take_last-upper.ensures w.take_last-lower.ensures (ap (λ v. v.items) w.stack-is ∙ w.in_ok-push-in-Above.ensures.items)
          (cc (w.in_ok-new-in-Above.ensures.ok, w.in_ok-new-in-Above-2.ensures.ok))
    ]

pub take_last-requires : goal.take_last-requires
take_last-requires c =
    omega (arith, (reading-end c.as_slice-shapes.result.now c.as_slice-tokens.result.now c.loop-token.stack.items c.loop-token.token-index c.loop-token-test.false c.loop-token.invariant).0)

pub returns-clause-spelled : goal.returns-clause-spelled
returns-clause-spelled c =
    (reading-result c.args.expr.now (length c.args.expr.now.shapes) c.as_slice-shapes.result.now c.as_slice-tokens.result.now c.loop-token.stack.items c.take_last.new.stack.items c.take_last.result c.loop-token.token-index c.as_slice-shapes.ensures c.as_slice-tokens.ensures c.requires.normal c.loop-token-test.false c.loop-token.invariant c.take_last.ensures).spells

pub returns-clause-skewed : goal.returns-clause-skewed
returns-clause-skewed c =
    (reading-result c.args.expr.now (length c.args.expr.now.shapes) c.as_slice-shapes.result.now c.as_slice-tokens.result.now c.loop-token.stack.items c.take_last.new.stack.items c.take_last.result c.loop-token.token-index c.as_slice-shapes.ensures c.as_slice-tokens.ensures c.requires.normal c.loop-token-test.false c.loop-token.invariant c.take_last.ensures).skewed

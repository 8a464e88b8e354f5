use Rattle.std.proofs.Common.{ap, ◌∙◌, ◌++◌, string_bytes, arith, lit<}
use Rattle.sf_polish.specs.declared.expr.Token.TheVariants.{Beside}
use Rattle.sf_expr_text.proofs.Written.{text-first, text-next}
use Rattle.sf_expr_text.proofs.write.push_expr.Goals as goal
use Rattle.sf_expr_text.proofs.write.push_expr.Goals.{then-place-gt0+in_ok-push, else-place-gt0}

pub loop-place-preserved : goal.loop-place-preserved
loop-place-preserved c =
    let shapes = c.as_slice-shapes.result.now in
    let tokens = c.as_slice-token-items.result.now in
    let i = c.loop-place.place in
    let old = string_bytes c.args.text.now in
    let before = string_bytes c.loop-place.text in
    let front = string_bytes c.if-place-gt0.text in
    c.in_ok-push_token.ensures ∙ (elim c.if-place-gt0.branch [
      | then-place-gt0+in_ok-push w ↦ text-next shapes tokens i Beside c.loop-place-test.true old before c.loop-place.invariant front (omega arith)
          (ap string_bytes w.text-is ∙ w.in_ok-push.ensures.bytes ∙ ap (λ z. before ++ z) (w.in_ok-push.ensures.ascii (lit< tt)))
      | else-place-gt0 w ↦ text-first shapes tokens i Beside c.loop-place-test.true old before c.loop-place.invariant front (omega arith) (ap string_bytes w.text-is)
    ])

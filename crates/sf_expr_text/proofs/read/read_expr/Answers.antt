use Rattle.std.proofs.Common.{arith, ap, sym, subst, ◌∙◌, Ok}
use Rattle.sf_expr_text.proofs.Common.{option_map, err_from_is_err_and, IfErr-weaker, line_words, token_after, shapes_with, Fails, token_of}
use Rattle.sf_expr_text.proofs.ReadSteps.{reading-step, reading-fails, reading-ends, keeping-step, keeping-ends, fails-at, expr-read, expr-fails}
use Rattle.sf_expr_text.proofs.Refused.{expr-refused}
use Rattle.sf_expr_text.proofs.TextLaws.{expr-spelled}
use Rattle.sf_expr_text.proofs.read.read_expr.Goals as goal

pub loop-word-preserved : goal.loop-word-preserved
loop-word-preserved c =
    let taken = c.in_ok-take.ensures.token in (
      reading-step _ _ _ _ _ _ _ _ _ taken.0 c.loop-word.invariant.0 c.in-Some.ensures.numbered
          (ap (token_after c.loop-word.reading.tokens.items c.in-Some.word.line) (ap (option_map token_of) (sym c.read_piece-piece.ensures.value) ∙ sym c.token_of.ensures) ∙ taken.1) taken.2,
      c.in_ok-take.ensures.same_blocks ∙ c.loop-word.invariant.1,
      keeping-step c.args.blocks (line_words c.args.text.now) c.loop-word.shapes.items _ _ _ _ c.loop-word.invariant.2 c.in-Some.ensures.numbered (c.keep_shape.ensures ∙ ap (shapes_with c.loop-word.shapes.items) c.read_piece-piece.ensures.value),
    )

pub returns-in_err-take-clause-fault : goal.returns-in_err-take-clause-fault
returns-in_err-take-clause-fault c =
    let e = c.in_err-take.field-0.0 in
    let p = err_from_is_err_and c.from_residual-in_err-take.result c.from_residual-in_err-take.ensures.1 in
    rw (p.1, p.2) (expr-fails c.args.blocks c.args.text.now e (reading-fails _ _ _ _ _ _ _ _ e c.loop-word.invariant.0 c.in-Some.ensures.numbered
    (subst (λ s. Fails e (token_after c.loop-word.reading.tokens.items c.in-Some.word.line s)) (c.token_of.ensures ∙ ap (option_map token_of) c.read_piece-piece.ensures.value) c.in_err-take.ensures.fault)))

pub returns-in_err-tokens-clause-fault : goal.returns-in_err-tokens-clause-fault
returns-in_err-tokens-clause-fault c =
    let e = c.in_err-tokens.field-0.0 in
    let all = reading-ends _ _ _ _ _ _ _ c.loop-word.invariant.0 c.in_default.ensures.numbered c.loop-word.invariant.1 in
    let p = err_from_is_err_and c.from_residual-in_err-tokens.result c.from_residual-in_err-tokens.ensures.1 in
    rw (p.1, p.2) (expr-fails c.args.blocks c.args.text.now e (fails-at e _ _ all c.in_err-tokens.ensures.fault))

pub returns-in_err-take-clause-refused : goal.returns-in_err-take-clause-refused
returns-in_err-take-clause-refused c = IfErr-weaker _ _ _ (expr-refused c.args.blocks (omega arith) c.args.text.now) (returns-in_err-take-clause-fault c)

pub returns-in_err-tokens-clause-refused : goal.returns-in_err-tokens-clause-refused
returns-in_err-tokens-clause-refused c = IfErr-weaker _ _ _ (expr-refused c.args.blocks (omega arith) c.args.text.now) (returns-in_err-tokens-clause-fault c)

pub returns-clause-expr : goal.returns-clause-expr
returns-clause-expr c =
    let all = reading-ends _ _ _ _ _ _ _ c.loop-word.invariant.0 c.in_default.ensures.numbered c.loop-word.invariant.1 in
    expr-read c.args.blocks c.args.text.now _ _ (all ∙ c.in_ok-tokens.ensures.tokens ∙ ap Ok (sym c.from_vec.ensures))
    (keeping-ends c.args.blocks (line_words c.args.text.now) c.loop-word.shapes.items _ c.loop-word.invariant.2 c.in_default.ensures.numbered ∙ sym c.from_vec-2.ensures)

pub returns-clause-spelled : goal.returns-clause-spelled
returns-clause-spelled c = expr-spelled c.args.blocks (omega arith) c.args.text.now _ (returns-clause-expr c)

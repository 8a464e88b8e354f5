use Rattle.std.proofs.Common.{arith, ◌≡◌, length, ap, sym, subst, ◌∙◌, Ok}
use Rattle.sf_expr_text.proofs.Common.{err_from_is_err_and, IfOk-weaker, IfErr-weaker, last_line_of, token_after, tokens_read, Fails, whole_tokens, SpellsTokens}
use Rattle.sf_expr_text.proofs.ReadSteps.{reading-step, reading-fails, reading-ends, fails-at}
use Rattle.sf_expr_text.proofs.Refused.{tokens-refused}
use Rattle.sf_expr_text.proofs.TextLaws.{tokens-spelled}
use Rattle.sf_expr_text.proofs.read.read_tokens.Goals as goal

pub loop-word-preserved : goal.loop-word-preserved
loop-word-preserved c =
    let taken = c.in_ok-take.ensures.token in (
      reading-step _ _ _ _ _ _ _ _ _ taken.0 c.loop-word.invariant.0 c.in-Some.ensures.numbered
          (ap (token_after c.loop-word.reading.tokens.items c.in-Some.word.line) (sym c.read_token.ensures.value) ∙ taken.1) taken.2,
      c.in_ok-take.ensures.same_blocks ∙ c.loop-word.invariant.1,
    )

pub returns-in_err-take-clause-fault : goal.returns-in_err-take-clause-fault
returns-in_err-take-clause-fault c =
    let e = c.in_err-take.field-0.0 in
    let p = err_from_is_err_and c.from_residual-in_err-take.result c.from_residual-in_err-take.ensures.1 in
    rw (p.1, p.2) (reading-fails _ _ _ _ _ _ _ _ e c.loop-word.invariant.0 c.in-Some.ensures.numbered
    (subst (λ s. Fails e (token_after c.loop-word.reading.tokens.items c.in-Some.word.line s)) c.read_token.ensures.value c.in_err-take.ensures.fault))

pub returns-in_err-take-clause-refused : goal.returns-in_err-take-clause-refused
returns-in_err-take-clause-refused c = IfErr-weaker _ _ _ (tokens-refused c.args.blocks (omega arith) c.args.text.now) (returns-in_err-take-clause-fault c)

pub returns-clause-tokens : goal.returns-clause-tokens
returns-clause-tokens c =
    let n = length c.loop-word.reading.named.items in
    let tokens = c.loop-word.reading.tokens.items in
    let all = reading-ends _ _ _ _ _ _ _ c.loop-word.invariant.0 c.in_default.ensures.numbered c.loop-word.invariant.1 in
    IfOk-weaker c.finish.result (λ v. whole_tokens n (last_line_of c.args.text.now) tokens ≡ Ok v.items) (λ v. tokens_read c.args.blocks c.args.text.now ≡ Ok v.items) (λ v h. all ∙ h) c.finish.ensures.tokens

pub returns-clause-spelled : goal.returns-clause-spelled
returns-clause-spelled c =
    IfOk-weaker c.finish.result (λ v. tokens_read c.args.blocks c.args.text.now ≡ Ok v.items) (λ v. SpellsTokens c.args.blocks c.args.text.now v.items) (λ v. tokens-spelled c.args.blocks (omega arith) c.args.text.now v.items) (returns-clause-tokens c)

pub returns-clause-fault : goal.returns-clause-fault
returns-clause-fault c =
    let all = reading-ends _ _ _ _ _ _ _ c.loop-word.invariant.0 c.in_default.ensures.numbered c.loop-word.invariant.1 in
    IfErr-weaker _ _ _ (λ e. fails-at e _ _ all) c.finish.ensures.fault

pub returns-clause-refused : goal.returns-clause-refused
returns-clause-refused c = IfErr-weaker _ _ _ (tokens-refused c.args.blocks (omega arith) c.args.text.now) (returns-clause-fault c)

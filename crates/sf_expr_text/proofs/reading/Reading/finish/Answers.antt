use Rattle.std.proofs.Common.{sym, ◌∙◌, ap}
use Rattle.sf_expr_text.proofs.Common.{list_all}
use Rattle.sf_expr_text.proofs.Named.{whole_tokens-missing, whole_tokens-unbalanced, whole_tokens-whole}
use Rattle.sf_expr_text.proofs.reading.Reading.finish.Goals as goal

pub returns-then-not-are_all_set-clause-fault : goal.returns-then-not-are_all_set-clause-fault
returns-then-not-are_all_set-clause-fault c =
    let r = c.args.self in
    rw c.last_line.ensures (whole_tokens-missing _ r.depth r.named.items r.tokens.items r.flags r.balance (ap (list_all (λ b. b)) (sym c.deref.ensures.value) ∙ sym c.are_all_set.ensures ∙ c.if-not-are_all_set.true))

pub returns-then-self-ne1-clause-fault : goal.returns-then-self-ne1-clause-fault
returns-then-self-ne1-clause-fault c =
    let r = c.args.self in
    rw c.last_line-then-self-ne1.ensures (whole_tokens-unbalanced _ r.depth r.named.items r.tokens.items r.flags r.balance (ap (list_all (λ b. b)) (sym c.deref.ensures.value) ∙ sym c.are_all_set.ensures ∙ c.if-not-are_all_set.false) c.if-self-ne1.true)

pub returns-clause-tokens : goal.returns-clause-tokens
returns-clause-tokens c =
    let r = c.args.self in
    whole_tokens-whole _ r.depth r.named.items r.tokens.items r.flags r.balance (ap (list_all (λ b. b)) (sym c.deref.ensures.value) ∙ sym c.are_all_set.ensures ∙ c.if-not-are_all_set.false) c.if-self-ne1.false

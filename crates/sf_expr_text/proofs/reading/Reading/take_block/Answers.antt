use Rattle.std.proofs.Common.{refl, sym, ◌∙◌}
use Rattle.sf_expr_text.proofs.Named.{flag-at, flags-push}
use Rattle.sf_expr_text.proofs.reading.Reading.take_block.Goals as goal

pub returns-then-index-clause-fault : goal.returns-then-index-clause-fault
returns-then-index-clause-fault c =
    let now = c.args.self.now in
    rw (sym (flag-at now.named.items now.tokens.items c.args.block c.index.result.now now.flags c.requires) ∙ sym c.index.ensures ∙ c.if-index.true) refl

pub invariant_of-self-2-clause-flags : goal.invariant_of-self-2-clause-flags
invariant_of-self-2-clause-flags c =
    let now = c.args.self.now in
    flags-push now.named.items now.tokens.items _ c.args.block now.flags c.requires c.in_ok-push.ensures.items

pub returns-clause-token : goal.returns-clause-token
returns-clause-token c =
    let now = c.args.self.now in (
      rw (sym (flag-at now.named.items now.tokens.items c.args.block c.index.result.now now.flags c.requires) ∙ sym c.index.ensures ∙ c.if-index.false) refl,
      c.in_ok-push.ensures.items,
    )

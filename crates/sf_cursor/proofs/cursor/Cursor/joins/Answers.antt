use Rattle.std.proofs.Common.{◌≡◌, ap, ◌∙◌, length, not}
use Rattle.sf_cursor.proofs.Common.{ends_in}
use Rattle.sf_cursor.proofs.Flags.{joins-yes, joins-no}
use Rattle.sf_cursor.proofs.cursor.Cursor.joins.Goals as goal

pub returns-then-tokens-self : goal.returns-then-tokens-self
returns-then-tokens-self g c =
    let same : c.tokens-tokens.result.now ≡ c.args.self.now.node.tokens = c.tokens-tokens.ensures ∙ ap (λ p. p.node.tokens) c.self.view_is in
    ap not (c.ends_in.ensures ∙ ap (ends_in c.args.operator) same)
    ∙ joins-yes c.args.operator c.args.self.now.node.tokens (length c.tokens-tokens.result.now) c.self.inside.operands (ap length same) (ap (λ p. p.operands) c.self.view_is ∙ c.requires.operands) c.if-tokens-self.true

pub returns-else-tokens-self : goal.returns-else-tokens-self
returns-else-tokens-self g c =
    let same : c.tokens-tokens.result.now ≡ c.args.self.now.node.tokens = c.tokens-tokens.ensures ∙ ap (λ p. p.node.tokens) c.self.view_is in
    joins-no c.args.operator c.args.self.now.node.tokens (length c.tokens-tokens.result.now) c.self.inside.operands (ap length same) (ap (λ p. p.operands) c.self.view_is ∙ c.requires.operands) c.if-tokens-self.false

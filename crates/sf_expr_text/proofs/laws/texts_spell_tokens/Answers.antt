use Rattle.sf_expr_text.proofs.TextLaws.{tokens-spelled, spelled-tokens}
use Rattle.sf_expr_text.proofs.laws.texts_spell_tokens.Goals as goal

pub returns-clause-spelled : goal.returns-clause-spelled
returns-clause-spelled c = λ blocks text tokens small. tokens-spelled blocks small text tokens

pub returns-clause-read : goal.returns-clause-read
returns-clause-read c = λ blocks text tokens small. spelled-tokens blocks small text tokens

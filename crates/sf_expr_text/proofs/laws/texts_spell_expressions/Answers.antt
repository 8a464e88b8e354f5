use Rattle.sf_expr_text.proofs.Common.{expr_text}
use Rattle.sf_expr_text.proofs.Respelled.{expr-written}
use Rattle.sf_expr_text.proofs.TextLaws.{expr-spelled, spelled-expr}
use Rattle.sf_expr_text.proofs.laws.texts_spell_expressions.Goals as goal

pub returns-clause-spelled : goal.returns-clause-spelled
returns-clause-spelled c = λ blocks text expr small. expr-spelled blocks small text expr

pub returns-clause-read : goal.returns-clause-read
returns-clause-read c = λ blocks text expr small. spelled-expr blocks small text expr

pub returns-clause-written : goal.returns-clause-written
returns-clause-written c = λ blocks expr small wr. spelled-expr blocks small (expr_text expr) expr (expr-written blocks expr small wr)

use Rattle.sf_expr_text.proofs.Fronts.{begins-front, front-begins}
use Rattle.sf_expr_text.proofs.laws.normal_expressions_begin_with_fronts.Goals as goal

pub returns-clause-begun : goal.returns-clause-begun
returns-clause-begun c = begins-front

pub returns-clause-goes_on : goal.returns-clause-goes_on
returns-clause-goes_on c = λ blocks tokens some. front-begins blocks some tokens

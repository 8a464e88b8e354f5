use Rattle.std.proofs.Common.{subst}
use Rattle.sf_polish.proofs.Common.{IsNormal}
use Rattle.sf_polish.proofs.Normality.{normal-spelled, postfix-normal}
use Rattle.sf_polish.proofs.Shaped.{one-expression, once-of_normal}
use Rattle.sf_polish.proofs.Spelling.{spells-one}
use Rattle.sf_polish.proofs.laws.expressions_spell_skewed_plans.Goals as goal

pub returns-clause-some_plan : goal.returns-clause-some_plan
returns-clause-some_plan c = λ blocks expr normal.
    let found = normal-spelled blocks expr normal in
    (found.0, found.1.spells, found.1.skewed)

pub returns-clause-one_plan : goal.returns-clause-one_plan
returns-clause-one_plan c = spells-one

pub returns-clause-each_once : goal.returns-clause-each_once
returns-clause-each_once c = λ blocks expr tree normal spells. once-of_normal blocks expr.tokens tree normal spells.tokens

pub returns-clause-normal : goal.returns-clause-normal
returns-clause-normal c = λ blocks expr tree once skewed spells. subst (IsNormal blocks) spells.tokens (postfix-normal blocks tree once skewed)

pub returns-clause-one_expression : goal.returns-clause-one_expression
returns-clause-one_expression c = one-expression

use Rattle.sf_program.proofs.chosen.check_chosen.Goals as goal

pub returns-in-Standard-clause-answer : goal.returns-in-Standard-clause-answer
returns-in-Standard-clause-answer c = rw c.in-Standard.is c.check.ensures.answer

pub returns-in-Standard-clause-yes : goal.returns-in-Standard-clause-yes
returns-in-Standard-clause-yes c = rw c.in-Standard.is c.check.ensures.yes

pub returns-in-Strong-clause-answer : goal.returns-in-Strong-clause-answer
returns-in-Strong-clause-answer c = rw c.in-Strong.is c.check-in-Strong.ensures.answer

pub returns-in-Strong-clause-yes : goal.returns-in-Strong-clause-yes
returns-in-Strong-clause-yes c = rw c.in-Strong.is c.check-in-Strong.ensures.yes

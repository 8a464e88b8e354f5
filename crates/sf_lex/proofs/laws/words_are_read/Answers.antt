use Rattle.sf_lex.proofs.Spelled.{words-written, words-last, words-blank}
use Rattle.sf_lex.proofs.laws.words_are_read.Goals as goal

pub returns-clause-word : goal.returns-clause-word
returns-clause-word c = words-written

pub returns-clause-last : goal.returns-clause-last
returns-clause-last c = words-last

pub returns-clause-blank : goal.returns-clause-blank
returns-clause-blank c = words-blank

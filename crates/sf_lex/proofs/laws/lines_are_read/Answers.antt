use Rattle.sf_lex.proofs.Spelled.{lines-written, words_of_lines-written}
use Rattle.sf_lex.proofs.laws.lines_are_read.Goals as goal

pub returns-clause-line : goal.returns-clause-line
returns-clause-line c = lines-written

pub returns-clause-words : goal.returns-clause-words
returns-clause-words c = words_of_lines-written

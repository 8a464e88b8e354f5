use Rattle.sf_lex.proofs.WrittenNumbers.{decimal_written, whole_written, plain_written}
use Rattle.sf_lex.proofs.laws.numbers_are_read.Goals as goal

pub returns-clause-decimal : goal.returns-clause-decimal
returns-clause-decimal c = decimal_written

pub returns-clause-whole : goal.returns-clause-whole
returns-clause-whole c = whole_written

pub returns-clause-plain : goal.returns-clause-plain
returns-clause-plain c = plain_written

use Rattle.std.proofs.Common.{◌≡◌, min, take}
use Rattle.sf_lex.proofs.Common.{number_of}
use Rattle.sf_lex.proofs.digits.number.Given as goal

abbrev pub invariant-loop-digit : goal.invariant-loop-digit
invariant-loop-digit l = l.number ≡ min (number_of (take l.digit-index l.digits)) 18_446_744_073_709_551_616

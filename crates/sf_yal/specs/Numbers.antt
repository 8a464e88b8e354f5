-- Which words are numbers.
use Rattle.std.specs.Prelude.{Bool, true, false, Result, Ok, Err, ℤ}
use Rattle.sf_lex.specs.declared.number.NumberFault.{NumberFault}
use Rattle.sf_lex.specs.declared.number.NumberFault.TheVariants as numbers

-- a word has the form of a signed decimal exactly where reading it doesn't answer that it is no number
abbrev pub has_form : Result ℤ NumberFault → Bool
has_form (Ok n) = true
has_form (Err numbers.NotNumber) = false
has_form (Err numbers.TooManyDigits) = true
has_form (Err numbers.NotWhole) = true
has_form (Err numbers.TooLarge) = true

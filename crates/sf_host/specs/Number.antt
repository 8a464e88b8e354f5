-- The number with which the process ends.
use Rattle.std.specs.Prelude.{ℕ}
use Rattle.sf_io.specs.declared.status.Status.{Status}
use Rattle.sf_io.specs.declared.status.Status.TheVariants.{Done, NoneFits, Usage, Open, No, BadInput, OverLimit, ReadFault, WriteFault, NoMemory}

-- the number of each status
abbrev pub number : Status → ℕ
number Done = 0
number NoneFits = 1
number Usage = 2
number Open = 3
number No = 4
number BadInput = 5
number OverLimit = 6
number ReadFault = 7
number WriteFault = 8
number NoMemory = 9

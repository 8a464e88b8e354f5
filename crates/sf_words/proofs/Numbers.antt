-- The defaults of the options that take numbers.
use Rattle.std.proofs.Common.{IfSome, lit≤}
use Rattle.sf_words.proofs.Common.{Key, PerUnit, Shapes, AreaWeight, WireWeight, Workers, Starts, Moves, StartSeed, range, default_of, IsAllowed}

-- a default is in the range of its option
pub default_allowed : (key : Key) → IfSome (default_of key) (IsAllowed key)
unfolding range default_of
default_allowed PerUnit = (lit≤ tt, lit≤ tt)
default_allowed Shapes = (lit≤ tt, lit≤ tt)
default_allowed AreaWeight = (lit≤ tt, lit≤ tt)
default_allowed WireWeight = (lit≤ tt, lit≤ tt)
default_allowed Workers = (lit≤ tt, lit≤ tt)
default_allowed Starts = (lit≤ tt, lit≤ tt)
default_allowed Moves = (lit≤ tt, lit≤ tt)
default_allowed StartSeed = (lit≤ tt, lit≤ tt)
default_allowed key = tt

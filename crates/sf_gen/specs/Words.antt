-- The words of the random number generator that a seed starts.
use Rattle.std.specs.Prelude.{ℕ}
use Rattle.rand_pcg.specs.Lcg.{Lcg, advance, started, increment_of}
use Rattle.rand_pcg.specs.Pcg.{multiplier_64, pcg32}

-- PCG32 (XSH RR 64/32) at this state, in stream 1
unfoldable pub start : ℕ → Lcg
start seed = started 64 multiplier_64 seed (increment_of 64 1)

-- the generator after k words
unfoldable pub after : ℕ → ℕ → Lcg
after seed k = advance 64 multiplier_64 k (start seed)

-- word number k, counted from 0
unfoldable pub word : ℕ → ℕ → ℕ
word seed k = (pcg32 (after seed k)).0

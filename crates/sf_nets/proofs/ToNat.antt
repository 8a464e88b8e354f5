-- What an integer is as a number of at least 0.
use Rattle.std.proofs.Common.{◌≡◌, arith, refl, ◌≤ℤ◌}
use Rattle.sf_nets.proofs.Common.{ℤ, pos, negsuc, nat_abs, ints, to_nat}

-- an integer of at least 0 counts as its distance from 0
pub to_nat_abs : (z : ℤ) → pos 0 ≤ℤ z → to_nat z ≡ nat_abs z
to_nat_abs (pos n) h = refl
to_nat_abs (negsuc n) h = absurd (omega (arith, ints, h))

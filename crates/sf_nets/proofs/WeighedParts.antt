-- A part of a net as often as its weight says.
use Rattle.std.proofs.Common.{ℕ, ◌*◌, ◌<◌, ◌≤◌, arith}
use Rattle.sf_nets.proofs.Common.{mul-le-mul}

-- a part as often as a weight says is not too great
pub weighed_small : (weight part : ℕ) → weight < 256 → part ≤ 2800000000 → weight * part ≤ 714000000000
weighed_small weight part light h =
    let w : weight ≤ 255 = omega (arith, light) in
    mul-le-mul w h

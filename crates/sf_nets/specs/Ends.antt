-- How the code goes, and nothing that the crate promises: ends of intervals, and of their meeting, that fit a machine number.
use Rattle.std.specs.Prelude.{ℕ, ◌+◌, ℤ, pos, neg_ℤ, ◌≤ℤ◌, ◌-ℤ◌}
use Rattle.std.specs.Int.{int_max, int_min}
use Rattle.sf_standard.specs.declared.hull.Interval.{Interval}
use Rattle.sf_standard.specs.Hull.{to_nat}
use Rattle.sf_nets.specs.declared.reach.Reach.{Reach}

-- an end that fits: at most 700,000,000 to either side of 0
abbrev pub IsFitEnd : ℤ → Type 0
IsFitEnd z = (neg_ℤ (pos 700000000) ≤ℤ z) × (z ≤ℤ pos 700000000)

-- both ends of an interval fit
abbrev pub IsFitInterval : Interval → Type 0
IsFitInterval i = IsFitEnd i.low × IsFitEnd i.high

-- those across and those upward
abbrev pub IsFitReach : Reach → Type 0
IsFitReach r = IsFitInterval r.across × IsFitInterval r.upward

-- what two intervals share: the greater lower end and the lesser upper end
abbrev pub shared : Interval → Interval → Interval
shared i j = record { low = int_max i.low j.low; high = int_min i.high j.high }

-- what two reaches share, across and upward
abbrev pub met : Reach → Reach → Reach
met r s = record { across = shared r.across s.across; upward = shared r.upward s.upward }

-- what no interval narrows
abbrev pub endless : Interval
endless = record { low = neg_ℤ (pos 700000000); high = pos 700000000 }

-- the reach that no interval narrows
abbrev pub anywhere : Reach
anywhere = record { across = endless; upward = endless }

-- how far apart the ends are across and upward, where they passed each other
abbrev pub reach_gap : Reach → ℕ
reach_gap r = to_nat (r.across.low -ℤ r.across.high) + to_nat (r.upward.low -ℤ r.upward.high)

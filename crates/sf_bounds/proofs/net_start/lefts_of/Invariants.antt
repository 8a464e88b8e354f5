use Rattle.std.proofs.Common.{◌≡◌, ℕ, map, take, filter, nat_lt, zip}
use Rattle.sf_bounds.proofs.net_start.lefts_of.Given as goal

abbrev pub invariant-loop-number : goal.invariant-loop-number
invariant-loop-number l = l.lefts.items ≡ map (λ n. n.0) (filter (λ n. nat_lt 0 n.1.weight) (take l.number (zip l.design.routes.left l.design.nets)))

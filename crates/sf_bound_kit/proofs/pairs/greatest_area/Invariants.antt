use Rattle.std.proofs.Common.{◌≡◌, ◌≤◌, ◌^◌, max, map, length, All}
use Rattle.sf_bound_kit.proofs.Common.{area_of_two, each_two, greatest}
use Rattle.sf_bound_kit.proofs.pairs.greatest_area.Given as goal

abbrev pub invariant-loop-first : goal.invariant-loop-first
invariant-loop-first l =
    (max l.most (greatest (map area_of_two (each_two l.rest))) ≡ greatest (map area_of_two (each_two l.sides)))
    × All (λ s. (s.w ≤ 2 ^ 20) × (s.h ≤ 2 ^ 20)) l.rest

abbrev pub decreases-loop-first : goal.decreases-loop-first
decreases-loop-first l = length l.rest

use Rattle.std.proofs.Common.{◌≡◌, ◌+◌, ◌-◌, ◌*◌, ◌/◌, map, nat_le, if◌then◌else◌}
use Rattle.sf_soft_shapes.proofs.Common.{range_with_len, shape, height_at, width_count}
use Rattle.sf_soft_shapes.proofs.soft.shapes_between.Given as goal

abbrev pub invariant-loop-j : goal.invariant-loop-j
invariant-loop-j l = l.shapes.items ≡ map (λ w. shape w (height_at l.area w)) (map (λ j. if nat_le (width_count l.lo l.hi) l.k then l.lo + j else l.lo + j * (l.hi - l.lo) / (l.k - 1)) (range_with_len 0 l.j))

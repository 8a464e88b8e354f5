use Rattle.std.proofs.Common.{◌≡◌, ◌++◌, take, string_bytes}
use Rattle.sf_measuring.proofs.Common.{flat_map, point_line}
use Rattle.sf_measuring.proofs.shaping.push_points.Given as goal

abbrev pub invariant-loop-point : goal.invariant-loop-point
invariant-loop-point l = string_bytes l.text ≡ string_bytes l.initial.text ++ flat_map point_line (take l.point-index l.points)

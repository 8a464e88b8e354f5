use Rattle.std.proofs.Common.{◌≡◌, ◌-◌}
use Rattle.sf_lex.proofs.Common.{words, is_gap, vertices_of, grown, corners_read}
use Rattle.sf_lex.proofs.vertices.read_corners.Given as goal

abbrev pub invariant-loop : goal.invariant-loop
invariant-loop l = grown l.corners (vertices_of l.scale.per_unit (l.count - l.counter) (words (is_gap l.gap) l.rest)) ≡ corners_read l.scale.per_unit l.count (words (is_gap l.gap) l.places)

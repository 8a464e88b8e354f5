use Rattle.std.proofs.Common.{◌≡◌}
use Rattle.sf_pieces.proofs.Common.{flat_map, Piece}
use Rattle.sf_pieces.proofs.laying.runs_of.Given as goal

abbrev pub invariant-loop-piece : goal.invariant-loop-piece
invariant-loop-piece l = flat_map (λ run. run.items) l.runs.items ≡ flat_map (λ (p : Piece). p.tags.items) l.yielded

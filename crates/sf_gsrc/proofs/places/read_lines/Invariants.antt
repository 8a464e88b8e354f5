use Rattle.std.proofs.Common.{◌≡◌, [], ◌∷◌, ◌++◌, length}
use Rattle.sf_gsrc.proofs.Common.{numbered_rest, content, place_at, places_from}
use Rattle.sf_gsrc.proofs.LineSteps.{IsReading}
use Rattle.sf_gsrc.proofs.places.read_lines.Given as goal

abbrev pub invariant-loop-line : goal.invariant-loop-line
invariant-loop-line l = IsReading (λ past line. place_at l.scale.per_unit line) (λ past p. past ++ p ∷ []) (λ past. past ≡ l.places.items) (content (numbered_rest l.scan)) (places_from l.scale.per_unit (content (numbered_rest l.fn.scan)))

abbrev pub decreases-loop-line : goal.decreases-loop-line
decreases-loop-line l = length (content (numbered_rest l.scan))

use Rattle.std.proofs.Common.{List, [], ◌∷◌, ◌++◌, length}
use Rattle.sf_gsrc.proofs.Common.{numbered_rest, content, NetWeight, weight_after, weights_from, KeepsWeights}
use Rattle.sf_gsrc.proofs.LineSteps.{IsReading}
use Rattle.sf_gsrc.proofs.weights.take_lines.Given as goal

abbrev pub invariant-loop-line : goal.invariant-loop-line
invariant-loop-line l = (earlier : List NetWeight) → KeepsWeights (length l.fn.kept) l.fn.kept earlier
    → IsReading (weight_after (length l.fn.kept)) (λ past s. past ++ s ∷ []) (KeepsWeights (length l.fn.kept) l.kept) (content (numbered_rest l.scan)) (weights_from (length l.fn.kept) earlier (content (numbered_rest l.fn.scan)))

abbrev pub decreases-loop-line : goal.decreases-loop-line
decreases-loop-line l = length (content (numbered_rest l.scan))

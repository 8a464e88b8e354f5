use Rattle.std.proofs.Common.{◌≡◌, ℕ, List, ◌++◌, length}
use Rattle.sf_program.proofs.Common.{Design, IsFed, Part}
use Rattle.sf_node.specs.Parts.{Parts}
use Rattle.sf_program.proofs.judging.feed_text.Given as goal

abbrev pub invariant-loop-rest : goal.invariant-loop-rest
invariant-loop-rest g l = (front : List ℕ) × (front ++ l.rest ≡ l.text)
    × ((design : Design) (value : Parts → ℕ) (part : Parts → Part → ℕ) (fed : List ℕ) → IsFed g.B.Values.value g.B.Bounds.part_value design value part fed l.fn.checking → IsFed g.B.Values.value g.B.Bounds.part_value design value part (fed ++ front) l.checking)

abbrev pub decreases-loop-rest : goal.decreases-loop-rest
decreases-loop-rest g l = length l.rest

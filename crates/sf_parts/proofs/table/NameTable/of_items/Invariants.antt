use Rattle.std.proofs.Common.{◌≡◌, ◌≤◌, List, ℕ, drop, length, map}
use Rattle.sf_parts.proofs.Common.{IsTableOf}
use Rattle.sf_parts.proofs.table.NameTable.of_items.Given as goal

abbrev pub invariant-loop-left : goal.invariant-loop-left
invariant-loop-left g l = (l.left ≤ length l.items) × ((text : _ → List ℕ) → ((x : _) (n : _) → goal.F-post g l.name x n → n.now ≡ text x.now) → IsTableOf l.table l.left (map text (drop l.left l.items)))

abbrev pub decreases-loop-left : goal.decreases-loop-left
decreases-loop-left g l = l.left

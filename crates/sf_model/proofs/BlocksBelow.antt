-- A plan that has each block once has only blocks of the design.
use Rattle.std.proofs.Common.{ℕ, ◌<◌}
use Rattle.sf_model.proofs.Common.{AllByRecursion, recursion_from_All, HasEachOnce, Tree, Leaf, Beside, Above, leaves, HasBlocksBelow}
use Rattle.sf_model.proofs.Each.{each-left, each-right}

-- where each leaf is a block below n, the plan has only such blocks
below-leaves : (n : ℕ) (t : Tree) → AllByRecursion (λ leaf. leaf.0 < n) (leaves t) → HasBlocksBelow n t
below-leaves n (Leaf b s) h = h.0
below-leaves n (Beside l r) h = (below-leaves n l (each-left _ (leaves l) (leaves r) h), below-leaves n r (each-right _ (leaves l) (leaves r) h))
below-leaves n (Above l r) h = (below-leaves n l (each-left _ (leaves l) (leaves r) h), below-leaves n r (each-right _ (leaves l) (leaves r) h))

-- a plan of each of n blocks once has only blocks below n
pub once-below : (n : ℕ) (t : Tree) → HasEachOnce n t → HasBlocksBelow n t
once-below n t once = below-leaves n t (recursion_from_All (λ leaf. leaf.0 < n) (leaves t) once.no_other)

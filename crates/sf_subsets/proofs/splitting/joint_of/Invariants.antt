use Rattle.std.proofs.Common.{◌≢◌, take}
use Rattle.sf_subsets.proofs.Common.{All, Direction, size_in}
use Rattle.sf_subsets.proofs.splitting.joint_of.Given as goal

abbrev pub invariant-loop-first : goal.invariant-loop-first
invariant-loop-first l =
    All (λ p. All (λ q. (d : Direction) → size_in d p q ≢ l.size) l.right) (take l.first-index l.left)

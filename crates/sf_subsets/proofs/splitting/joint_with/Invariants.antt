use Rattle.std.proofs.Common.{◌≢◌, take}
use Rattle.sf_subsets.proofs.Common.{All, Direction, size_in}
use Rattle.sf_subsets.proofs.splitting.joint_with.Given as goal

abbrev pub invariant-loop-second : goal.invariant-loop-second
invariant-loop-second l =
    All (λ q. (d : Direction) → size_in d l.first q ≢ l.size) (take l.second-index l.right)

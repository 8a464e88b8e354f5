use Rattle.std.proofs.Common.{◌-◌, length}
use Rattle.sf_frames.proofs.Common.{IsTight, HasFrames}
use Rattle.sf_frames.proofs.push.extend.Given as goal

abbrev pub invariant-loop-tokens : goal.invariant-loop-tokens
invariant-loop-tokens l = record {
  frames : HasFrames l.design l.node.tokens l.stored;
  tight : IsTight l.stored;
}

abbrev pub decreases-loop-tokens : goal.decreases-loop-tokens
decreases-loop-tokens l = length l.node.tokens - length l.stored.frames.items

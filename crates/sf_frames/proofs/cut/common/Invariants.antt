use Rattle.std.proofs.Common.{◌≡◌, ◌-◌, ◌≤◌, take, map, length}
use Rattle.sf_frames.proofs.Common.{token_of}
use Rattle.sf_frames.proofs.cut.common.Given as goal

abbrev pub invariant-loop-count : goal.invariant-loop-count
invariant-loop-count l = (l.count ≤ length l.frames) × (l.count ≤ length l.tokens) × (take l.count (map token_of l.frames) ≡ take l.count l.tokens)

abbrev pub decreases-loop-count : goal.decreases-loop-count
decreases-loop-count l = length l.frames - l.count

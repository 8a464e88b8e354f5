use Rattle.std.proofs.Common.{◌≡◌, drop}
use Rattle.sf_parts.proofs.Common.{first, unplaced_faults, is_wired}
use Rattle.sf_parts.proofs.pad_places.check_places.Given as goal

abbrev pub invariant-loop-i : goal.invariant-loop-i
invariant-loop-i l = first (unplaced_faults (is_wired l.index.parts.now) 0 l.index.parts.now.pads) ≡ first (unplaced_faults (is_wired l.index.parts.now) l.i (drop l.i l.index.parts.now.pads))

use Rattle.std.proofs.Common.{◌≡◌, ◌++◌, reverse, vec_len}
use Rattle.sf_parts.proofs.Common.{All, filter_map, IsPlaceWithin, placed_pad, RawPad}
use Rattle.sf_parts.proofs.build.pads_of.Given as goal

abbrev pub invariant-loop-pad : goal.invariant-loop-pad
invariant-loop-pad l = All (λ (p : RawPad). IsPlaceWithin p.place) l.read.items × (filter_map placed_pad l.read.items ++ reverse l.pads.items ≡ filter_map placed_pad l.initial.read.items)

abbrev pub decreases-loop-pad : goal.decreases-loop-pad
decreases-loop-pad l = vec_len l.read

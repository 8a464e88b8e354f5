use Rattle.std.proofs.Common.{◌≡◌, drop}
use Rattle.sf_parts.proofs.Common.{flat_map, first, over_place, RawPad}
use Rattle.sf_parts.proofs.limits.check_pads.Given as goal

abbrev pub invariant-loop-pad : goal.invariant-loop-pad
invariant-loop-pad l = first (flat_map (λ (p : RawPad). over_place p.place) l.pads) ≡ first (flat_map (λ (p : RawPad). over_place p.place) (drop l.pad-index l.pads))

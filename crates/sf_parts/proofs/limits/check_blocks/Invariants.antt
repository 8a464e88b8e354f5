use Rattle.std.proofs.Common.{◌≡◌, drop}
use Rattle.sf_parts.proofs.Common.{flat_map, first, over_kind, RawBlock}
use Rattle.sf_parts.proofs.limits.check_blocks.Given as goal

abbrev pub invariant-loop-block : goal.invariant-loop-block
invariant-loop-block l = first (flat_map (λ (b : RawBlock). over_kind b.kind) l.blocks) ≡ first (flat_map (λ (b : RawBlock). over_kind b.kind) (drop l.block-index l.blocks))

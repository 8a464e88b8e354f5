use Rattle.std.proofs.Common.{map, take, ◌||◌}
use Rattle.sf_gsrc.proofs.Common.{has_name, IsNameSet}
use Rattle.sf_gsrc.proofs.by_name.known_names.Given as goal

abbrev pub invariant-loop-block : goal.invariant-loop-block
invariant-loop-block l = IsNameSet l.known (has_name (map (λ b. b.name) (take l.block-index l.blocks)))

abbrev pub invariant-loop-pad : goal.invariant-loop-pad
invariant-loop-pad l = IsNameSet l.known (λ name. has_name (map (λ b. b.name) l.blocks) name || has_name (map (λ p. p.name) (take l.pad-index l.pads)) name)

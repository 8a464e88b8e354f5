use Rattle.std.proofs.Common.{◌≡◌, map}
use Rattle.sf_gsrc.proofs.Common.{strangers_of}
use Rattle.sf_gsrc.proofs.by_name.find_strangers.Given as goal

abbrev pub invariant-loop-place : goal.invariant-loop-place
invariant-loop-place l = l.strangers.items ≡ strangers_of l.blocks (map (λ p. p.name) l.pads) l.yielded

use Rattle.std.proofs.Common.{◌≡◌, List, map}
use Rattle.sf_gsrc.proofs.Common.{block_names, pad_names, RawBlock, RawPad, numbered_net, AreOwners}
use Rattle.sf_gsrc.proofs.numbering.number_nets.Given as goal

abbrev pub invariant-loop-net : goal.invariant-loop-net
invariant-loop-net l = (blocks : List RawBlock) (pads : List RawPad) → AreOwners l.owners (block_names blocks) (pad_names pads) → l.all.items ≡ map (numbered_net blocks pads) l.yielded

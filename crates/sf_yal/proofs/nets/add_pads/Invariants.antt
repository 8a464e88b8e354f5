use Rattle.std.proofs.Common.{◌≡◌, take}
use Rattle.sf_yal.proofs.Common.{bytes_of, with_pads}
use Rattle.sf_yal.proofs.nets.add_pads.Given as goal

abbrev pub invariant-loop-net : goal.invariant-loop-net
invariant-loop-net l = (l.place ≡ l.net-index) × (l.net-items ≡ with_pads l.pad_names (take l.net-index (bytes_of l.signals)) l.fn.nets.items)

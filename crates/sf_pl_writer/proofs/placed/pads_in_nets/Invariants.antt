use Rattle.std.proofs.Common.{◌≡◌, ℕ, ◌<◌, false, length, get_or, take}
use Rattle.sf_pl_writer.proofs.Common.{stands_in}
use Rattle.sf_pl_writer.proofs.placed.pads_in_nets.Given as goal

abbrev pub invariant-loop-net : goal.invariant-loop-net
invariant-loop-net l = record {
  len : length l.flags.items ≡ length l.design.pads;
  standing : (p : ℕ) → p < length l.design.pads → get_or l.flags.items p false ≡ stands_in (take l.net-index l.net-items) p;
}

use Rattle.std.proofs.Common.{◌≤◌, length}
use Rattle.sf_nets.proofs.wires.fill_reaches.Given as goal

abbrev pub invariant-loop : goal.invariant-loop
invariant-loop l = l.counter ≤ length l.reaches.items

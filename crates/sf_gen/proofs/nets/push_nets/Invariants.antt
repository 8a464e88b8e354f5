use Rattle.std.proofs.Common.{◌≡◌, ◌++◌, take, string_bytes}
use Rattle.sf_gen.proofs.Common.{flat_map, indexed, net_lines, pins_of}
use Rattle.sf_gen.proofs.nets.push_nets.Given as goal

abbrev pub invariant-loop-j : goal.invariant-loop-j
invariant-loop-j l = string_bytes l.text ≡ string_bytes l.initial.text ++ flat_map net_lines (indexed pins_of 0 (take l.j l.ends))

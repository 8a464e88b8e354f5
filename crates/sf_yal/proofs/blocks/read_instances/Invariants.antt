use Rattle.std.proofs.Common.{◌≡◌, [], drop}
use Rattle.sf_yal.proofs.Common.{instances_in, blocks_from}
use Rattle.sf_yal.proofs.blocks.read_instances.Given as goal

abbrev pub invariant-loop-instance : goal.invariant-loop-instance
invariant-loop-instance l = blocks_from l.names l.sizes l.parent l.blocks.items (instances_in (drop l.instance-index l.instances)) ≡ blocks_from l.names l.sizes l.parent [] (instances_in l.instances)

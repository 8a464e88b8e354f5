use Rattle.sf_gen.proofs.blocks.push_soft.Goals as goal

pub returns : goal.returns
returns c = rw (← c.from.ensures, ← c.from-2.ensures) c.write.ensures.bytes

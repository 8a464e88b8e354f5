use Rattle.sf_designs.proofs.reading.read_parts.Goals as goal

pub returns-in-Gsrc-clause-parts : goal.returns-in-Gsrc-clause-parts
returns-in-Gsrc-clause-parts g c = rw c.in-Gsrc.is c.read_gsrc_files.ensures.parts

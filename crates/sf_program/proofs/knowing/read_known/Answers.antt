use Rattle.std.proofs.Common.{inl}
use Rattle.sf_program.proofs.knowing.read_known.Goals as goal

pub returns-clause-design : goal.returns-clause-design
returns-clause-design g c = inl (c.in_ok-design.design, c.in_ok-design.ensures.design, c.in_ok-known.ensures)

use Rattle.sf_gen.proofs.Shaped.{first_shaped, never_refused}
use Rattle.sf_gen.proofs.laws.blocks_have_shapes.Goals as goal

pub returns-clause-shaped : goal.returns-clause-shaped
returns-clause-shaped c = λ kinds seed n k fixed lists h are. first_shaped kinds seed n k fixed lists h are.each

pub returns-clause-never_refused : goal.returns-clause-never_refused
returns-clause-never_refused c = never_refused

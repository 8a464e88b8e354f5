use Rattle.sf_program.proofs.OneKnown.{plan-one, plan-blocks}
use Rattle.sf_program.proofs.OneDesign.{design-one, design-blocks, joined-blocks}
use Rattle.sf_program.proofs.laws.designs_are_one.Goals as goal

pub returns : goal.returns
returns c = record { design = design-one; plan = plan-one; blocks = design-blocks; planned = plan-blocks; gsrc = joined-blocks }

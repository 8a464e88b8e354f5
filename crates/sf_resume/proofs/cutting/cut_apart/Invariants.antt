use Rattle.std.proofs.Common.{◌-◌, length}
use Rattle.sf_resume.proofs.Cut.{IsCut}
use Rattle.sf_resume.proofs.cutting.cut_apart.Given as goal

abbrev pub invariant-loop-tag : goal.invariant-loop-tag
invariant-loop-tag g l = IsCut l.design (g.V.Values.value l.values l.design) l.tags l.reading l.pieces.items l.stretches.items

abbrev pub decreases-loop-tag : goal.decreases-loop-tag
decreases-loop-tag g l = length l.tags - l.reading.at

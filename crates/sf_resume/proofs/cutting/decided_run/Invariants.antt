use Rattle.std.proofs.Common.{◌≢◌, ◌-◌, ◌<◌, All, length}
use Rattle.sf_resume.proofs.Common.{Open, IsReadOn}
use Rattle.sf_resume.proofs.cutting.decided_run.Given as goal

abbrev pub invariant-loop-tag : goal.invariant-loop-tag
invariant-loop-tag g l = record {
  read : IsReadOn l.design (g.V.Values.value l.values l.design) l.tags l.fn.reading l.run.items l.reading;
  some : 0 < length l.run.items;
  decided : All (λ t. t ≢ Open) l.run.items;
}

abbrev pub decreases-loop-tag : goal.decreases-loop-tag
decreases-loop-tag g l = length l.tags - l.reading.at

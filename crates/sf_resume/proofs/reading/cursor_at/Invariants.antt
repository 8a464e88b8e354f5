use Rattle.std.proofs.Common.{◌≡◌, take}
use Rattle.sf_resume.proofs.Common.{walk, root, IsPath}
use Rattle.sf_resume.proofs.reading.cursor_at.Given as goal

abbrev pub invariant-loop-step : goal.invariant-loop-step
invariant-loop-step g l = record {
  way : IsPath l.design (g.V.Values.value l.values l.design) l.cursor;
  node : l.cursor.node ≡ walk (root l.design) (take l.step-index l.steps);
}

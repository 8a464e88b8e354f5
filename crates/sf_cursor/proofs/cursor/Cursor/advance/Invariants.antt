use Rattle.std.proofs.Common.{◌≡◌, length}
use Rattle.sf_cursor.proofs.Common.{root, behind, IsPath, beyond}
use Rattle.sf_cursor.proofs.cursor.Cursor.advance.Given as goal

abbrev pub invariant-loop-step : goal.invariant-loop-step
invariant-loop-step g l = record {
  at : IsPath l.design (g.V.Values.value l.values l.design) l.self;
  beyond : beyond l.floor (root l.design) l.self.node.steps ≡ beyond l.floor (root l.design) l.initial.self.node.steps;
  whole : behind (root l.design) l.self.node.steps ≡ behind (root l.design) l.initial.self.node.steps;
}

abbrev pub decreases-loop-step : goal.decreases-loop-step
decreases-loop-step g l = length l.self.node.steps

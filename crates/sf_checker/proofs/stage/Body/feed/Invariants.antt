use Rattle.std.proofs.Common.{ℕ, ◌≤◌, ◌-◌, List, ◌++◌, length, take}
use Rattle.sf_checker.proofs.Common.{IsBody, IsSteady}
use Rattle.sf_checker.proofs.stage.Body.feed.Given as goal

abbrev pub invariant-loop-at : goal.invariant-loop-at
invariant-loop-at g l = record {
  inside : l.at ≤ length l.piece;
  steady : IsSteady l.design (g.B.Values.value l.bounds l.design) l.self.judge;
  serves : g.B.Bounds.serves l.room l.design;
  reads : (text : List ℕ) → IsBody l.design (g.B.Values.value l.bounds l.design) (g.B.Bounds.part_value l.bounds l.design) text l.fn.self → IsBody l.design (g.B.Values.value l.bounds l.design) (g.B.Bounds.part_value l.bounds l.design) (text ++ take l.at l.piece) l.self;
}

abbrev pub decreases-loop-at : goal.decreases-loop-at
decreases-loop-at g l = length l.piece - l.at

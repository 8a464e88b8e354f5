use Rattle.std.proofs.Common.{ℕ, ◌≤◌, ◌-◌, List, ◌++◌, length, take}
use Rattle.sf_checker.proofs.Common.{IsReady, IsStage}
use Rattle.sf_checker.proofs.stage.Stage.open.Given as goal

abbrev pub invariant-loop-opened : goal.invariant-loop-opened
invariant-loop-opened g l = record {
  inside : l.opened ≤ length l.piece;
  ready : IsReady l.design (g.B.Values.value l.bounds l.design) l.self;
  fed : (text : List ℕ) → IsStage l.design (g.B.Values.value l.bounds l.design) (g.B.Bounds.part_value l.bounds l.design) text l.fn.self → IsStage l.design (g.B.Values.value l.bounds l.design) (g.B.Bounds.part_value l.bounds l.design) (text ++ take l.opened l.piece) l.self;
}

abbrev pub decreases-loop-opened : goal.decreases-loop-opened
decreases-loop-opened g l = length l.piece - l.opened

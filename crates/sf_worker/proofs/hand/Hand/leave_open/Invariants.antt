use Rattle.std.proofs.Common.{◌≡◌, ◌++◌, map, length}
use Rattle.sf_worker.proofs.Common.{least, open_mark, IsHand, left_of, marks_of}
use Rattle.sf_worker.proofs.hand.Hand.leave_open.Given as goal

abbrev pub invariant-loop-self : goal.invariant-loop-self
invariant-loop-self g l = record {
  hand : IsHand l.design (g.B.Values.value l.bounds l.design) l.self;
  marked : marks_of l.design l.self ++ map open_mark (left_of l.design l.self) ≡ marks_of l.design l.initial.self ++ map open_mark (left_of l.design l.initial.self);
  lowest : least l.low (map (g.B.Values.value l.bounds l.design) (left_of l.design l.self)) ≡ least l.fn.low (map (g.B.Values.value l.bounds l.design) (left_of l.design l.initial.self));
  kept : l.self.kept ≡ l.initial.self.kept;
  serves : g.B.Bounds.serves l.room l.design;
}

abbrev pub decreases-loop-self : goal.decreases-loop-self
decreases-loop-self g l = length (left_of l.design l.self)

use Rattle.std.proofs.Common.{◌≡◌, ◌∷◌, [], length}
use Rattle.sf_search.proofs.Common.{root, marks, AreKept, IsRun}
use Rattle.sf_search.proofs.one_walk.search_walk.Given as goal

abbrev pub invariant-loop-step : goal.invariant-loop-step
invariant-loop-step g l = record {
  run : IsRun l.design (g.B.Values.value l.bounds l.design) l.step l.walk;
  kept : AreKept (g.B.Bounds.part_value l.bounds l.design) l.walk.word (marks (root l.design ∷ []) l.walk.hand.tags) l.walk.hand.kept;
  count : length l.walk.hand.tags ≡ l.step;
  serves : g.B.Bounds.serves l.room l.design;
}

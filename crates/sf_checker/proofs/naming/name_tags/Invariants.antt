use Rattle.std.proofs.Common.{◌-◌, length}
use Rattle.sf_checker.proofs.Names.{IsNaming}
use Rattle.sf_checker.proofs.naming.name_tags.Given as goal

abbrev pub invariant-loop-more : goal.invariant-loop-more
invariant-loop-more g l = record {
  naming : IsNaming l.design (g.B.Values.value l.bounds l.design) (g.B.Bounds.part_value l.bounds l.design) l.cost l.initial.tags.items l.at l.more l.cursor l.tags.items;
  serves : g.B.Bounds.serves l.room l.design;
}

abbrev pub decreases-loop-more : goal.decreases-loop-more
decreases-loop-more g l = length l.tags.items - l.at

use Rattle.std.proofs.Common.{◌++◌, take}
use Rattle.sf_checker.proofs.Common.{flat_map, IsSteady, IsFound}
use Rattle.sf_checker.proofs.checking.check.Given as goal

abbrev pub invariant-loop-run : goal.invariant-loop-run
invariant-loop-run g l = record {
  steady : IsSteady l.design (g.B.Values.value l.bounds l.design) l.judge;
  found : IsFound l.design (g.B.Values.value l.bounds l.design) (g.B.Bounds.part_value l.bounds l.design) l.cert (flat_map (λ run. run.items) (take l.run-index l.run-items)) l.judge;
  serves : g.B.Bounds.serves l.room l.design;
}

abbrev pub invariant-loop-tag : goal.invariant-loop-tag
invariant-loop-tag g l = record {
  steady : IsSteady l.design (g.B.Values.value l.bounds l.design) l.judge;
  found : IsFound l.design (g.B.Values.value l.bounds l.design) (g.B.Bounds.part_value l.bounds l.design) l.cert (flat_map (λ run. run.items) (take l.run-index l.run-items) ++ take l.tag-index l.tag-items) l.judge;
  serves : g.B.Bounds.serves l.room l.design;
}

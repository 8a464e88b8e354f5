use Rattle.std.proofs.Common.{◌≡◌, ◌≤◌, length, vec_len}
use Rattle.sf_soft_shapes.proofs.Common.{All, IsShapeChoice, Shape, AreFirstLists}
use Rattle.std.proofs.Common.{List}
use Rattle.sf_soft_shapes.proofs.listed.lists.Given as goal

abbrev pub invariant-loop-block : goal.invariant-loop-block
invariant-loop-block l = record {
  count : vec_len l.lists ≡ l.block-index;
  listed : AreFirstLists l.k l.fixed l.parts.blocks l.lists.items;
  choices : All IsShapeChoice l.lists.items;
  shaped : All (λ (s : List Shape). 1 ≤ length s) l.lists.items;
}

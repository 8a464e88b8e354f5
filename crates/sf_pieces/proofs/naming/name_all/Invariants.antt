use Rattle.std.proofs.Common.{◌≡◌, ◌≤◌, ◌++◌, length, take, drop}
use Rattle.sf_pieces.proofs.Common.{renamed}
use Rattle.sf_pieces.proofs.naming.name_all.Given as goal

abbrev pub invariant-loop-tag : goal.invariant-loop-tag
invariant-loop-tag l = record {
  within : l.next ≤ length l.kept;
  named : take l.tag-index l.tags ++ renamed l.cost (drop l.tag-index l.tags) (drop l.next l.kept) ≡ renamed l.cost l.initial.tags l.kept;
}

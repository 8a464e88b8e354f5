use Rattle.std.proofs.Common.{◌≡◌, ◌++◌, All}
use Rattle.sf_rounds.proofs.Common.{IsStretch}
use Rattle.sf_rounds.proofs.LeftOpen.{IsOpening}
use Rattle.sf_rounds.proofs.leaving.leave_open.Given as goal

abbrev pub invariant-loop-stretch : goal.invariant-loop-stretch
invariant-loop-stretch g l = record {
  opening : IsOpening l.fn.design (g.B.Values.value l.fn.bounds l.fn.design) (g.B.Bounds.part_value l.fn.bounds l.fn.design) l.fn.value l.yielded l.opened.pieces.items l.opened.bound;
  all : l.yielded ++ l.stretch-iterator.rest.items ≡ l.fn.stretches.items;
  serves : g.B.Bounds.serves l.room l.fn.design;
  rest : All (IsStretch l.fn.design (g.B.Values.value l.fn.bounds l.fn.design)) l.stretch-iterator.rest.items;
}

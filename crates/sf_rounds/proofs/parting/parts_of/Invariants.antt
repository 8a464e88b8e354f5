use Rattle.std.proofs.Common.{◌++◌, All}
use Rattle.sf_rounds.proofs.Common.{IsPermutation, IsStretch}
use Rattle.sf_rounds.proofs.Parted.{IsParting}
use Rattle.sf_rounds.proofs.parting.parts_of.Given as goal

abbrev pub invariant-loop-stretch : goal.invariant-loop-stretch
invariant-loop-stretch g l = record {
  parting : IsParting l.fn.design (g.V.Values.value l.fn.values l.fn.design) l.yielded l.parts.items;
  all : IsPermutation l.fn.stretches.items (l.yielded ++ l.stretch-iterator.rest.items);
  rest : All (IsStretch l.fn.design (g.V.Values.value l.fn.values l.fn.design)) l.stretch-iterator.rest.items;
}

use Rattle.std.proofs.Common.{arith}
use Rattle.sf_anneal.proofs.Flipping.{flipped-twice, runs-flipped}
use Rattle.sf_anneal.proofs.Stepping.{stepped-twice}
use Rattle.sf_anneal.proofs.Swapping.{swapped-operands, swapped-twice}
use Rattle.sf_anneal.proofs.laws.moves_are_their_inverses.Goals as goal

pub returns : goal.returns
returns c = record {
  swapped = λ tokens j h. (omega (arith, h, swapped-operands tokens j h), swapped-twice tokens j h);
  flipped = λ tokens k h. (omega (arith, h, runs-flipped tokens k), flipped-twice tokens k);
  stepped = λ tokens i normal h may. stepped-twice tokens i h normal may;
}

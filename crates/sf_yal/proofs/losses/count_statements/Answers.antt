use Rattle.std.proofs.Common.{arith, refl, ap, sym, ◌∙◌}
use Rattle.sf_yal.proofs.Common.{pieces, Counting, begun}
use Rattle.sf_yal.proofs.CountSteps.{by_pieces, counts_on, counts_all}
use Rattle.sf_yal.proofs.losses.count_statements.Goals as goal

pub loop-piece-init : goal.loop-piece-init
loop-piece-init c = record { same = rw c.new-counting.ensures refl; unplaced = rw c.new-counting.ensures (omega arith); pad_modules = rw c.new-counting.ensures (omega arith) }

pub loop-piece-preserved : goal.loop-piece-preserved
loop-piece-preserved c = record {
  same = counts_on _ _ c.loop-piece.rest.now c.in-Some.piece.now c.in-Some.after.now _ _ c.in-Some.ensures.pieces c.behind-counting.ensures.counted c.loop-piece.invariant.same;
  unplaced = omega (arith, c.loop-piece.invariant.unplaced, c.in-Some.ensures.shorter, c.behind-counting.ensures.unplaced);
  pad_modules = omega (arith, c.loop-piece.invariant.pad_modules, c.in-Some.ensures.shorter, c.behind-counting.ensures.pad_modules);
}

pub returns : goal.returns
returns c = ap (λ (x : Counting). x.losses) (counts_all _ _ c.loop-piece.rest.now _ c.in_default.ensures.pieces c.loop-piece.invariant.same ∙ sym (by_pieces _ 1 begun (pieces c.args.text.now)))

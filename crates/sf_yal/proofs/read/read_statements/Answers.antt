use Rattle.std.proofs.Common.{arith, refl}
use Rattle.sf_yal.proofs.Common.{err_from_is_err_and}
use Rattle.sf_yal.proofs.StatementSteps.{goes_on, last_goes_on, fails, is_done, last_done}
use Rattle.sf_yal.proofs.read.read_statements.Goals as goal

pub loop-piece-init : goal.loop-piece-init
loop-piece-init c = record { same = rw c.new-found.ensures refl; last = refl; short = omega arith }

pub first_line-requires : goal.first_line-requires
first_line-requires c = omega (arith, c.requires, c.loop-piece.invariant.short, c.in-Some.ensures.shorter)

pub returns-in_err-take : goal.returns-in_err-take
returns-in_err-take c =
    let p = err_from_is_err_and c.from_residual.result c.from_residual.ensures.1 in
    rw (p.1, p.2) (fails _ _ _ c.loop-piece.rest.now c.in-Some.piece.now c.in-Some.after.now _ _ c.in_err-take.field-0.0 c.in-Some.ensures.pieces c.first_line.ensures c.in_err-take.ensures c.loop-piece.invariant.same)

pub overflow_add-line : goal.overflow_add-line
overflow_add-line c = omega (arith, c.requires, c.loop-piece.invariant.short, c.in-Some.ensures.shorter, c.line_feeds-line.ensures.bound)

pub loop-piece-preserved : goal.loop-piece-preserved
loop-piece-preserved c = record {
  same = rw c.line_feeds-line.ensures.value (goes_on _ _ _ c.loop-piece.rest.now c.in-Some.piece.now c.in-Some.after.now _ _ _ c.in-Some.ensures.pieces c.first_line.ensures c.in_ok-take.ensures c.loop-piece.invariant.same);
  last = last_goes_on c.loop-piece.rest.now c.in-Some.piece.now c.in-Some.after.now _ c.in-Some.ensures.pieces c.loop-piece.invariant.last;
  short = omega (arith, c.loop-piece.invariant.short, c.in-Some.ensures.shorter, c.line_feeds-line.ensures.bound);
}

pub returns : goal.returns
returns c = (is_done _ _ _ c.loop-piece.rest.now _ c.in_default.ensures.pieces c.loop-piece.invariant.same, last_done c.loop-piece.rest.now _ c.in_default.ensures.pieces c.loop-piece.invariant.last)

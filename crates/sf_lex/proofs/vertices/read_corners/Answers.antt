use Rattle.std.proofs.lemmas.Result.{err_from_is_err_and}
use Rattle.sf_lex.proofs.VertexSteps.{starts, fails_first, goes_on, fails, is_done}
use Rattle.sf_lex.proofs.vertices.read_corners.Goals as goal

pub returns-in_err-first : goal.returns-in_err-first
returns-in_err-first c =
    let p = err_from_is_err_and c.from_residual.result c.from_residual.ensures.1 in
    rw (p.1, p.2) (fails_first _ _ _ _ c.requires.count c.in_err-first.ensures)

pub loop-init : goal.loop-init
loop-init c = rw c.new-corners.ensures (starts _ _ _ _ _ c.requires.count c.in_ok-first.ensures)

pub returns-in_err-vertex : goal.returns-in_err-vertex
returns-in_err-vertex c =
    let p = err_from_is_err_and c.from_residual-in_err-vertex.result c.from_residual-in_err-vertex.ensures.1 in
    rw (p.1, p.2) (fails _ _ _ _ _ _ _ c.loop-test.true c.in_err-vertex.ensures c.loop.invariant)

pub loop-preserved : goal.loop-preserved
loop-preserved c = rw c.with-corners.ensures (goes_on _ _ _ _ _ _ _ _ c.loop-test.true c.in_ok-vertex.ensures c.loop.invariant)

pub returns : goal.returns
returns c = is_done _ _ _ _ _ _ c.loop-test.false c.loop.invariant

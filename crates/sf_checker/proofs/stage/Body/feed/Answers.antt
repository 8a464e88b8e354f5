use Rattle.std.proofs.Common.{ℕ, ◌+◌, ◌≤◌, ◌++◌, List, length, take, ap, sym, subst, arith}
use Rattle.sf_checker.proofs.Common.{length-drop, Part, Parts, IsBody, IsFaulty, IsSteady, err_from_is_err_and, Body}
use Rattle.sf_checker.proofs.Fed.{body-tag, body-none, body-fault, rest_of, rest-is, past-bytes, past-all}
use Rattle.sf_checker.proofs.stage.Body.feed.Goals as goal
use Rattle.sf_checker.proofs.stage.Body.feed.Goals.{in-Some+in_ok-take, in_default}

pub returns-in_err-taken-clause-fault : goal.returns-in_err-taken-clause-fault
returns-in_err-taken-clause-fault g c text b =
    let p = err_from_is_err_and c.from_residual.result c.from_residual.ensures.1 in
    let design = c.args.design.now in
    let value : Parts → ℕ = g.B.Values.value c.args.bounds.now design in
    let part : Parts → Part → ℕ = g.B.Bounds.part_value c.args.bounds.now design in
    let piece : List ℕ = c.args.piece.now in
    let at = c.loop-at.at in
    let e = c.in_err-taken.field-0.0 in
    rw (p.1, p.2) (λ ne. subst (λ t. IsFaulty design t e) (past-all text piece at)
    (body-fault design value part (text ++ take at piece) c.block_count-blocks.result c.loop-at.self c.block_count-blocks.ensures (c.loop-at.invariant.reads text b) (rest_of piece at) e (c.in_err-taken.ensures.fault ne)))

pub loop-at-preserved : goal.loop-at-preserved
loop-at-preserved g c =
    let design = c.args.design.now in
    let value : Parts → ℕ = g.B.Values.value c.args.bounds.now design in
    let part : Parts → Part → ℕ = g.B.Bounds.part_value c.args.bounds.now design in
    let piece : List ℕ = c.args.piece.now in
    let at = c.loop-at.at in
    let count = c.in_ok-taken.taken.bytes in
    let body = c.loop-at.self in
    let n = c.block_count-blocks.result in
    let inside : at + count ≤ length piece = omega (arith, c.in_ok-taken.ensures.inside, ap length (rest-is piece at), length-drop at piece, c.loop-at-test.true) in
    elim c.match-taken.branch [
      | in-Some+in_ok-take w ↦ record {
        inside = inside;
        steady = subst (λ (b : Body). IsSteady design value b.judge) (sym w.self-is) w.in_ok-take.ensures.steady;
        serves = subst (λ room. g.B.Bounds.serves room design) (sym w.room-is) w.in_ok-take.ensures.serves;
        reads = λ text b. subst (IsBody design value part (text ++ take (at + count) piece)) (sym w.self-is)
            (subst (λ t. IsBody design value part t (record { header = body.header; reader = c.take.new.self; judge = w.take-in-Some.new.self })) (past-bytes text piece at count)
            (body-tag design value part (text ++ take at piece) n body c.block_count-blocks.ensures (c.loop-at.invariant.reads text b) (take count (rest_of piece at)) c.take.new.self w.take-in-Some.new.self w.in-Some.tag
            (rw w.in-Some.is at c.in_ok-taken.ensures.tag) w.in_ok-take.ensures.found));
      }
      | in_default w ↦ record {
        inside = inside;
        steady = subst (λ (b : Body). IsSteady design value b.judge) (sym w.self-is) c.loop-at.invariant.steady;
        serves = subst (λ room. g.B.Bounds.serves room design) (sym w.room-is) c.loop-at.invariant.serves;
        reads = λ text b. subst (IsBody design value part (text ++ take (at + count) piece)) (sym w.self-is)
            (subst (λ t. IsBody design value part t (record { header = body.header; reader = c.take.new.self; judge = body.judge })) (past-bytes text piece at count)
            (body-none design value part (text ++ take at piece) n body c.block_count-blocks.ensures (c.loop-at.invariant.reads text b) (take count (rest_of piece at)) c.take.new.self
            (rw w.in_default.is at c.in_ok-taken.ensures.tag)));
      }
    ]

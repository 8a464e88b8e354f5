use Rattle.std.proofs.Common.{ℕ, ◌+◌, List, ◌++◌, take, ap, subst, ◌∙◌, append_assoc, arith}
use Rattle.sf_checker.proofs.Common.{Part, Parts, IsFaulty, IsStage, err_from_is_err_and}
use Rattle.sf_checker.proofs.Fed.{past-byte, rest_of, past-all, still-faulty}
use Rattle.sf_checker.proofs.stage.Stage.open.Goals as goal

pub returns-in_err-begin-clause-fault : goal.returns-in_err-begin-clause-fault
returns-in_err-begin-clause-fault g c text at =
    let p = err_from_is_err_and c.from_residual.result c.from_residual.ensures.1 in
    let design = c.args.design.now in
    let piece : List ℕ = c.args.piece.now in
    let i = c.loop-opened.opened in
    let e = c.in_err-begin.field-0.0 in
    rw (p.1, p.2) (λ ne. subst (λ t. IsFaulty design t e) (past-all text piece (i + 1))
    (still-faulty design (text ++ take (i + 1) piece) (rest_of piece (i + 1)) e
    (subst (λ t. IsFaulty design t e) (append_assoc text (take i piece) _ ∙ ap (λ p. text ++ p) (past-byte piece i c.loop-opened-test.true))
    (c.in_err-begin.ensures.fault (text ++ take i piece) (c.loop-opened.invariant.fed text at) ne))))

pub loop-opened-preserved : goal.loop-opened-preserved
loop-opened-preserved g c =
    let value : Parts → ℕ = g.B.Values.value c.args.bounds.now c.args.design.now in
    let part : Parts → Part → ℕ = g.B.Bounds.part_value c.args.bounds.now c.args.design.now in
    let piece : List ℕ = c.args.piece.now in
    let i = c.loop-opened.opened in
    record {
      inside = omega (arith, c.loop-opened-test.true);
      ready = c.in_ok-begin.ensures.ready;
      fed = λ text at. subst (λ ts. IsStage c.args.design.now value part ts c.begin.new.self) (append_assoc text (take i piece) _ ∙ ap (λ p. text ++ p) (past-byte piece i c.loop-opened-test.true))
          (c.in_ok-begin.ensures.fed (text ++ take i piece) (c.loop-opened.invariant.fed text at));
    }

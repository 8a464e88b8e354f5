use Rattle.std.proofs.Common.{◌≡◌, ℕ, List, ◌++◌, length, take, sym, subst, arith, ◌≢◌}
use Rattle.sf_checker.proofs.Common.{OnOk, IfErr, take_all, Part, Parts, Tree, Fault, IsBody, IsFaulty, IsOutside, IsStage}
use Rattle.sf_cert_text.specs.declared.fault.CertFault.TheVariants.{NoMemory}
use Rattle.sf_checker.proofs.Fed.{past-all}
use Rattle.sf_checker.proofs.stage.Stage.advance.Goals as goal

pub returns-in-Opening-clause-fed : goal.returns-in-Opening-clause-fed
returns-in-Opening-clause-fed g c text at =
    let value : Parts → ℕ = g.B.Values.value c.args.bounds.now c.args.design.now in
    let part : Parts → Part → ℕ = g.B.Bounds.part_value c.args.bounds.now c.args.design.now in
    let piece : List ℕ = c.args.piece.now in
    let all : c.in_ok-opened.opened ≡ length piece = c.in_ok-opened.ensures.all (subst IsOutside (sym c.in-Opening.is) tt) in
    subst (λ p. IsStage c.args.design.now value part (text ++ p) c.open.new.self) (take_all c.in_ok-opened.opened piece (omega (arith, all))) (c.in_ok-opened.ensures.fed text at)

pub returns-in-Tree-clause-fed : goal.returns-in-Tree-clause-fed
returns-in-Tree-clause-fed g c text at =
    let value : Parts → ℕ = g.B.Values.value c.args.bounds.now c.args.design.now in
    let part : Parts → Part → ℕ = g.B.Bounds.part_value c.args.bounds.now c.args.design.now in
    let piece : List ℕ = c.args.piece.now in
    let opened : List ℕ = text ++ take c.in_ok-opened.opened piece in
    let body : IsStage c.args.design.now value part opened (Tree c.in-Tree.body) = subst (IsStage c.args.design.now value part opened) c.in-Tree.is (c.in_ok-opened.ensures.fed text at) in
    subst (λ t. OnOk c.feed.result (IsBody c.args.design.now value part t c.feed.new.self)) (past-all text piece c.in_ok-opened.opened) (c.feed.ensures.fed opened body)

pub returns-in-Tree-clause-fault : goal.returns-in-Tree-clause-fault
returns-in-Tree-clause-fault g c text at =
    let value : Parts → ℕ = g.B.Values.value c.args.bounds.now c.args.design.now in
    let part : Parts → Part → ℕ = g.B.Bounds.part_value c.args.bounds.now c.args.design.now in
    let piece : List ℕ = c.args.piece.now in
    let opened : List ℕ = text ++ take c.in_ok-opened.opened piece in
    let body : IsStage c.args.design.now value part opened (Tree c.in-Tree.body) = subst (IsStage c.args.design.now value part opened) c.in-Tree.is (c.in_ok-opened.ensures.fed text at) in
    subst (λ t. IfErr c.feed.result (λ e. e ≢ NoMemory → IsFaulty c.args.design.now t e)) (past-all text piece c.in_ok-opened.opened) (c.feed.ensures.fault opened body)

pub returns-in-Fault-clause-fault : goal.returns-in-Fault-clause-fault
returns-in-Fault-clause-fault g c text at ne =
    let value : Parts → ℕ = g.B.Values.value c.args.bounds.now c.args.design.now in
    let part : Parts → Part → ℕ = g.B.Bounds.part_value c.args.bounds.now c.args.design.now in
    let piece : List ℕ = c.args.piece.now in
    let all : c.in_ok-opened.opened ≡ length piece = c.in_ok-opened.ensures.all (subst IsOutside (sym c.in-Fault.is) tt) in
    let stage : IsStage c.args.design.now value part (text ++ piece) (Fault c.in-Fault.fault) =
    subst (λ p. IsStage c.args.design.now value part (text ++ p) (Fault c.in-Fault.fault)) (take_all c.in_ok-opened.opened piece (omega (arith, all)))
    (subst (IsStage c.args.design.now value part (text ++ take c.in_ok-opened.opened piece)) c.in-Fault.is (c.in_ok-opened.ensures.fed text at)) in
    stage.1

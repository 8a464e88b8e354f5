use Rattle.std.proofs.Common.{ap, sym, subst, ◌∙◌, [], append-nil}
use Rattle.sf_checker.proofs.Common.{block_count, cert_read, Fault, IsStage}
use Rattle.sf_checker.proofs.stage.Stage.finish.Goals as goal

pub returns-in-Fault-clause-fault : goal.returns-in-Fault-clause-fault
returns-in-Fault-clause-fault g c text at ne =
    let stage : IsStage c.args.design.now (g.B.Values.value c.args.bounds.now c.args.design.now) (g.B.Bounds.part_value c.args.bounds.now c.args.design.now) text (Fault c.in-Fault.fault) =
    subst (IsStage c.args.design.now (g.B.Values.value c.args.bounds.now c.args.design.now) (g.B.Bounds.part_value c.args.bounds.now c.args.design.now) text) c.in-Fault.is at in
    ap (cert_read (block_count c.args.design.now)) (sym (append-nil text)) ∙ stage.1 []

use Rattle.std.proofs.Common.{length, ap, subst, sym, ◌∙◌}
use Rattle.sf_resume.proofs.Common.{Parts, IsReach}
use Rattle.sf_resume.proofs.Reached.{reach-single}
use Rattle.sf_resume.proofs.Readings.{read-from}
use Rattle.sf_resume.proofs.cutting.single.Goals as goal

pub returns : goal.returns
returns g c =
    let design = c.args.design.now in
    let bound = g.V.Values.value c.args.values.now design in
    let tags = c.args.tags.now in
    let old = c.args.reading.now in
    let one = read-from design bound tags old c.in_ok-end.end c.pass.new.self _ c.in_ok-end.ensures.at c.in_ok-pass.ensures in
    subst (λ n. IsReach design bound tags old n c.pass.new.self) (sym (ap length (c.steps-floor.ensures ∙ ap (λ (n : Parts). n.steps) c.node.ensures))) (reach-single design bound tags old c.pass.new.self one)

use Rattle.std.proofs.Common.{ap, sym, subst, ◌∙◌}
use Rattle.sf_measuring.proofs.Common.{AreSpans, root}
use Rattle.sf_node.specs.Parts.{Parts}
use Rattle.sf_node.proofs.Reached.{root-subproblem}
use Rattle.sf_bound.proofs.Spans.{curve_spans}
use Rattle.sf_measuring.proofs.shaping.whole_curve.Goals as goal

pub root_curve-requires-clause-spans : goal.root_curve-requires-clause-spans
root_curve-requires-clause-spans c =
    let design = c.args.design.now in
    subst (AreSpans design) (sym (c.spans.ensures ∙ ap (λ (n : Parts). n.spans) c.in_ok-whole.ensures)) (curve_spans design (root design) (root-subproblem design))

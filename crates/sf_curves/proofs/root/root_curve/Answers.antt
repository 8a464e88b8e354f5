use Rattle.std.proofs.Common.{subst, sym, AllPairs}
use Rattle.sf_curves.proofs.Common.{IsRootCurve, IsSlimmer}
use Rattle.sf_curves.proofs.Choosing.{tree-curve}
use Rattle.sf_curves.proofs.root.root_curve.Goals as goal

pub returns : goal.returns
returns c =
    subst (IsRootCurve c.args.design.now c.args.tokens.now c.args.spans.now) (sym c.into_curve.ensures.is)
    (tree-curve c.args.design.now c.args.spans.now c.args.tokens.now c.in_ok-tree.tree c.in_ok-tree.ensures.curves c.in_ok-tree.ensures.form (subst (AllPairs IsSlimmer) c.into_curve.ensures.is c.into_curve.ensures.falls))

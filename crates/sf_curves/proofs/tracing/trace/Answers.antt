use Rattle.std.proofs.Common.{subst, sym, length, ◌≡◌, ◌∙◌}
use Rattle.sf_curves.proofs.Common.{tree_of, Spells, once-of_normal, IsTraceOf, curve_of, HasEachOnce}
use Rattle.sf_curves.proofs.Choosing.{curve-traced, curve-covers, tree-traced, chosen-form, chosen-choice, sized-takes, same-points, just-sized}
use Rattle.sf_curves.proofs.Forms.{skewed-of_normal}
use Rattle.sf_curves.proofs.Members.{IfOk-weaker}
use Rattle.sf_curves.proofs.tracing.trace.Goals as goal

pub sized_plan-requires-clause-traced : goal.sized_plan-requires-clause-traced
sized_plan-requires-clause-traced c = tree-traced c.args.design.now c.args.spans.now c.in_ok-tree.tree c.in_ok-tree.ensures.curves

pub sized_plan-requires-clause-on_curve : goal.sized_plan-requires-clause-on_curve
sized_plan-requires-clause-on_curve c =
    let tree = c.in_ok-tree.ensures in
    same-points _ _ _ _ (curve_of c.in_ok-tree.tree) c.args.point c.requires.on_curve.1 (curve-traced _ _ _ _ tree.curves tree.form) (curve-covers _ _ _ _ tree.curves tree.form) c.requires.on_curve.2

pub expr_of-requires-clause-skewed : goal.expr_of-requires-clause-skewed
expr_of-requires-clause-skewed c =
    let choice = chosen-choice c.args.design.now c.args.spans.now c.args.tokens.now c.in_ok-tree.tree (tree_of c.in_ok-plan.plan) c.in_ok-tree.ensures.curves c.in_ok-tree.ensures.form c.in_ok-plan.ensures.chosen in
    skewed-of_normal (length c.args.design.now.blocks) c.args.tokens.now (tree_of c.in_ok-plan.plan) c.requires.normal choice.tokens

pub expr_of-requires-clause-each_once : goal.expr_of-requires-clause-each_once
expr_of-requires-clause-each_once c =
    let choice = chosen-choice c.args.design.now c.args.spans.now c.args.tokens.now c.in_ok-tree.tree (tree_of c.in_ok-plan.plan) c.in_ok-tree.ensures.curves c.in_ok-tree.ensures.form c.in_ok-plan.ensures.chosen in
    subst (λ n. HasEachOnce n (tree_of c.in_ok-plan.plan)) (sym c.block_count.ensures)
    (once-of_normal (length c.args.design.now.blocks) c.args.tokens.now (tree_of c.in_ok-plan.plan) c.requires.normal choice.tokens)

pub returns-clause-traced : goal.returns-clause-traced
returns-clause-traced c =
    let design = c.args.design.now in
    let tokens = c.args.tokens.now in
    let spans = c.args.spans.now in
    let tree = tree_of c.in_ok-plan.plan in
    let choice = chosen-choice design spans tokens c.in_ok-tree.tree tree c.in_ok-tree.ensures.curves c.in_ok-tree.ensures.form c.in_ok-plan.ensures.chosen in
    IfOk-weaker (λ expr. Spells expr tree) (IsTraceOf design tokens spans c.args.point) c.expr_of.result
    (λ expr spells. record {
      tree = tree;
      spells = spells;
      choice = choice;
      size = just-sized design tokens spans c.requires.on_curve.0 c.args.point tree c.requires.on_curve.1 c.requires.on_curve.2 choice c.in_ok-plan.ensures.size;
      takes = sized-takes design spans c.in_ok-tree.tree tree c.args.point c.in_ok-tree.ensures.curves (chosen-form design spans c.in_ok-tree.tree tree c.in_ok-tree.ensures.curves c.in_ok-plan.ensures.chosen).0 c.in_ok-plan.ensures.sized;
    }) c.expr_of.ensures.spelled

pub returns-clause-tokens : goal.returns-clause-tokens
returns-clause-tokens c =
    let tree = tree_of c.in_ok-plan.plan in
    let choice = chosen-choice c.args.design.now c.args.spans.now c.args.tokens.now c.in_ok-tree.tree tree c.in_ok-tree.ensures.curves c.in_ok-tree.ensures.form c.in_ok-plan.ensures.chosen in
    IfOk-weaker (λ expr. Spells expr tree) (λ expr. expr.tokens ≡ c.args.tokens.now) c.expr_of.result (λ expr spells. sym spells.tokens ∙ choice.tokens) c.expr_of.ensures.spelled

use Rattle.std.proofs.Common.{◌≡◌, sym, ap, subst, arith, true}
use Rattle.sf_model.specs.Cost.{cost}
use Rattle.sf_bound.proofs.Common.{block_count, Fits, tree_of, IsNormal, complete-normal, subproblem-spans}
use Rattle.sf_bound.proofs.OnlyPlan.{alone, few-leaves, has-sides}
use Rattle.sf_bound.proofs.only_plan.only_plan.Goals as goal

pub plan_of-requires : goal.plan_of-requires
plan_of-requires c =
    let normal = complete-normal c.args.design.now c.args.node.now c.requires.subproblem (subproblem-spans c.args.design.now c.args.node.now c.requires.subproblem) c.requires.complete in
    record { normal = subst (λ n. IsNormal n c.in_ok-expr.expr.tokens) (sym c.in_ok-expr.ensures.shapes.count) (subst (IsNormal (block_count c.args.design.now)) (sym c.in_ok-expr.ensures.tokens) normal) }

pub fits-requires-clause-few : goal.fits-requires-clause-few
fits-requires-clause-few c =
    let k = alone c.args.design.now c.args.node.now c.in_ok-expr.expr (tree_of c.in_ok-plan.plan) c.requires.subproblem c.requires.complete c.in_ok-expr.ensures.tokens c.in_ok-expr.ensures.shapes c.in_ok-plan.ensures.spelled c.requires.single c.in_ok-plan.ensures.skewed in
    few-leaves c.args.design.now (tree_of c.in_ok-plan.plan) k.belongs.legal

pub fits-requires-clause-sides : goal.fits-requires-clause-sides
fits-requires-clause-sides c =
    let k = alone c.args.design.now c.args.node.now c.in_ok-expr.expr (tree_of c.in_ok-plan.plan) c.requires.subproblem c.requires.complete c.in_ok-expr.ensures.tokens c.in_ok-expr.ensures.shapes c.in_ok-plan.ensures.spelled c.requires.single c.in_ok-plan.ensures.skewed in
    has-sides c.args.design.now (tree_of c.in_ok-plan.plan) k.belongs.legal

pub cost-requires-clause-legal : goal.cost-requires-clause-legal
cost-requires-clause-legal c =
    (alone c.args.design.now c.args.node.now c.in_ok-expr.expr (tree_of c.in_ok-plan.plan) c.requires.subproblem c.requires.complete c.in_ok-expr.ensures.tokens c.in_ok-expr.ensures.shapes c.in_ok-plan.ensures.spelled c.requires.single c.in_ok-plan.ensures.skewed).belongs.legal

pub returns-then-not-fits : goal.returns-then-not-fits
returns-then-not-fits c t belongs fit =
    let k = alone c.args.design.now c.args.node.now c.in_ok-expr.expr (tree_of c.in_ok-plan.plan) c.requires.subproblem c.requires.complete c.in_ok-expr.ensures.tokens c.in_ok-expr.ensures.shapes c.in_ok-plan.ensures.spelled c.requires.single c.in_ok-plan.ensures.skewed in
    let yes : c.fits.result ≡ true = c.fits.ensures.1 (subst (Fits c.args.design.now.outline) (k.only t belongs) fit) in
    let no = c.if-not-fits.true in
    absurd (cc)

pub returns : goal.returns
returns c =
    let k = alone c.args.design.now c.args.node.now c.in_ok-expr.expr (tree_of c.in_ok-plan.plan) c.requires.subproblem c.requires.complete c.in_ok-expr.ensures.tokens c.in_ok-expr.ensures.shapes c.in_ok-plan.ensures.spelled c.requires.single c.in_ok-plan.ensures.skewed in
    let no = c.if-not-fits.false in
    let yes : c.fits.result ≡ true = cc in
    record {
      plan = record { tree = tree_of c.in_ok-plan.plan; spells = c.in_ok-plan.ensures.spelled; one_each = c.in_ok-expr.ensures.shapes.count; belongs = k.belongs; fits = c.fits.ensures.0 yes; costs = sym c.in_ok-cost.ensures.cost };
      below = λ t belongs fit. omega (arith, c.in_ok-cost.ensures.cost, ap (cost c.args.design.now) (k.only t belongs));
    }

use Rattle.std.proofs.Common.{◌≡◌, sym, true, arith}
use Rattle.sf_checker.proofs.Common.{tree_of}
use Rattle.sf_checker.proofs.Plans.{blocks-below, leaves-few, has-sides, listed-legal, unlisted-unfit, large-unfit}
use Rattle.sf_checker.proofs.planning.plan_cost.Goals as goal

pub has_listed_shapes-requires : goal.has_listed_shapes-requires
has_listed_shapes-requires c = blocks-below c.args.design.now c.args.expr.now (tree_of c.in_ok-plan.plan) c.requires c.in_ok-plan.ensures.spelled

pub fits-requires-clause-few : goal.fits-requires-clause-few
fits-requires-clause-few c = leaves-few c.args.design.now c.args.expr.now (tree_of c.in_ok-plan.plan) c.requires c.in_ok-plan.ensures.spelled

pub fits-requires-clause-sides : goal.fits-requires-clause-sides
fits-requires-clause-sides c = has-sides c.args.design.now c.args.expr.now (tree_of c.in_ok-plan.plan) c.requires c.in_ok-plan.ensures.spelled

pub returns-then-not-has_listed_shapes : goal.returns-then-not-has_listed_shapes
returns-then-not-has_listed_shapes c = unlisted-unfit c.args.design.now c.args.expr.now (tree_of c.in_ok-plan.plan) c.requires c.in_ok-plan.ensures.spelled
    (λ h. let t : c.has_listed_shapes.result ≡ true = c.has_listed_shapes.ensures.1 h in grind arith)

pub returns-then-not-fits : goal.returns-then-not-fits
returns-then-not-fits c = large-unfit c.args.design.now c.args.expr.now (tree_of c.in_ok-plan.plan) c.requires c.in_ok-plan.ensures.spelled
    (λ h. let t : c.fits.result ≡ true = c.fits.ensures.1 h in grind arith)

pub cost-requires-clause-legal : goal.cost-requires-clause-legal
cost-requires-clause-legal c =
    let t : c.has_listed_shapes.result ≡ true = grind arith in
    listed-legal c.args.design.now c.args.expr.now (tree_of c.in_ok-plan.plan) c.requires c.in_ok-plan.ensures.spelled (c.has_listed_shapes.ensures.0 t)

pub returns : goal.returns
returns c =
    let t : c.has_listed_shapes.result ≡ true = grind arith in
    let f : c.fits.result ≡ true = grind arith in
    record {
      tree = tree_of c.in_ok-plan.plan;
      spells = c.in_ok-plan.ensures.spelled;
      legal = listed-legal c.args.design.now c.args.expr.now (tree_of c.in_ok-plan.plan) c.requires c.in_ok-plan.ensures.spelled (c.has_listed_shapes.ensures.0 t);
      fits = c.fits.ensures.0 f;
      costs = sym c.in_ok-cost.ensures.cost;
    }

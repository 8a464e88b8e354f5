use Rattle.std.proofs.Common.{sym, subst, arith}
use Rattle.sf_program.proofs.Common.{HasEachOnce, tree_of, AreLegal}
use Rattle.sf_checker.proofs.Plans.{once, leaves-few, has-sides}
use Rattle.sf_program.proofs.Fitting.{its-legal, its-fits}
use Rattle.sf_program.proofs.plan_answer.measure_plan.Goals as goal

pub spots-requires : goal.spots-requires
spots-requires c =
    let tree = tree_of c.in_ok-plan.plan in
    subst (λ n. HasEachOnce n tree) (sym c.block_count.ensures) (once c.args.design.now c.args.expr.now tree c.requires.writable c.in_ok-plan.ensures.spelled)

pub wire-wire-requires : goal.wire-wire-requires
wire-wire-requires c =
    let design = c.args.design.now in
    let tree = tree_of c.in_ok-plan.plan in
    let spelled = c.in_ok-plan.ensures.spelled in
    let legal = c.in_ok-spots.ensures.legal design (its-legal design c.args.expr.now c.requires.fits.0 c.requires.fits.1 tree spelled) (its-fits design c.args.expr.now c.requires.fits.0 c.requires.fits.1 tree spelled) in
    subst (AreLegal design) (sym c.deref.ensures.value) legal

pub size-requires-clause-few : goal.size-requires-clause-few
size-requires-clause-few c = leaves-few c.args.design.now c.args.expr.now (tree_of c.in_ok-plan.plan) c.requires.writable c.in_ok-plan.ensures.spelled

pub size-requires-clause-sides : goal.size-requires-clause-sides
size-requires-clause-sides c = has-sides c.args.design.now c.args.expr.now (tree_of c.in_ok-plan.plan) c.requires.writable c.in_ok-plan.ensures.spelled

pub returns-clause-one_each : goal.returns-clause-one_each
returns-clause-one_each c =
    let design = c.args.design.now in
    let tree = tree_of c.in_ok-plan.plan in
    let spelled = c.in_ok-plan.ensures.spelled in
    (c.in_ok-spots.ensures.legal design (its-legal design c.args.expr.now c.requires.fits.0 c.requires.fits.1 tree spelled) (its-fits design c.args.expr.now c.requires.fits.0 c.requires.fits.1 tree spelled)).one_each

pub returns-clause-small : goal.returns-clause-small
returns-clause-small c =
    let design = c.args.design.now in
    let fits = its-fits design c.args.expr.now c.requires.fits.0 c.requires.fits.1 (tree_of c.in_ok-plan.plan) c.in_ok-plan.ensures.spelled in
    (omega (arith, c.size.ensures.width, fits.0, design.limits.width.1), omega (arith, c.size.ensures.height, fits.1, design.limits.height.1))

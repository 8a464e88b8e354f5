use Rattle.std.proofs.Common.{◌*◌, arith, ap, sym, subst, ◌∙◌}
use Rattle.sf_known.proofs.Common.{tree_of, width, height, HasEachOnce}
use Rattle.sf_known.proofs.Spelled.{leaves-legal}
use Rattle.sf_known.proofs.spelling.spelled.Goals as goal

pub cost-requires-clause-legal : goal.cost-requires-clause-legal
cost-requires-clause-legal c =
    leaves-legal c.args.design.now (tree_of c.in_ok-plan.plan) (tree_of c.args.plan) c.in_ok-plan.ensures.same_leaves c.requires.legal

pub expr_of-requires-clause-each_once : goal.expr_of-requires-clause-each_once
expr_of-requires-clause-each_once c =
    subst (λ n. HasEachOnce n (tree_of c.in_ok-plan.plan)) (sym c.block_count.ensures)
    (leaves-legal c.args.design.now (tree_of c.in_ok-plan.plan) (tree_of c.args.plan) c.in_ok-plan.ensures.same_leaves c.requires.legal).blocks

pub returns : goal.returns
returns c =
    let old = tree_of c.args.plan in
    let tree = tree_of c.in_ok-plan.plan in
    let same = c.in_ok-plan.ensures in
    record {
      plan = record {
        tree = tree;
        spells = c.in_ok-expr.ensures.spelled;
        one_each = c.in_ok-expr.ensures.one_each ∙ c.block_count.ensures;
        legal = leaves-legal c.args.design.now tree old same.same_leaves c.requires.legal;
        skewed = same.skewed;
        fits = (omega (arith, same.same_width, c.requires.fits.0), omega (arith, same.same_height, c.requires.fits.1));
        costs = c.in_ok-cost.ensures.cost;
      };
      area = ap (λ w. w * height tree) same.same_width ∙ ap (λ h. width old * h) same.same_height ∙ c.requires.area;
    }

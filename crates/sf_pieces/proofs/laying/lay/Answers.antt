use Rattle.std.proofs.Common.{refl, ◌∙◌, subst, sym}
use Rattle.sf_pieces.proofs.Laid.{IsTreeOf, laid-cert, laid-formed, laid-tree}
use Rattle.sf_pieces.proofs.Common.{told_by}
use Rattle.sf_pieces.proofs.laying.lay.Goals as goal

pub invariant_of-result : goal.invariant_of-result
invariant_of-result c =
    let design = c.args.design.now in
    let told = told_by design c.args.pieces.items in
    let part = c.requires.tree.0 in
    let tree = laid-tree design part c.args.cost c.args.pieces.items c.requires.tree.1 c.sort.new.pieces.items c.sort.ensures.moved c.in_ok-sort.ensures.sorted in
    record {
      form = laid-formed design part c.args.cost c.block_count-blocks.result told c.from_runs-tags.result c.args.plan c.block_count-blocks.ensures
          (subst (IsTreeOf design part c.args.cost told) (sym (c.from_runs-tags.ensures ∙ c.in_ok-runs_of.ensures)) tree) c.requires.planned;
    }

pub returns : goal.returns
returns c = λ value part holds low.
    let design = c.args.design.now in
    let told = told_by design c.args.pieces.items in
    let tree = laid-tree design part c.args.cost c.args.pieces.items holds c.sort.new.pieces.items c.sort.ensures.moved c.in_ok-sort.ensures.sorted in
    laid-cert design value part c.args.pieces.items c.args.plan c.args.cost c.args.bound _ c.block_count-blocks.ensures refl refl refl c.in_ok-paths.ensures
    (subst (IsTreeOf design part c.args.cost told) (sym (c.from_runs-tags.ensures ∙ c.in_ok-runs_of.ensures)) tree) c.requires.planned low

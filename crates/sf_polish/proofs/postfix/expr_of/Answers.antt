use Rattle.std.proofs.Common.{◌++◌, length, ap, sym, subst, ◌∙◌}
use Rattle.sf_polish.proofs.Common.{length-replicate, tree_of, HasBlocksBelow, IsNormal, postfix, no_shape, once-below}
use Rattle.sf_polish.proofs.Shaped.{spelled-by}
use Rattle.sf_polish.proofs.Normality.{postfix-normal}
use Rattle.sf_polish.proofs.postfix.expr_of.Goals as goal

pub push_postfix-requires : goal.push_postfix-requires
push_postfix-requires c =
    let blocks = c.args.blocks in
    let t = tree_of c.args.plan.now in
    subst (λ n. HasBlocksBelow n t) (sym (ap length c.in_ok-shapes.ensures ∙ length-replicate blocks no_shape)) (once-below blocks t c.requires.each_once)

pub returns-clause-spelled : goal.returns-clause-spelled
returns-clause-spelled c =
    let blocks = c.args.blocks in
    let t = tree_of c.args.plan.now in
    spelled-by blocks t _ c.in_ok-shapes.shapes.items c.requires.each_once (ap length c.in_ok-shapes.ensures ∙ length-replicate blocks no_shape)
    (c.from_vec.ensures ∙ c.in_ok-push_postfix.ensures.tokens ∙ ap (λ z. z ++ postfix t) c.new-tokens.ensures.items) (c.from_vec-2.ensures ∙ c.in_ok-push_postfix.ensures.shapes)

pub returns-clause-normal : goal.returns-clause-normal
returns-clause-normal c =
    let blocks = c.args.blocks in
    let t = tree_of c.args.plan.now in
    subst (IsNormal blocks) (sym (c.from_vec.ensures ∙ c.in_ok-push_postfix.ensures.tokens ∙ ap (λ z. z ++ postfix t) c.new-tokens.ensures.items)) (postfix-normal blocks t c.requires.each_once c.requires.skewed)

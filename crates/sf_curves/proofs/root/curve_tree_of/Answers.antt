use Rattle.std.proofs.Common.{◌≡◌, ap, ◌∙◌, length}
use Rattle.sf_curves.proofs.Common.{tree_of, postfix, form, form_of}
use Rattle.sf_curves.proofs.Forms.{postfix-form, below-of_normal}
use Rattle.sf_curves.proofs.Members.{IfOk-weaker}
use Rattle.sf_curves.proofs.root.curve_tree_of.Goals as goal

pub curve_tree-requires-clause-blocks : goal.curve_tree-requires-clause-blocks
curve_tree-requires-clause-blocks c =
    below-of_normal (length c.args.design.now.blocks) c.args.tokens.now (tree_of c.in_ok-plan.plan) c.requires.normal c.in_ok-plan.ensures

pub returns-clause-form : goal.returns-clause-form
returns-clause-form c =
    IfOk-weaker (λ tree. form_of tree ≡ form (tree_of c.in_ok-plan.plan)) (λ tree. postfix (form_of tree) ≡ c.args.tokens.now) c.curve_tree.result
    (λ tree e. ap postfix e ∙ postfix-form (tree_of c.in_ok-plan.plan) ∙ c.in_ok-plan.ensures) c.curve_tree.ensures.form

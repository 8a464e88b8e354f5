use Rattle.std.proofs.Common.{◌≡◌, Bool, true, false, refl, sym, ◌∙◌, not}
use Rattle.sf_bounds.proofs.Extended.{block_child}
use Rattle.sf_bounds.proofs.children.keeps_value.Goals as goal

not-true : (t : Bool) → not t ≡ true → t ≡ false
not-true true h = cc
not-true false h = refl

pub returns-in-Some-Block : goal.returns-in-Some-Block
returns-in-Some-Block c = λ open' design value child.
    block_child design value c.in-Some-Block.field-0-0 c.args.child.now c.steps.result.now c.in-Some-Block.field-0.now child
    c.steps.ensures c.in-Some-Block.ensures.value c.in-Some-Block.field-0-is (sym c.is_complete.ensures ∙ not-true c.is_complete.result open')

use Rattle.std.proofs.Common.{arith, sym, subst, take, drop, [], ◌+◌}
use Rattle.sf_frames.proofs.Building.{IsBuilding, building-begins, token-read}
use Rattle.sf_frames.proofs.groups.item_curves.Goals as goal

pub loop-token-init : goal.loop-token-init
loop-token-init c =
    subst (λ v. IsBuilding c.args.design.now c.args.node.now v [] c.args.node.now.tokens) (sym c.in_ok-clear.ensures)
    (building-begins c.args.design.now c.args.node.now c.requires)

pub loop-token-preserved : goal.loop-token-preserved
loop-token-preserved c =
    let i = c.loop-token.token-index in
    subst (λ v. IsBuilding c.args.design.now c.args.node.now c.step.new.curves.items (take (i + 1) v) (drop (i + 1) v)) c.tokens-token-items.ensures
    (token-read c.args.design.now c.args.node.now _ _ c.tokens-token-items.result.now i _ (omega arith)
    (subst (λ v. IsBuilding c.args.design.now c.args.node.now c.loop-token.curves.items (take i v) (drop i v)) (sym c.tokens-token-items.ensures) c.loop-token.invariant)
    c.in_ok-step.ensures)

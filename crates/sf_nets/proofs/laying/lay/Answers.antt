use Rattle.std.proofs.Common.{arith, sym, subst, take, drop, [], ◌+◌, ap, length}
use Rattle.sf_nets.proofs.LaidTokens.{IsLaying, laying-begins, laying-modest, token-laid, laying-ends}
use Rattle.sf_nets.proofs.laying.lay.Goals as goal

pub loop-token-init : goal.loop-token-init
loop-token-init c =
    subst (λ v. IsLaying c.args.design.now c.args.node.now v c.clear-2.new.self.items [] c.args.node.now.tokens) (sym c.clear.ensures.items)
    (subst (λ v. IsLaying c.args.design.now c.args.node.now [] v [] c.args.node.now.tokens) (sym c.clear-2.ensures.items)
    (laying-begins c.args.design.now c.args.node.now c.requires.subproblem))

pub lay_token-requires-clause-modest : goal.lay_token-requires-clause-modest
lay_token-requires-clause-modest c =
    laying-modest c.args.design.now c.args.node.now c.loop-token.held.items c.loop-token.seats.items c.loop-token.token-index (drop c.loop-token.token-index c.args.node.now.tokens) c.requires.subproblem c.loop-token.invariant

pub loop-token-preserved : goal.loop-token-preserved
loop-token-preserved c =
    let i = c.loop-token.token-index in
    subst (λ v. IsLaying c.args.design.now c.args.node.now c.lay_token.new.held.items c.lay_token.new.seats.items (take (i + 1) v) (drop (i + 1) v)) c.tokens-token-items.ensures
    (token-laid c.args.design.now c.args.node.now _ _ _ _ c.tokens-token-items.result.now i _ (omega arith)
    (subst (λ v. IsLaying c.args.design.now c.args.node.now c.loop-token.held.items c.loop-token.seats.items (take i v) (drop i v)) (sym c.tokens-token-items.ensures) c.loop-token.invariant)
    c.in_ok-lay_token.ensures)

pub returns : goal.returns
returns c =
    laying-ends c.args.design.now c.args.node.now c.loop-token.held.items c.loop-token.seats.items c.loop-token.token-index (drop c.loop-token.token-index c.args.node.now.tokens) c.requires.subproblem
    (omega (arith, c.loop-token-test.false, ap length c.tokens-token-items.ensures)) c.loop-token.invariant

use Rattle.std.proofs.Common.{◌≡◌, ◌<◌, subst, arith, IsFalse}
use Rattle.sf_anneal.proofs.Common.{nat_tests, block_count, is_outside, token_at}
use Rattle.sf_polish.specs.declared.expr.Token.TheVariants as token
use Rattle.sf_anneal.proofs.Renewing.{renewed-block}
use Rattle.sf_anneal.proofs.parts.Moved.step.Goals as goal

pub returns-in-Block-clause-renewed : goal.returns-in-Block-clause-renewed
returns-in-Block-clause-renewed c =
    let d = c.args.design.now in
    let tokens = c.args.tokens.now in
    let k = c.args.place in
    let b = c.in-Block.block in
    let flag = c.begin.ensures.fresh in
    let at : token_at tokens k ≡ token.Block b = c.in-Block.is in
    let outside : IsFalse (is_outside (block_count d) (token.Block b)) = subst (λ t. IsFalse (is_outside (block_count d) t)) at (c.requires.normal.no_other k token.Beside c.requires.inside) in
    let few : b < block_count d = grind (arith, nat_tests) in
    renewed-block d c.args.blocks.now c.args.now.now c.args.known.now tokens _ c.args.self.now c.begin.new.self k b flag.0 c.requires.normal c.requires.inside c.requires.renewed
    (omega (arith, c.requires.inside, c.requires.room.next_before)) (omega (arith, c.requires.inside, c.requires.room.fresh)) c.begin.ensures.before flag.1 c.begin.ensures.curves at (c.requires.curves b few) flag.2

use Rattle.std.proofs.Common.{◌+◌, ◌/◌, length, arith, subst, sym}
use Rattle.sf_anneal.proofs.Common.{AreNormal, flipped}
use Rattle.sf_anneal.proofs.Flipping.{flip-ends, flipped-normal, length-flipped, runs-few}
use Rattle.sf_anneal.proofs.Patterns.{one-length}
use Rattle.sf_anneal.proofs.moves.flip_chain.Goals as goal

pub overflow_add-k : goal.overflow_add-k
overflow_add-k c = omega (arith, c.requires.inside, runs-few c.args.tokens.now)

pub returns-clause-normal : goal.returns-clause-normal
returns-clause-normal c =
    let ts = c.args.tokens.now in
    let k = c.args.k in
    let l = c.loop-token in
    let made = flip-ends l.tokens (flipped ts k) l.token-index k l.inside l.begun (omega (arith, l.auto.tokens, c.loop-token-test.false)) l.invariant.same in
    subst AreNormal (sym made) (one-length ts (flipped ts k) (length-flipped ts k) (flipped-normal ((length ts + 1) / 2) ts k c.requires.normal))

use Rattle.std.proofs.Common.{◌≡◌}
use Rattle.sf_anneal.proofs.Common.{chain}
use Rattle.sf_anneal.proofs.walking.chain.Given as goal

abbrev pub invariant-loop-block : goal.invariant-loop-block
invariant-loop-block l = l.tokens.items ≡ chain l.block

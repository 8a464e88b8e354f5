use Rattle.std.proofs.Common.{take, drop}
use Rattle.sf_nets.proofs.LaidTokens.{IsLaying}
use Rattle.sf_nets.proofs.laying.lay.Given as goal

abbrev pub invariant-loop-token : goal.invariant-loop-token
invariant-loop-token l = IsLaying l.design l.node l.held.items l.seats.items (take l.token-index l.node.tokens) (drop l.token-index l.node.tokens)

use Rattle.std.proofs.Common.{◌≡◌, ◌≤◌, ◌++◌, take, drop}
use Rattle.sf_anneal.proofs.Common.{flipped, flipped_from}
use Rattle.sf_anneal.proofs.moves.flip_chain.Given as goal

abbrev pub invariant-loop-token : goal.invariant-loop-token
invariant-loop-token l =
    record { few : l.begun ≤ l.token-index; same : take l.token-index l.tokens ++ flipped_from l.k l.inside l.begun (drop l.token-index l.tokens) ≡ flipped l.fn.tokens l.k }

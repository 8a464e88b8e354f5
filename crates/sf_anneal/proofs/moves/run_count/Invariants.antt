use Rattle.std.proofs.Common.{◌≡◌, ◌≤◌, drop}
use Rattle.sf_anneal.proofs.Common.{runs, runs_from}
use Rattle.sf_anneal.proofs.moves.run_count.Given as goal

abbrev pub invariant-loop-token : goal.invariant-loop-token
invariant-loop-token l = record { few : l.begun ≤ l.token-index; same : runs_from l.inside l.begun (drop l.token-index l.tokens) ≡ runs l.tokens }

use Rattle.std.proofs.Common.{◌≡◌, ℕ, ◌<◌, ◌≤◌, length}
use Rattle.sf_anneal.proofs.Common.{token_at}
use Rattle.sf_anneal.proofs.parts.common_front.Given as goal

abbrev pub invariant-loop-place : goal.invariant-loop-place
invariant-loop-place l =
    (l.place ≤ length l.known) × ((k : ℕ) → k < l.place → token_at l.tokens k ≡ token_at l.known k)

use Rattle.std.proofs.Common.{◌≡◌, ℕ, ◌+◌, ◌*◌, map}
use Rattle.sf_gen.proofs.Common.{range_with_len, after, ends_at}
use Rattle.sf_gen.proofs.drawn.draw_ends.Given as goal

abbrev pub invariant-loop-net : goal.invariant-loop-net
invariant-loop-net l = record {
  ends : (seed : ℕ) → l.fn.rng ≡ after seed (2 * l.count) → l.ends.items ≡ map (ends_at seed l.count) (range_with_len 0 l._net);
  moved : (seed : ℕ) → l.fn.rng ≡ after seed (2 * l.count) → l.rng ≡ after seed (2 * l.count + 2 * l._net);
}

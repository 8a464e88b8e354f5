use Rattle.std.proofs.Common.{◌≡◌, ℕ, ◌*◌, map}
use Rattle.sf_gen.proofs.Common.{range_with_len, after, size_at}
use Rattle.sf_gen.proofs.drawn.draw_sizes.Given as goal

abbrev pub invariant-loop-block : goal.invariant-loop-block
invariant-loop-block l = record {
  sizes : (seed : ℕ) → l.fn.rng ≡ after seed 0 → l.sizes.items ≡ map (size_at seed) (range_with_len 0 l._block);
  moved : (seed : ℕ) → l.fn.rng ≡ after seed 0 → l.rng ≡ after seed (2 * l._block);
}

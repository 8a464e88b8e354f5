-- The words of a generator, one after another.
use Rattle.std.proofs.Common.{◌≡◌, ℕ, zero, suc, ◌+◌, refl, sym, ap, add-one}
use Rattle.rand_pcg.specs.Lcg.{Lcg, next_state, state_after}
use Rattle.sf_gen.proofs.Common.{pcg32, multiplier_64, start, after}

-- n steps after a first one lead to the same state as one step after n
later : (w m p n s : ℕ) → state_after w m p n (next_state w m p s) ≡ next_state w m p (state_after w m p n s)
unfolding state_after
later w m p zero s = refl
later w m p (suc n) s = later w m p n (next_state w m p s)

-- the generator with this increment at this state
at_state : ℕ → ℕ → Lcg
at_state increment state = record { state = state; increment = increment }

-- the generator that gives word k stands behind it k + 1 words after the start
pub one_more : (seed k : ℕ) → (pcg32 (after seed k)).1 ≡ after seed (k + 1)
unfolding after state_after at_state
one_more seed k = rw add-one (ap (at_state (start seed).increment) (sym (later 64 multiplier_64 (start seed).increment k (start seed).state)))

-- the start is the generator after no words
pub first : (seed : ℕ) → start seed ≡ after seed 0
unfolding after state_after
first seed = refl

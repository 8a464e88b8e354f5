use Rattle.std.proofs.Common.{◌≢◌, ℕ, ◌<◌, get_or}
use Rattle.sf_words.proofs.Common.{Key, key_text}
use Rattle.sf_words.proofs.options.find_key.Given as goal

abbrev pub invariant-loop-key : goal.invariant-loop-key
invariant-loop-key l = (i : ℕ) → i < l.key-index → (d : Key) → l.name ≢ key_text (get_or l.keys i d)

use Rattle.std.proofs.Common.{◌≢◌, ℕ, ◌<◌, get_or}
use Rattle.sf_words.proofs.Common.{Mode, modes, mode_text}
use Rattle.sf_words.proofs.options.find_mode.Given as goal

abbrev pub invariant-loop-mode : goal.invariant-loop-mode
invariant-loop-mode l = (i : ℕ) → i < l.mode-index → (d : Mode) → l.word ≢ mode_text (get_or modes i d)

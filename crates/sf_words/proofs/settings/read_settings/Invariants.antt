use Rattle.std.proofs.Common.{◌≡◌, map, string_bytes, length}
use Rattle.sf_words.proofs.Common.{keys_of, AreOptions, token_of}
use Rattle.sf_words.proofs.Tokens.{ahead}
use Rattle.sf_words.proofs.settings.read_settings.Given as goal

abbrev pub invariant-loop-keys : goal.invariant-loop-keys
invariant-loop-keys l =
    AreOptions l.fn.mode (map token_of l.settings.items)
    × (map string_bytes l.fn.words ≡ ahead (map token_of l.settings.items) (map string_bytes l.rest))
    × (l.keys ≡ keys_of l.fn.mode)

abbrev pub decreases-loop-keys : goal.decreases-loop-keys
decreases-loop-keys l = length l.rest

use Rattle.std.proofs.Common.{◌≡◌, take, false}
use Rattle.sf_words.proofs.Common.{app_of, new_app, mode_text, keys_of, with_keys, out-Command}
use Rattle.sf_words.proofs.line.subcommand.Given as goal

abbrev pub invariant-loop-key : goal.invariant-loop-key
invariant-loop-key l =
    (app_of l.command ≡ with_keys (new_app (mode_text l.fn.mode)) (take l.key-index l.key-items))
    × ((out-Command l.command).has_globals ≡ false)
    × (l.key-items ≡ keys_of l.fn.mode)

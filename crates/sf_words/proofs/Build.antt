-- One more option, and one more command.
use Rattle.std.proofs.Common.{◌≡◌, refl, List, [], ◌∷◌, ◌++◌}
use Rattle.sf_words.proofs.Common.{App, with_rule, with_subcommand, Key, Mode, with_keys, with_modes, rule_of_key, subcommand_for}

-- a command with one more option at the end is the command with the others, and then with this one
pub with_keys-push : (app : App) (keys : List Key) (key : Key) → with_keys app (keys ++ key ∷ []) ≡ with_rule (with_keys app keys) (rule_of_key key)
with_keys-push app [] key = refl
with_keys-push app (k ∷ keys) key = with_keys-push (with_rule app (rule_of_key k)) keys key

-- a command line with one more command at the end is that with the others, and then with this one
pub with_modes-push : (app : App) (modes : List Mode) (mode : Mode) → with_modes app (modes ++ mode ∷ []) ≡ with_subcommand (with_modes app modes) (subcommand_for mode)
with_modes-push app [] mode = refl
with_modes-push app (m ∷ modes) mode = with_modes-push (with_subcommand app (subcommand_for m)) modes mode

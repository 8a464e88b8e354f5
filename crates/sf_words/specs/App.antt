-- The command line that clap is asked to read.
use Rattle.std.specs.Prelude.{List, true, cond, Some, [], ◌∷◌, codes}
use Rattle.clap.specs.Words.{App, Rule, Shape, Text, new_app, new_rule, with_rule, with_subcommand}
use Rattle.clap.specs.Simple.{on_top}
use Rattle.clap.specs.declared.builder.action.ArgAction.TheVariants.{SetTrue}
use Rattle.sf_words.specs.declared.options.Key.{Key}
use Rattle.sf_words.specs.declared.options.Mode.{Mode}
use Rattle.sf_words.specs.Table.{modes, mode_text, key_text, is_flag, keys_of}

-- an option that takes one value
abbrev pub value_rule : Text → Rule
value_rule name = record (new_rule name) { long = Some name }

-- how an option without a value is asked for
abbrev pub flag_rule : Text → Rule
flag_rule name = record (new_rule name) { long = Some name; action = Some SetTrue }

-- how an option is asked for
abbrev pub rule_of_key : Key → Rule
rule_of_key key = cond (is_flag key) (flag_rule (key_text key)) (value_rule (key_text key))

-- the command with these options at the end
abbrev pub with_keys : App → List Key → App
with_keys app [] = app
with_keys app (key ∷ keys) = with_keys (with_rule app (rule_of_key key)) keys

-- the command with its options
abbrev pub subcommand_for : Mode → Shape
subcommand_for mode = (with_keys (new_app (mode_text mode)) (keys_of mode)).top

-- the command line with these commands
abbrev pub with_modes : App → List Mode → App
with_modes app [] = app
with_modes app (mode ∷ modes) = with_modes (with_subcommand app (subcommand_for mode)) modes

-- the words follow the program's name, and none asks for help
abbrev pub bare : App
bare = on_top (λ s. record s { no_binary_name = true; disable_help_flag = true; disable_help_subcommand = true }) (new_app (codes "floorplan"))

-- the whole command line
unfoldable pub floorplan : App
floorplan = with_modes bare modes

-- What a walk makes of the words of one option.
use Rattle.std.proofs.Common.{◌≡◌, ℕ, true, false, ◌==◌, List, [], ◌∷◌, ◌++◌, Some, None, Contains, map, refl, ◌∙◌}
use Rattle.clap.specs.Words.{Text}
use Rattle.sf_words.proofs.Common.{Rule, Shape, filled, Walk, Held, idle, option, walked, reacted, settled, arg_by_id, arg_by_long, has_row, settle_passes, turn_passes, Key, key_text, is_flag, value_rule, flag_rule, full}
use Rattle.sf_words.proofs.Lookup.{same_text}
use Rattle.sf_words.proofs.Texts.{named}
use Rattle.sf_words.proofs.Rules.{find_id, find_long}

-- the walk between two options
abbrev pub between : Held → Walk
between h = record { held = h; waiting = idle; position = 1; is_trailing = false; stopped = None }

-- the walk behind the name of an option whose value is the next word
abbrev pub waits : Text → Held → Walk
waits name h = record { held = record h { pending = Some (name, []) }; waiting = option name; position = 1; is_trailing = false; stopped = None }

-- the settled rule of an option that takes a value
abbrev pub valued : Key → Rule
valued k = filled (value_rule (key_text k))

-- the settled rule of an option that takes no value
abbrev pub flag : Key → Rule
flag k = filled (flag_rule (key_text k))

-- a built subcommand with these options
abbrev pub leaf : Text → List Key → Shape
leaf name keys = record {
  name = name;
  aliases = [];
  rules = map full keys;
  is_plain = true;
  is_leaf = true;
  no_binary_name = true;
  disable_help_flag = true;
  disable_help_subcommand = true;
  disable_version_flag = false;
  propagate_version = false;
  has_version = false;
  has_long_version = false;
  args_override_self = false;
  arg_required_else_help = false;
  subcommand_required = false;
  subcommand_negates_reqs = false;
  is_built = true;
}

module _ (keys : List Key) (k : Key) (inside : Contains keys k) where
  -- an option that takes a value is found by its name as an id
  pub value_by_id : is_flag k ≡ false → arg_by_id (map full keys) (key_text k) ≡ Some (valued k)
  value_by_id e = find_id keys k inside ∙ rw e refl

  -- an option that takes a value is found by its name as a word
  pub value_by_long : is_flag k ≡ false → arg_by_long (map full keys) (key_text k) ≡ Some (valued k)
  value_by_long e = find_long keys k inside ∙ rw e refl

  -- an option that takes no value is found by its name as a word
  pub flag_by_long : is_flag k ≡ true → arg_by_long (map full keys) (key_text k) ≡ Some (flag k)
  flag_by_long e = find_long keys k inside ∙ rw e refl

  -- the word `--name=value` uses the option with this value
  pub attached_word : is_flag k ≡ false → (h : Held) (v : Text) → walked (map full keys) [] (between h) (45 ∷ 45 ∷ (key_text k ++ 61 ∷ v)) ≡ between (reacted (map full keys) (valued k) (v ∷ []) h)
  unfolding walked
  attached_word e h v = rw ((named k).attached_some v, (named k).long_attached v, value_by_long e) refl

  -- the word `--name` of an option that takes a value waits for the value
  pub first_word : is_flag k ≡ false → (h : Held) → walked (map full keys) [] (between h) (45 ∷ 45 ∷ key_text k) ≡ waits (key_text k) (settled (map full keys) h)
  unfolding walked
  first_word e h = rw ((named k).alone_some, (named k).long_alone, value_by_long e) refl

  -- the word `--name` of an option that takes no value uses it
  pub flag_word : is_flag k ≡ true → (h : Held) → walked (map full keys) [] (between h) (45 ∷ 45 ∷ key_text k) ≡ between (reacted (map full keys) (flag k) [] h)
  unfolding walked
  flag_word e h = rw ((named k).alone_some, (named k).long_alone, flag_by_long e) refl

  -- the next word, which does not begin with a hyphen, is the value that was waited for
  pub second_word : is_flag k ≡ false → (h : Held) (x : ℕ) (rest : Text) → (x == 45) ≡ false
      → walked (map full keys) [] (waits (key_text k) h) (x ∷ rest) ≡ between (record h { pending = Some (key_text k, (x ∷ rest) ∷ []) })
  unfolding walked
  second_word e h x rest ne = rw (ne, ne, value_by_id e, same_text k k refl) refl

  -- the word `--name=value` of an option that has no row yet passes
  pub attached_passes : is_flag k ≡ false → (name : Text) (h : Held) (v : Text) → settle_passes (map full keys) false h ≡ true → has_row (key_text k) (settled (map full keys) h).rows ≡ false
      → turn_passes (leaf name keys) [] (between h) (45 ∷ 45 ∷ (key_text k ++ 61 ∷ v)) ≡ true
  attached_passes e name h v settles fresh = rw ((named k).attached_some v, (named k).long_attached v, value_by_long e, settles, fresh) refl

  -- the word `--name` of an option that takes a value passes
  pub first_passes : is_flag k ≡ false → (name : Text) (h : Held) → settle_passes (map full keys) false h ≡ true → turn_passes (leaf name keys) [] (between h) (45 ∷ 45 ∷ key_text k) ≡ true
  first_passes e name h settles = rw ((named k).alone_some, (named k).long_alone, value_by_long e, settles) refl

  -- the word `--name` of an option that takes no value passes, where that has no row yet
  pub flag_passes : is_flag k ≡ true → (name : Text) (h : Held) → settle_passes (map full keys) false h ≡ true → has_row (key_text k) (settled (map full keys) h).rows ≡ false
      → turn_passes (leaf name keys) [] (between h) (45 ∷ 45 ∷ key_text k) ≡ true
  flag_passes e name h settles fresh = rw ((named k).alone_some, (named k).long_alone, flag_by_long e, settles, fresh) refl

  -- a value that does not begin with a hyphen passes
  pub second_passes : (name : Text) (h : Held) (x : ℕ) (rest : Text) → (x == 45) ≡ false → turn_passes (leaf name keys) [] (waits (key_text k) h) (x ∷ rest) ≡ true
  second_passes name h x rest ne = rw (ne, ne) refl

  -- the value of an option that has no row yet settles
  pub value_settles : is_flag k ≡ false → (h : Held) (v : Text) → has_row (key_text k) h.rows ≡ false → settle_passes (map full keys) false (record h { pending = Some (key_text k, v ∷ []) }) ≡ true
  value_settles e h v fresh = rw (value_by_id e, fresh) refl

-- What a list of words asks for: a command and its options, in any order and in both spellings.
use Rattle.std.specs.Prelude.{◌≡◌, ◌≢◌, true, false, List, [], ◌∷◌, ◌++◌, Contains}
use Rattle.sf_words.specs.declared.options.Mode.{Mode}
use Rattle.sf_words.specs.declared.options.Key.{Key}
use Rattle.sf_options.specs.Options.{Text}
use Rattle.sf_words.specs.Table.{modes, mode_text, key_text, is_flag, keys_of}

-- an option as it stands in the words: `--name=value`, `--name value` or `--name`
pub data Token : Type 0 where
  attached : (key : Key) (value : Text) → Token
  spaced : (key : Key) (value : Text) → Token
  alone : (key : Key) → Token

-- the option that it gives
abbrev pub key_of : Token → Key
key_of (attached key value) = key
key_of (spaced key value) = key
key_of (alone key) = key

-- the text that an option has, which is empty for a flag
abbrev pub value_of : Token → Text
value_of (attached key value) = value
value_of (spaced key value) = value
value_of (alone key) = []

-- an option's name as a word, behind two hyphens
abbrev pub key_word : Key → Text
key_word key = 45 ∷ 45 ∷ key_text key

-- the words of an option, in front of others
abbrev pub before : Token → List Text → List Text
before (attached key value) words = (45 ∷ 45 ∷ (key_text key ++ 61 ∷ value)) ∷ words
before (spaced key value) words = key_word key ∷ value ∷ words
before (alone key) words = key_word key ∷ words

-- the words of these options, one after another
abbrev pub words_of : List Token → List Text
words_of [] = []
words_of (token ∷ tokens) = before token (words_of tokens)

-- a value has a byte, and its first is no hyphen
abbrev pub IsValue : Text → Type 0
IsValue [] = ⊥
IsValue (b ∷ bs) = b ≢ 45

-- an option has a value where it isn't a flag
abbrev pub IsShaped : Token → Type 0
IsShaped (attached key value) = (is_flag key ≡ false) × IsValue value
IsShaped (spaced key value) = (is_flag key ≡ false) × IsValue value
IsShaped (alone key) = is_flag key ≡ true

-- no option has this key
abbrev pub IsNew : Key → List Token → Type 0
IsNew key [] = Unit {0}
IsNew key (token ∷ tokens) = (key ≢ key_of token) × IsNew key tokens

-- options of the command, each of its shape and at most once
abbrev pub AreOptions : Mode → List Token → Type 0
AreOptions mode [] = Unit {0}
AreOptions mode (token ∷ tokens) = Contains (keys_of mode) (key_of token) × IsShaped token × IsNew (key_of token) tokens × AreOptions mode tokens

-- The words are a command and its options, in this order and in these spellings. Nothing is said of values beyond their
-- shape, nor of options that a command must have.
pub record HasForm (words : List Text) (mode : Mode) (tokens : List Token) : Type 0 where
  pub known : Contains modes mode
  pub words_are : words ≡ mode_text mode ∷ words_of tokens
  pub options : AreOptions mode tokens

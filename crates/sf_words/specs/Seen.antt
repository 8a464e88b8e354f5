-- What contracts see of an option as it stands in the words.
use Rattle.sf_words.specs.declared.settings.Setting.{Setting}
use Rattle.sf_words.specs.declared.settings.Setting.TheVariants.{Attached, Spaced, Alone}
use Rattle.sf_words.specs.Words.{Token, attached, spaced, alone}

-- an option as it stands in the words
abbrev pub token_of : Setting → Token
token_of (Attached key value) = attached key value.now
token_of (Spaced key value) = spaced key value.now
token_of (Alone key) = alone key

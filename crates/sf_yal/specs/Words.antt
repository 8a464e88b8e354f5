-- Words that have a meaning.
use Rattle.std.specs.Prelude.{ℕ, Bool, List, map, if◌then◌else◌, codes}
use Rattle.std.specs.Str.{bytes_eq}
use Rattle.std.specs.Char.{to_ascii_lowercase}
use Rattle.sf_yal.specs.declared.keyword.Keyword.{Keyword}
use Rattle.sf_yal.specs.declared.keyword.Keyword.TheVariants as keys

-- the word is the key, without regard to case
abbrev pub is_key : List ℕ → List ℕ → Bool
is_key key word = bytes_eq (map to_ascii_lowercase word) (map to_ascii_lowercase key)

-- what the first word of a statement means
unfoldable pub keyword_of : List ℕ → Keyword
keyword_of word = if is_key (codes "MODULE") word then keys.Module
    else if is_key (codes "ENDMODULE") word then keys.EndModule
    else if is_key (codes "TYPE") word then keys.Type
    else if is_key (codes "DIMENSIONS") word then keys.Dimensions
    else if is_key (codes "IOLIST") word then keys.IoList
    else if is_key (codes "ENDIOLIST") word then keys.EndIoList
    else if is_key (codes "NETWORK") word then keys.Network
    else if is_key (codes "ENDNETWORK") word then keys.EndNetwork
    else keys.Other

-- the type of the module that the others are instances in
abbrev pub is_parent_word : List ℕ → Bool
is_parent_word word = is_key (codes "PARENT") word

-- the type of modules that other tools take for pads
abbrev pub is_pad_word : List ℕ → Bool
is_pad_word word = is_key (codes "PAD") word

-- What a shelf that never fails was given.
use Rattle.std.specs.Prelude.{ℕ, List, [], ◌∷◌, map, string_bytes, cond, String, Vec}
use Rattle.std.specs.Str.{bytes_eq}
use Rattle.std.specs.declared.alloc.Global.{Global}

-- names with their texts
abbrev pub Texts : Type 0
Texts = List (List ℕ × List ℕ)

-- the text under a name: the first of that name, or the empty one
abbrev pub text_under : Texts → List ℕ → List ℕ
text_under [] name = []
text_under (text ∷ texts) name = cond (bytes_eq text.0 name) text.1 (text_under texts name)

-- names and texts in the code, as bytes
abbrev pub text_seen : String Global × Vec ℕ Global → List ℕ × List ℕ
text_seen text = (string_bytes text.0, text.1.items)

-- the same of each text
abbrev pub texts_seen : List (String Global × Vec ℕ Global) → Texts
texts_seen texts = map text_seen texts

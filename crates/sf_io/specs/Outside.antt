-- What a shelf holds, what a sink took, and when a fault was counted.
use Rattle.std.specs.Prelude.{◌≡◌, ◌≢◌, ◌⊎◌, ℕ, ◌+◌, ◌-◌, ◌^◌, ◌<◌, ◌≤◌, min, List, length, Option, None, Some, ⊤, Bool, IsTrue, ◌++◌}

-- the bytes under each name, and None where no text has that name
abbrev pub Held : Type 0
Held = List ℕ → Option (List ℕ)

-- what a shelf tells: the bytes under each name, and whether a load may fail although its name has a text
pub record Contents : Type 0 where
  pub held : Held
  pub may_fail : Bool

-- what is seen of a shelf: what it holds, where it tells that, and how many loads and stores have failed, up to the end of u64
pub record ShelfSeen : Type 0 where
  pub holds : Option Contents
  pub load_faults : ℕ
  pub store_faults : ℕ

-- what is seen of a sink: the bytes taken so far, where it tells them, and how many puts have failed, up to the end of u64
pub record SinkSeen : Type 0 where
  pub taken : Option (List ℕ)
  pub faults : ℕ

-- one more, up to the greatest number of u64
abbrev pub one_more : ℕ → ℕ
one_more n = min (n + 1) (2 ^ 64 - 1)

-- the count is greater than before, or stands at the greatest number of u64
abbrev pub Rose : ℕ → ℕ → Type 0
Rose before now = one_more before ≤ now

-- where the contents are told, the name holds these bytes
abbrev pub Holds : Option Contents → List ℕ → List ℕ → Type 0
Holds None name bytes = ⊤
Holds (Some contents) name bytes = contents.held name ≡ Some bytes

-- where the contents are told, the name holds more bytes than the limit
abbrev pub HoldsMore : Option Contents → List ℕ → ℕ → Type 0
HoldsMore None name limit = ⊤
HoldsMore (Some contents) name limit =
    (bytes : List ℕ) × (contents.held name ≡ Some bytes) × (limit < length bytes)

-- where the contents are told, a load of the name may fail: no text has the name, or any load may fail
abbrev pub MayFail : Option Contents → List ℕ → Type 0
MayFail None name = ⊤
MayFail (Some contents) name = IsTrue contents.may_fail ⊎ (contents.held name ≡ None)

-- each other name holds what it held
abbrev pub KeepsOthers : Held → Held → List ℕ → Type 0
KeepsOthers old new name = (other : List ℕ) → other ≢ name → new other ≡ old other

-- where the contents are told, the name now holds these bytes, and each other name what it held
abbrev pub Stores : Option Contents → Option Contents → List ℕ → List ℕ → Type 0
Stores None new name bytes = ⊤
Stores (Some old) None name bytes = ⊥
Stores (Some old) (Some new) name bytes = (new.held name ≡ Some bytes) × KeepsOthers old.held new.held name

-- the old text, or a prefix of these bytes
abbrev pub HoldsPart : Option (List ℕ) → Option (List ℕ) → List ℕ → Type 0
HoldsPart old new bytes =
    (new ≡ old) ⊎ ((part rest : List ℕ) × (new ≡ Some part) × (part ++ rest ≡ bytes))

-- where the contents are told, the name holds its old text or a prefix of these bytes, and each other name what it held
abbrev pub StoresPart : Option Contents → Option Contents → List ℕ → List ℕ → Type 0
StoresPart None new name bytes = ⊤
StoresPart (Some old) None name bytes = ⊥
StoresPart (Some old) (Some new) name bytes = HoldsPart (old.held name) (new.held name) bytes × KeepsOthers old.held new.held name

-- what was taken, where it is told, grew by a prefix of the text
abbrev pub Took : Option (List ℕ) → Option (List ℕ) → List ℕ → Type 0
Took None new text = ⊤
Took (Some old) None text = ⊥
Took (Some old) (Some new) text = (part rest : List ℕ) × (new ≡ old ++ part) × (part ++ rest ≡ text)

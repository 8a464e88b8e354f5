-- What a shelf in memory shows of itself.
use Rattle.std.specs.Prelude.{ℕ, List, [], ◌∷◌, Bool, true, false, Some}
use Rattle.std.specs.Option.{option_map}
use Rattle.std.specs.BTreeMap.{get_by_text}
use Rattle.sf_io.specs.declared.memory.MemShelf.{MemShelf}
use Rattle.sf_io.specs.Outside.{Contents, Held, ShelfSeen}

-- the bytes under each name
abbrev pub mem_texts : MemShelf → Held
mem_texts s name = option_map (λ v. v.items) (get_by_text s.texts name)

-- the numbers of the calls that are to fail
abbrev pub mem_failing : MemShelf → List ℕ
mem_failing s = s.failing.items

-- some call is to fail
abbrev pub is_any : List ℕ → Bool
is_any [] = false
is_any (call ∷ calls) = true

-- the texts, and whether a load may fail although its name has one
abbrev pub mem_contents : MemShelf → Contents
mem_contents s = record { held = mem_texts s; may_fail = is_any (mem_failing s) }

-- how many loads and stores were made, up to the end of u64
abbrev pub mem_calls : MemShelf → ℕ
mem_calls s = s.calls

-- how many loads have failed, up to the end of u64
abbrev pub mem_load_faults : MemShelf → ℕ
mem_load_faults s = s.load_faults

-- how many stores have failed, up to the end of u64
abbrev pub mem_store_faults : MemShelf → ℕ
mem_store_faults s = s.store_faults

-- what is seen of a shelf in memory: all that it holds, and how many loads and stores have failed
abbrev pub mem_seen : MemShelf → ShelfSeen
mem_seen s = record { holds = Some (mem_contents s); load_faults = mem_load_faults s; store_faults = mem_store_faults s }

-- What is stored, one text after another.
use Rattle.std.specs.Prelude.{◌≡◌, ◌⊎◌, ℕ, List, [], ◌∷◌, map, Option, Result, Ok, Err, string_bytes}
use Rattle.sf_designs.specs.declared.work.Store.{Store}
use Rattle.sf_designs.specs.declared.work.Work.{Work}
use Rattle.sf_io.specs.declared.status.Status.{Status}
use Rattle.sf_io.specs.Outside.{Contents, Stores, StoresPart}
use Rattle.sf_designs.specs.declared.stop.Stop.{Stop}
use Rattle.sf_designs.specs.Outcome.{Refusal, Stops}

-- a name and the bytes that are stored under it
abbrev pub Stored : Type 0
Stored = List ℕ × List ℕ

-- the shelf after all of these stores
abbrev pub AfterStores : Option Contents → List Stored → Option Contents → Type 0
AfterStores before [] after = after ≡ before
AfterStores before (s ∷ rest) after = (next : Option Contents) × Stores before next s.0 s.1 × AfterStores next rest after

-- the shelf after one of these stores failed: those before it are done, and it left a part
abbrev pub StoppedAt : Option Contents → List Stored → Option Contents → Type 0
StoppedAt before [] after = ⊥
StoppedAt before (s ∷ rest) after = StoresPart before after s.0 s.1 ⊎ ((next : Option Contents) × Stores before next s.0 s.1 × StoppedAt next rest after)

-- the names and the bytes of what is to be stored
abbrev pub stored_in : List Store → List Stored
stored_in stores = map (λ s. (string_bytes s.name, s.bytes.items)) stores

-- this is so of what the work says: its status, what is to be stored and what is to be printed
abbrev pub Gives : (Status → List Stored → List ℕ → Type 0) → Work → Type 0
Gives Is work = Is work.status (stored_in work.stores.items) work.text.items

-- a command gives such an answer, or stops for a reason of this kind, or for want of memory
abbrev pub Obeyed : (Status → List Stored → List ℕ → Type 0) → (Refusal → Type 0) → Result Work Stop → Type 0
Obeyed Is Why (Ok work) = Gives Is work
Obeyed Is Why (Err stop) = Stops stop Why

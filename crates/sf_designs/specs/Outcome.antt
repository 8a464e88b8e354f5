-- What a stage of the work gives: a value for the next stage, or the answer that ends the call.
use Rattle.std.specs.Prelude.{◌≡◌, ◌⊎◌, ⊤, ℕ, List, Result, Ok, Err}
use Rattle.sf_io.specs.declared.status.Status.{Status}
use Rattle.sf_io.specs.declared.status.Status.TheVariants.{BadInput, OverLimit}
use Rattle.sf_designs.specs.declared.stop.Stop.{Stop}
use Rattle.sf_designs.specs.declared.stop.Stop.TheVariants.{Refused, ReadFault, NoMemory}

-- why a stage gives no value: a text or a quantity is refused, with a status and a line; or a file can't be loaded
pub data Refusal : Type 0 where
  refused : (status : Status) (line : List ℕ) → Refusal
  lost : Refusal

-- the statuses of refused texts and of quantities past their limits
abbrev pub IsRefusal : Status → Type 0
IsRefusal status = (status ≡ BadInput) ⊎ (status ≡ OverLimit)

-- the one stage, and where it gives a value the other one
abbrev pub Then : {X Y : Type 0} → (Result X Refusal → Type 0) → (X → Result Y Refusal → Type 0) → Result Y Refusal → Type 0
Then {X} P Q r = ((x : X) × P (Ok x) × Q x r) ⊎ ((why : Refusal) × P (Err why) × (r ≡ Err why))

-- a call stops for just this reason
abbrev pub Refuses : Stop → Refusal → Type 0
Refuses (Refused status line) why = IsRefusal status × (refused status line.items ≡ why)
Refuses ReadFault why = ⊥
Refuses NoMemory why = ⊥

-- a call stops for a reason of this kind, or for want of memory
abbrev pub Stops : Stop → (Refusal → Type 0) → Type 0
Stops (Refused status line) P = IsRefusal status × P (refused status line.items)
Stops ReadFault P = P lost
Stops NoMemory P = ⊤

-- a call stops only for want of memory
abbrev pub IsFault : Stop → Type 0
IsFault stop = Stops stop (λ why. ⊥)

-- a call ends as the stage does, or for want of memory
abbrev pub Ends : {A X : Type 0} → (A → X) → Result A Stop → (Result X Refusal → Type 0) → Type 0
Ends seen (Ok a) P = P (Ok (seen a))
Ends seen (Err stop) P = Stops stop (λ why. P (Err why))

-- What a stage that reads files leaves of the shelf, and which failures it tells.
use Rattle.std.specs.Prelude.{◌≡◌, ◌≤◌, ⊤, ℕ, Result, IfErr}
use Rattle.sf_io.specs.Outside.{Rose, ShelfSeen}
use Rattle.sf_designs.specs.declared.stop.Stop.{Stop}
use Rattle.sf_designs.specs.declared.stop.Stop.TheVariants.{Refused, ReadFault, NoMemory}

-- nothing is stored, and the count of failed loads doesn't fall
pub record Reads (before after : ShelfSeen) : Type 0 where
  pub unchanged : after.holds ≡ before.holds
  pub later : before.load_faults ≤ after.load_faults
  pub no_store : after.store_faults ≡ before.store_faults

-- a fault of reading is told only where one was counted
abbrev pub IsCounted : ℕ → ℕ → Stop → Type 0
IsCounted faults faults_then ReadFault = Rose faults faults_then
IsCounted faults faults_then (Refused status line) = ⊤
IsCounted faults faults_then NoMemory = ⊤

-- what a stage does with the shelf: it stores nothing, and tells that a load failed only where one was counted
abbrev pub ReadsShelf : {X : Type 0} → ShelfSeen → ShelfSeen → Result X Stop → Type 0
ReadsShelf before after result = Reads before after × IfErr result (IsCounted before.load_faults after.load_faults)

-- no failed load
abbrev pub IsNoLoad : Stop → Type 0
IsNoLoad ReadFault = ⊥
IsNoLoad (Refused status line) = ⊤
IsNoLoad NoMemory = ⊤

-- a stage that has no shelf tells no failed load
abbrev pub TellsNoLoad : {X : Type 0} → Result X Stop → Type 0
TellsNoLoad result = IfErr result IsNoLoad

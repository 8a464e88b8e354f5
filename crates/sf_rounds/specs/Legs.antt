-- What a search of teams promises.
use Rattle.std.specs.Prelude.{◌≡◌, ◌≢◌, ℕ, ◌≤◌, ◌⊎◌, List, [], ◌++◌, map, length, sum, sum_by, All, Any, Option, Some, None, slice_index_or}
use Rattle.sf_model.specs.declared.design.Design.{Design}
use Rattle.sf_polish.specs.declared.expr.Expr.{Expr}
use Rattle.sf_node.specs.declared.part.Part.{Part}
use Rattle.sf_node.specs.Parts.{Parts}
use Rattle.sf_search_core.specs.declared.entry.Entry.{Entry}
use Rattle.sf_search_core.specs.Conserved.{IsConserved}
use Rattle.sf_certificate.specs.Valid.{least}
use Rattle.sf_count.specs.Few.{AllBranchFirst}
use Rattle.sf_cursor.specs.declared.stretch.Stretch.{Stretch}
use Rattle.sf_cursor.specs.Stretches.{IsStretch}
use Rattle.sf_pieces.specs.declared.piece.Piece.{Piece}
use Rattle.sf_pieces.specs.Told.{AreTold}
use Rattle.sf_worker.specs.Tasks.{Solves}
use Rattle.sf_rounds.specs.declared.job.RoundOut.{RoundOut}
use Rattle.sf_rounds.specs.declared.legs.Leg.{Leg}
use Rattle.sf_rounds.specs.declared.leaving.Opened.{Opened}
use Rattle.sf_rounds.specs.Run.{IsBest}
use Rattle.sf_rounds.specs.Rounds.{all_waits, IsRound}

-- how many subproblems the pieces tell
abbrev pub tags_in : List Piece → ℕ
tags_in pieces = sum_by (λ (p : Piece). length p.tags.items) pieces

-- what was decided from these stretches on, against this value at first: the pieces tell the entries, the others and the children are left, and the best plan costs the value, which no entry goes below
pub record IsGone (design : Design) (bound : Parts → ℕ) (part : Parts → Part → ℕ) (given : List Stretch) (value : ℕ) (leg : Leg) : Type 0 where
  pub entries : List Entry
  pub told : AreTold design part leg.value entries [] leg.pieces.items
  pub conserved : IsConserved bound (all_waits design given) entries (all_waits design leg.left.items)
  pub left : All (IsStretch design bound) leg.left.items
  pub best : IsBest design leg.value leg.best
  pub fell : leg.value ≤ value
  pub found : (leg.value ≡ value) ⊎ Any (Solves design bound leg.value) entries
  pub fresh : All (λ (e : Entry). leg.value ≤ e.value) entries
  pub splits : AllBranchFirst design entries

-- a search with this budget at its end: no more than the budget is decided, and all of it where something is left
pub record IsLeg (design : Design) (bound : Parts → ℕ) (part : Parts → Part → ℕ) (given : List Stretch) (value nodes : ℕ) (leg : Leg) : Type 0 where
  pub gone : IsGone design bound part given value leg
  pub few : length gone.entries ≤ nodes
  pub spent : leg.left.items ≢ [] → length gone.entries ≡ nodes

-- a round of so many decisions at most, and of one at least
pub record IsStep (design : Design) (bound : Parts → ℕ) (part : Parts → Part → ℕ) (given : List Stretch) (value budget : ℕ) (r : RoundOut) : Type 0 where
  pub quotas : List ℕ
  pub round : IsRound design bound part given quotas value r
  pub few : sum quotas ≤ budget
  pub some : 1 ≤ slice_index_or quotas 0 0

-- the newer plan, where there is one
abbrev pub newer : Option Expr → Option Expr → Option Expr
newer (Some expr) old = Some expr
newer None old = old

-- what a round leaves is added
pub record IsAbsorbed (out : RoundOut) (old new : Leg) : Type 0 where
  pub left : new.left.items ≡ out.left.items
  pub pieces : new.pieces.items ≡ old.pieces.items ++ out.pieces.items
  pub value : new.value ≡ out.value
  pub best : new.best ≡ newer out.best old.best

-- what the stretches stand for is left open, whatever the cost is, and this is the least of a value and of the bounds there
pub record AreLeftOpen (design : Design) (bound : Parts → ℕ) (part : Parts → Part → ℕ) (value : ℕ) (stretches : List Stretch) (opened : Opened) : Type 0 where
  pub told : (cost : ℕ) → AreTold design part cost [] (all_waits design stretches) opened.pieces.items
  pub lowest : opened.bound ≡ least value (map bound (all_waits design stretches))

-- What a round promises.
use Rattle.std.specs.Prelude.{◌≡◌, ℕ, ◌<◌, ◌≤◌, ◌⊎◌, List, [], length, sum, All, Any, IsTrue, MatchOption, Some, slice_get, slice_index_or}
use Rattle.std.specs.List.{flat_map}
use Rattle.sf_model.specs.declared.design.Design.{Design}
use Rattle.sf_node.specs.declared.part.Part.{Part}
use Rattle.sf_node.specs.Parts.{Parts}
use Rattle.sf_node.specs.Subproblem.{is_solved}
use Rattle.sf_search_core.specs.declared.entry.Entry.{Entry}
use Rattle.sf_search_core.specs.declared.entry.Kind.TheVariants.{Closed}
use Rattle.sf_search_core.specs.Conserved.{IsConserved}
use Rattle.sf_cursor.specs.declared.stretch.Stretch.{Stretch}
use Rattle.sf_cursor.specs.Stretches.{IsStretch, waits}
use Rattle.sf_pieces.specs.Told.{AreTold}
use Rattle.sf_worker.specs.Tasks.{IsPlan, IsEntry, Solves}
use Rattle.sf_rounds.specs.declared.job.RoundOut.{RoundOut}

-- the subproblems that the stretches stand for
abbrev pub all_waits : Design → List Stretch → List Parts
all_waits design stretches = flat_map (waits design) stretches

-- a value that is at most the one handed in, at most that of each entry, at most the bound of each closed entry whose node is solved, and one of the first and the last
pub record IsLeast (design : Design) (bound : Parts → ℕ) (before after : ℕ) (entries : List Entry) : Type 0 where
  pub fell : after ≤ before
  pub named : All (λ (e : Entry). after ≤ e.value) entries
  pub below : All (λ (e : Entry). e.kind ≡ Closed → IsTrue (is_solved design e.node) → after ≤ bound e.node) entries
  pub is : (after ≡ before) ⊎ Any (Solves design bound after) entries

-- what a round leaves of the stretches that it was given: the pieces tell the entries, no more are decided than the quotas allow, the others and the children are left, the value is the least cost that was handed in or found, and each worker whose quota is not 0 decides the first subproblem of its first stretch
pub record IsRound (design : Design) (bound : Parts → ℕ) (part : Parts → Part → ℕ) (given : List Stretch) (quotas : List ℕ) (value : ℕ) (r : RoundOut) : Type 0 where
  pub entries : List Entry
  pub told : AreTold design part r.value entries [] r.pieces.items
  pub conserved : IsConserved bound (all_waits design given) entries (all_waits design r.left.items)
  pub left : All (IsStretch design bound) r.left.items
  pub value_is : IsLeast design bound value r.value entries
  pub best : MatchOption r.best (r.value ≡ value) (λ e. (r.value < value) × IsPlan design e r.value)
  pub few : length entries ≤ sum quotas
  pub entries_are : All (IsEntry design bound) entries
  pub firsts : (i : ℕ) (s : Stretch) → slice_get given i ≡ Some s → 1 ≤ slice_index_or quotas i 0 → Any (λ (e : Entry). e.node ≡ s.cursor.node) entries

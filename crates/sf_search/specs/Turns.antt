-- The turns of the search with one worker, as events of the machine, and what holds between them.
use Rattle.std.specs.Prelude.{◌≡◌, ⊤, ℕ, zero, suc, ◌+◌, ◌-◌, List, [], ◌∷◌, length, map, IsOk, nat_le, if◌then◌else◌, Option, Some, None, slice_get, slice_set}
use Rattle.sf_model.specs.declared.design.Design.{Design}
use Rattle.sf_polish.specs.declared.expr.Expr.{Expr}
use Rattle.sf_node.specs.declared.task.Task.{Task}
use Rattle.sf_node.specs.Parts.{Parts}
use Rattle.sf_node.specs.Subproblem.{is_complete, is_solved}
use Rattle.sf_node.specs.Children.{extended, split}
use Rattle.sf_search_core.specs.declared.event.Event.{Event}
use Rattle.sf_search_core.specs.declared.event.Event.TheVariants.{Take, Replace, Close, Offer}
use Rattle.sf_search_core.specs.declared.event.How.TheVariants.{Extend, Split}
use Rattle.sf_search_core.specs.State.{State}
use Rattle.sf_search_core.specs.Events.{applied}
use Rattle.sf_search_core.specs.Outcome.{after_event, after_events}
use Rattle.sf_node.specs.Full.{first_wide_from}
use Rattle.sf_count.specs.Few.{AllBranchFirst}
use Rattle.sf_worker.specs.declared.visit.Visit.{Visit}
use Rattle.sf_worker.specs.declared.visit.Visit.TheVariants as visit
use Rattle.sf_worker.specs.Decided.{IsVisit}
use Rattle.sf_search.specs.Found.{IsFirst}

-- the least block whose span isn't single
abbrev pub first_wide : Parts → ℕ
first_wide node = first_wide_from 0 node.spans

-- how the worker settles the task that it holds, against the word
abbrev pub settling : Design → (Parts → ℕ) → Option Task → ℕ → List Event
settling design bound None value = []
settling design bound (Some task) value =
    if nat_le value task.bound then Close 0 value ∷ []
    else (if is_solved design task.node then Offer 0 task.bound ∷ Close 0 task.bound ∷ []
    else (if is_complete task.node then Replace 0 (Split (first_wide task.node)) value (map bound (split task.node (first_wide task.node))) ∷ []
    else Replace 0 Extend value (map bound (extended task.node)) ∷ []))

-- the last open task is taken and settled
abbrev pub turn_of : Design → (Parts → ℕ) → State → Option Task → List Event
turn_of design bound state None = []
turn_of design bound state (Some task) = Take 0 (length state.waiting - 1) ∷ settling design bound (Some task) state.word

-- the events of a turn
abbrev pub turn_events : Design → (Parts → ℕ) → State → List Event
turn_events design bound state = turn_of design bound state (slice_get state.waiting (length state.waiting - 1))

-- the state after a turn
abbrev pub turn : Design → (Parts → ℕ) → State → State
turn design bound state = after_events design state (turn_events design bound state)

-- the state after k turns
abbrev pub turns : Design → (Parts → ℕ) → ℕ → State → State
turns design bound zero state = state
turns design bound (suc k) state = turn design bound (turns design bound k state)

-- each event is accepted where it comes
abbrev pub AreAccepted : Design → State → List Event → Type 0
AreAccepted design state [] = ⊤
AreAccepted design state (event ∷ events) = IsOk (applied design state event) × AreAccepted design (after_event design state event) events

-- so are the events of each of the first k turns
abbrev pub TurnsAreAccepted : Design → (Parts → ℕ) → ℕ → State → Type 0
TurnsAreAccepted design bound zero state = ⊤
TurnsAreAccepted design bound (suc k) state =
    TurnsAreAccepted design bound k state × AreAccepted design (turns design bound k state) (turn_events design bound (turns design bound k state))

-- the worker holds nothing
abbrev pub IsIdle : State → Type 0
IsIdle state = state.held ≡ None ∷ []

-- the visit decides the held task, whose bound is that of its subproblem
abbrev pub Decides : Design → (Parts → ℕ) → Option Task → ℕ → Visit → Type 0
Decides design bound None value seen = ⊥
Decides design bound (Some task) value seen = (task.bound ≡ bound task.node) × IsVisit design bound task.node value seen

-- the best plan after a visit: that of a solved subproblem, else the one before
abbrev pub best_after : Visit → Option Expr → Option Expr
best_after visit.Closed best = best
best_after (visit.Solved expr) best = Some expr
best_after visit.Extended best = best
best_after (visit.Split b) best = best

-- what one turn does to the entries
pub record IsTurned (design : Design) (old new : State) : Type 0 where
  pub idle : IsIdle new
  pub one_more : length new.entries ≡ length old.entries + 1
  pub splits : AllBranchFirst design old.entries → AllBranchFirst design new.entries

-- what settling the held task by a visit does
pub record IsSettled (design : Design) (seen : Visit) (old new : State) : Type 0 where
  pub held : new.held ≡ slice_set old.held 0 None
  pub one_more : length new.entries ≡ length old.entries + 1
  pub splits : AllBranchFirst design old.entries → AllBranchFirst design new.entries
  pub keeps : (best : Option Expr) → IsFirst design old best → IsFirst design new (best_after seen best)

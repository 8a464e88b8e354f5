-- The machine after a list of events, and what it then tells of a design's floorplans.
use Rattle.std.specs.Prelude.{◌≡◌, ⊤, ℕ, List, [], ◌∷◌, ◌++◌, map, replicate, ◌⊎◌, None, Result, Ok, Err}
use Rattle.sf_model.specs.declared.design.Design.{Design}
use Rattle.sf_model.specs.declared.TheConstants.{MAX}
use Rattle.sf_model.specs.Tree.{Tree}
use Rattle.sf_model.specs.Legal.{IsLegal, Fits}
use Rattle.sf_model.specs.Cost.{cost, IsFloor}
use Rattle.sf_node.specs.Parts.{Parts}
use Rattle.sf_node.specs.Subproblem.{root}
use Rattle.sf_search_core.specs.declared.event.Event.{Event}
use Rattle.sf_search_core.specs.declared.refusal.Refusal.{Refusal}
use Rattle.sf_search_core.specs.State.{State}
use Rattle.sf_search_core.specs.Core.{held_tasks}
use Rattle.sf_search_core.specs.Events.{applied, start, CanCome}
use Rattle.sf_search_core.specs.Least.{least}

-- the machine at its start, where no worker holds a task
abbrev pub opening : Design → (Parts → ℕ) → ℕ → State
opening design bound workers = start design (bound (root design)) (replicate workers None)

-- a refused event changes nothing
abbrev pub next_of : State → Result State Refusal → State
next_of state (Ok next) = next
next_of state (Err why) = state

-- the state after one event, refused or not
abbrev pub after_event : Design → State → Event → State
after_event design state event = next_of state (applied design state event)

-- the state after all events in turn
abbrev pub after_events : Design → State → List Event → State
after_events design state [] = state
after_events design state (event ∷ events) = after_events design (after_event design state event) events

-- each event meets its conditions where it comes
abbrev pub CanAllCome : Design → (Parts → ℕ) → State → List Event → Type 0
CanAllCome design bound state [] = ⊤
CanAllCome design bound state (event ∷ events) = CanCome bound state event × CanAllCome design bound (after_event design state event) events

-- a floorplan that fits has this cost
pub record IsPlanCost (design : Design) (z : ℕ) : Type 0 where
  pub tree : Tree
  pub legal : IsLegal design tree
  pub fits : Fits design.outline tree
  pub costs : cost design tree ≡ z

-- the least of the word and the bounds of the open and held tasks
abbrev pub floor_of : State → ℕ
floor_of state = least state.word (map (λ task. task.bound) (state.waiting ++ held_tasks state))

-- the word is none or the cost of a floorplan that fits, and no such floorplan costs less than the floor
pub record IsOutcome (design : Design) (state : State) : Type 0 where
  pub found : (state.word ≡ MAX) ⊎ IsPlanCost design state.word
  pub floor : IsFloor design (floor_of state)

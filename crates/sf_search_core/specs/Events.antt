-- What each event does to the state, or why it is refused.
use Rattle.std.specs.Prelude.{◌≡◌, ◌<◌, ⊤, ℕ, List, [], ◌∷◌, ◌++◌, length, map, min, reverse, remove, Bool, ◌&&◌, not, ◌==◌, nat_lt, if◌then◌else◌, Option, Some, None, Result, Ok, Err, IfOk, slice_get, slice_set}
use Rattle.sf_model.specs.declared.design.Design.{Design}
use Rattle.sf_node.specs.declared.task.Task.{Task}
use Rattle.sf_node.specs.Parts.{Parts}
use Rattle.sf_node.specs.Subproblem.{root, is_complete, is_solved, is_wide, span_of}
use Rattle.sf_model.specs.declared.TheConstants.{MAX}
use Rattle.sf_search_core.specs.declared.entry.Kind.{Kind}
use Rattle.sf_search_core.specs.declared.entry.Kind.TheVariants as kind
use Rattle.sf_search_core.specs.declared.event.How.{How}
use Rattle.sf_search_core.specs.declared.event.How.TheVariants as how
use Rattle.sf_search_core.specs.declared.event.Event.{Event}
use Rattle.sf_search_core.specs.declared.event.Event.TheVariants.{Take, Replace, Close, Offer}
use Rattle.sf_search_core.specs.declared.refusal.Refusal.{Refusal}
use Rattle.sf_search_core.specs.declared.refusal.Refusal.TheVariants.{NoPlace, NotHeld, Stale, NotBelow, NotAtLeast, NoStep, NotCost}
use Rattle.sf_search_core.specs.State.{State}
use Rattle.sf_search_core.specs.Conserved.{branched}

-- what stands at a worker's place, if there is such a place
abbrev pub held_in : Option (Option Task) → Option Task
held_in None = None
held_in (Some held) = held

-- what the worker holds
abbrev pub held_by : State → ℕ → Option Task
held_by state worker = held_in (slice_get state.held worker)

-- the kind of the entry that a way of branching makes
abbrev pub kind_of : How → Kind
kind_of how.Extend = kind.Extended
kind_of (how.Split b) = kind.Split b

-- whether a subproblem may branch so
abbrev pub may_branch : How → Parts → Bool
may_branch how.Extend node = not (is_complete node)
may_branch (how.Split b) node = nat_lt b (length node.spans) && is_wide (span_of node b)

-- the children with their bounds
abbrev pub tasks : List Parts → List ℕ → List Task
tasks [] costs = []
tasks (node ∷ nodes) [] = []
tasks (node ∷ nodes) (cost ∷ costs) = record { node = node; bound = cost } ∷ tasks nodes costs

-- the task at a place goes to the worker
abbrev pub take : State → ℕ → ℕ → Option Task → Option Task → Result State Refusal
take state worker place (Some task) None = Ok (record state { waiting = remove state.waiting place; held = slice_set state.held worker (Some task) })
take state worker place (Some task) (Some held) = Err NoPlace
take state worker place None held = Err NoPlace

-- the worker's task becomes its children, the first of them last, and an entry
abbrev pub replace : State → ℕ → How → ℕ → List ℕ → Option Task → Result State Refusal
replace state worker way value costs None = Err NotHeld
replace state worker way value costs (Some task) =
    if nat_lt value state.word then Err (Stale value state.word)
    else (if not (nat_lt task.bound value) then Err (NotBelow task.bound value)
    else (if not (may_branch way task.node) then Err NoStep
    else Ok (record state {
      waiting = state.waiting ++ reverse (tasks (branched (kind_of way) task.node) costs);
      held = slice_set state.held worker None;
      entries = state.entries ++ record { node = task.node; kind = kind_of way; value = value } ∷ [];
    })))

-- the worker's task becomes a closed entry
abbrev pub close : State → ℕ → ℕ → Option Task → Result State Refusal
close state worker value None = Err NotHeld
close state worker value (Some task) =
    if nat_lt value state.word then Err (Stale value state.word)
    else (if nat_lt task.bound value then Err (NotAtLeast task.bound value)
    else Ok (record state {
      held = slice_set state.held worker None;
      entries = state.entries ++ record { node = task.node; kind = kind.Closed; value = value } ∷ [];
    }))

-- the word becomes the lesser of itself and the cost of the worker's solved task
abbrev pub offer : Design → State → ℕ → Option Task → Result State Refusal
offer design state cost None = Err NotHeld
offer design state cost (Some task) =
    if is_solved design task.node && cost == task.bound then Ok (record state { word = min state.word cost })
    else Err (NotCost cost task.bound)

-- what an event does to the state, or why it is refused
abbrev pub applied : Design → State → Event → Result State Refusal
applied design state (Take worker place) = take state worker place (slice_get state.waiting place) (held_by state worker)
applied design state (Replace worker way value costs) = replace state worker way value costs (held_by state worker)
applied design state (Close worker value) = close state worker value (held_by state worker)
applied design state (Offer worker cost) = offer design state cost (held_by state worker)

-- the machine at its start
abbrev pub start : Design → ℕ → List (Option Task) → State
start design bound idle = record { waiting = record { node = root design; bound = bound } ∷ []; held = idle; entries = []; word = MAX }

-- where the worker holds a task, these are the values of its children
abbrev pub AreBounds : (Parts → ℕ) → How → List ℕ → Option Task → Type 0
AreBounds bound way costs None = ⊤
AreBounds bound way costs (Some task) = costs ≡ map bound (branched (kind_of way) task.node)

-- what a caller of an event keeps: the worker is one of the machine's, and where a Replace is not refused, its bounds are the values of the children
abbrev pub CanCome : (Parts → ℕ) → State → Event → Type 0
CanCome bound state (Take worker place) = worker < length state.held
CanCome bound state (Replace worker way value costs) = (worker < length state.held) × IfOk (replace state worker way value costs (held_by state worker)) (λ next. AreBounds bound way costs (held_by state worker))
CanCome bound state (Close worker value) = worker < length state.held
CanCome bound state (Offer worker cost) = worker < length state.held

-- The states of the machine and its steps.
use Rattle.std.specs.Prelude.{◌≡◌, ℕ, ◌≤◌, List, [], ◌∷◌, ◌++◌, map, All, Any, ◌⊎◌, IsTrue}
use Rattle.std.specs.List.{filter_map}
use Rattle.sf_model.specs.declared.design.Design.{Design}
use Rattle.sf_model.specs.declared.TheConstants.{MAX}
use Rattle.sf_node.specs.declared.task.Task.{Task}
use Rattle.sf_node.specs.Parts.{Parts}
use Rattle.sf_node.specs.Subproblem.{root, is_solved}
use Rattle.sf_node.specs.Children.{IsSubproblem}
use Rattle.sf_search_core.specs.State.{State}
use Rattle.sf_search_core.specs.Conserved.{IsConserved}

-- the tasks that some worker holds
abbrev pub held_tasks : State → List Task
held_tasks state = filter_map (λ held. held) state.held

-- the subproblems that are not decided
abbrev pub undecided : State → List Parts
undecided state = map (λ task. task.node) (state.waiting ++ held_tasks state)

-- the word is none, or the bound of a solved subproblem that was decided or is held
abbrev pub IsFound : Design → (Parts → ℕ) → State → Type 0
IsFound design bound state =
    (state.word ≡ MAX)
    ⊎ Any (λ node. IsTrue (is_solved design node) × (bound node ≡ state.word)) (map (λ entry. entry.node) state.entries ++ map (λ task. task.node) (held_tasks state))

-- what holds after each event: nothing is lost or made twice, no entry was decided by a value below the word, the word was found, and all bounds are those of their subproblems
pub record IsCoreState (design : Design) (bound : Parts → ℕ) (state : State) : Type 0 where
  pub conserved : IsConserved bound (root design ∷ []) state.entries (undecided state)
  pub not_stale : All (λ entry. state.word ≤ entry.value) state.entries
  pub found : IsFound design bound state
  pub valued : All (λ task. IsSubproblem design task.node × (task.bound ≡ bound task.node)) (state.waiting ++ held_tasks state)

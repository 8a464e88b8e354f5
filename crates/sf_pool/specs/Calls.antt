-- What the calls of the pool answer, and what those ask for that a Replace is made of.
use Rattle.std.specs.Prelude.{◌≡◌, ◌<◌, ◌≤◌, ⊤, IsTrue, ℕ, List, map, Option, Some, None, Result, Ok, Err}
use Rattle.sf_node.specs.declared.task.Task.{Task}
use Rattle.sf_search_core.specs.declared.event.How.{How}
use Rattle.sf_search_core.specs.declared.refusal.Refusal.{Refusal}
use Rattle.sf_search_core.specs.declared.refusal.Refusal.TheVariants.{NoMemory}
use Rattle.sf_search_core.specs.State.{State}
use Rattle.sf_search_core.specs.Conserved.{branched}
use Rattle.sf_search_core.specs.Events.{held_by, kind_of, may_branch}

-- the worker holds this task, and it may be replaced: the value read is not below the word, the bound is below the value, and it may branch so
pub record IsBranching (state : State) (worker : ℕ) (way : How) (value : ℕ) (task : Task) : Type 0 where
  pub held : held_by state worker ≡ Some task
  pub fresh : state.word ≤ value
  pub below : task.bound < value
  pub may : IsTrue (may_branch way task.node)

-- where a worker's task may branch so, the subproblems of these tasks are its children
abbrev pub AreChildren : How → List Task → Option Task → Type 0
AreChildren way children None = ⊤
AreChildren way children (Some task) = IsTrue (may_branch way task.node) → map (λ child. child.node) children ≡ branched (kind_of way) task.node

-- a call answers what the event means, or want of memory with the state unchanged
abbrev pub Answers : Result State Refusal → State → Result Unit Refusal → State → Type 0
Answers meant old (Ok done) new = meant ≡ Ok new
Answers meant old (Err NoMemory) new = new ≡ old
Answers meant old (Err why) new = (meant ≡ Err why) × (new ≡ old)

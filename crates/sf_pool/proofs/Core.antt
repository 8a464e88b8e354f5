-- The pool is in a core state after each call.
use Rattle.std.proofs.Common.{◌≡◌, ℕ, sym, subst, Some, Result, Ok, Err, ◌⊎◌, inl, inr}
use Rattle.sf_pool.proofs.Common.{Design, Task, Parts, IsSubproblem, Event, Refusal, State, IsCoreState, held_by, applied, CanCome, Answers}
use Rattle.sf_search_core.specs.declared.refusal.Refusal.TheVariants as refusal
use Rattle.sf_search_core.specs.Outcome.{opening}
use Rattle.sf_search_core.proofs.Kept.{held-valued}
use Rattle.sf_search_core.proofs.Applied.{held-some, applied-kept}
use Rattle.sf_search_core.proofs.Outcome.{opening-core}

-- a held task is a subproblem of the design
pub held_by-subproblem : (design : Design) (bound : Parts → ℕ) (state : State) (worker : ℕ) (task : Task) → IsCoreState design bound state → held_by state worker ≡ Some task → IsSubproblem design task.node
held_by-subproblem design bound state worker task core e = (held-valued design bound state worker task (held-some _ task e) core).0

-- what is answered is what the event means, or nothing is changed
pub made-or-same : (meant : Result State Refusal) (old : State) (result : Result Unit Refusal) (new : State) → Answers meant old result new → (meant ≡ Ok new) ⊎ (new ≡ old)
made-or-same meant old (Ok done) new a = inl a
made-or-same meant old (Err refusal.NoMemory) new a = inr a
made-or-same meant old (Err refusal.NoPlace) new a = inr a.1
made-or-same meant old (Err refusal.NotHeld) new a = inr a.1
made-or-same meant old (Err (refusal.Stale x y)) new a = inr a.1
made-or-same meant old (Err (refusal.NotBelow x y)) new a = inr a.1
made-or-same meant old (Err (refusal.NotAtLeast x y)) new a = inr a.1
made-or-same meant old (Err refusal.NoStep) new a = inr a.1
made-or-same meant old (Err (refusal.NotCost x y)) new a = inr a.1

-- what is answered keeps a core state
pub answers-core : (design : Design) (bound : Parts → ℕ) (old : State) (event : Event) (result : Result Unit Refusal) (new : State) → Answers (applied design old event) old result new → IsCoreState design bound old → CanCome bound old event → IsCoreState design bound new
answers-core design bound old event result new a core can =
    elim (made-or-same (applied design old event) old result new a) [
      | inl made ↦ applied-kept design bound old new event core can made
      | inr same ↦ subst (IsCoreState design bound) (sym same) core
    ]

-- a machine at its start is in a core state
pub opened-core : (design : Design) (bound : Parts → ℕ) (workers : ℕ) (state : State) → state ≡ opening design bound workers → IsCoreState design bound state
opened-core design bound workers state e = subst (IsCoreState design bound) (sym e) (opening-core design bound workers)

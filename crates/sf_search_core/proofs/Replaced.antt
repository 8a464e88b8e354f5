-- What a Replace answers, by the tests that it passes.
use Rattle.std.proofs.Common.{◌≡◌, ℕ, ◌<◌, ◌≤◌, List, [], ◌∷◌, ◌++◌, reverse, arith, ap, ◌∙◌, Option, Some, None, Result, Ok, true, false, cond, not}
use Rattle.sf_search_core.proofs.Common.{slice_set, nat_lt, lt-ltb, cond-false, Task, Refusal, State, branched, kind_of, may_branch, tasks, replace, How}

-- a number that is no less is found not to be less
pub not-lt : (a b : ℕ) → b ≤ a → nat_lt a b ≡ false
not-lt a b h = grind arith

-- the state after a Replace
abbrev pub replaced : State → ℕ → How → ℕ → List ℕ → Task → State
replaced state worker way value costs task = record state {
  waiting = state.waiting ++ reverse (tasks (branched (kind_of way) task.node) costs);
  held = slice_set state.held worker None;
  entries = state.entries ++ record { node = task.node; kind = kind_of way; value = value } ∷ [];
}

module _ (state : State) (worker : ℕ) (way : How) (value : ℕ) (costs : List ℕ) (held : Option Task) (task : Task) (e : held ≡ Some task) (fresh : state.word ≤ value) where
  -- a value that is not below the word passes the first test
  pub stale-passed : (x y : Result State Refusal) → cond (nat_lt value state.word) x y ≡ y
  stale-passed x y = cond-false (nat_lt value state.word) x y (not-lt value state.word fresh)

  module _ (below : task.bound < value) where
    -- a bound below the value passes the second test
    pub below-passed : (x y : Result State Refusal) → cond (not (nat_lt task.bound value)) x y ≡ y
    below-passed x y = cond-false _ x y (ap not (lt-ltb task.bound value below))

    -- what passes all tests is replaced
    pub replace-done : may_branch way task.node ≡ true → replace state worker way value costs held ≡ Ok (replaced state worker way value costs task)
    replace-done h = ap (replace state worker way value costs) e ∙ stale-passed _ _ ∙ below-passed _ _ ∙ cond-false _ _ _ (ap not h)

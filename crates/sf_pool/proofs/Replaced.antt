-- What a Replace answers, by the tests that it passes.
use Rattle.std.proofs.Common.{◌≡◌, ℕ, suc, ◌<◌, ◌≤◌, List, [], ◌∷◌, ◌++◌, map, reverse, length, get_or, append_assoc, arith, refl, ap, sym, subst, ◌∙◌, Option, Some, None, Ok, Err, false, not}
use Rattle.sf_pool.proofs.Common.{zero, IfOk, slice_set, slice_get, cond-true, length-map, reverse-append, Task, Parts, Replace, Entry, State, branched, held_in, held_by, kind_of, may_branch, tasks, replace, AreBounds, AreChildren, CanCome, IsBranching, How}
use Rattle.sf_search_core.specs.declared.refusal.Refusal.TheVariants as refusal
use Rattle.sf_search_core.proofs.Replaced.{not-lt, replaced, stale-passed, below-passed, replace-done}

module _ (state : State) (worker : ℕ) (way : How) (value : ℕ) (costs : List ℕ) (held : Option Task) (task : Task) (e : held ≡ Some task) (fresh : state.word ≤ value) where
  -- a bound that is not below the value is refused
  pub replace-not_below : value ≤ task.bound → replace state worker way value costs held ≡ Err (refusal.NotBelow task.bound value)
  replace-not_below h = ap (replace state worker way value costs) e ∙ stale-passed state worker way value costs held task e fresh _ _ ∙ cond-true _ _ _ (ap not (not-lt task.bound value h))

  module _ (below : task.bound < value) where
    -- a subproblem that may not branch so is refused
    pub replace-no_step : may_branch way task.node ≡ false → replace state worker way value costs held ≡ Err refusal.NoStep
    replace-no_step h = ap (replace state worker way value costs) e ∙ stale-passed state worker way value costs held task e fresh _ _ ∙ below-passed state worker way value costs held task e fresh below _ _ ∙ cond-true _ _ _ (ap not h)

-- a worker's task that may be replaced is
pub replace-branching : (state : State) (worker : ℕ) (way : How) (value : ℕ) (costs : List ℕ) (task : Task) → IsBranching state worker way value task → replace state worker way value costs (held_by state worker) ≡ Ok (replaced state worker way value costs task)
replace-branching state worker way value costs task b = replace-done state worker way value costs (held_by state worker) task b.held b.fresh b.below b.may

-- there are as many bounds as children
pub costs-many : (bound : Parts → ℕ) (state : State) (worker : ℕ) (way : How) (value : ℕ) (costs : List ℕ) (task : Task) → CanCome bound state (Replace worker way value costs) → IsBranching state worker way value task → length (branched (kind_of way) task.node) ≡ length costs
costs-many bound state worker way value costs task can b =
    let good = subst (λ r. IfOk r (λ (next : State). AreBounds bound way costs (held_by state worker))) (replace-branching state worker way value costs task b) can.1 in
    let same = subst (AreBounds bound way costs) b.held good in
    sym (length-map (branched (kind_of way) task.node) bound) ∙ sym (ap length same)

-- the subproblems of tasks that are made of subproblems and bounds
pub nodes-of_tasks : (ns : List Parts) (cs : List ℕ) → length ns ≡ length cs → map (λ (child : Task). child.node) (tasks ns cs) ≡ ns
nodes-of_tasks [] [] e = refl
nodes-of_tasks [] (c ∷ cs) e = absurd (omega (arith, e))
nodes-of_tasks (n ∷ ns) [] e = absurd (omega (arith, e))
nodes-of_tasks (n ∷ ns) (c ∷ cs) e = ap (λ z. n ∷ z) (nodes-of_tasks ns cs (omega (arith, e)))

-- the bounds of tasks that are made of subproblems and bounds
pub bounds-of_tasks : (ns : List Parts) (cs : List ℕ) → length ns ≡ length cs → map (λ (child : Task). child.bound) (tasks ns cs) ≡ cs
bounds-of_tasks [] [] e = refl
bounds-of_tasks [] (c ∷ cs) e = absurd (omega (arith, e))
bounds-of_tasks (n ∷ ns) [] e = absurd (omega (arith, e))
bounds-of_tasks (n ∷ ns) (c ∷ cs) e = ap (λ z. c ∷ z) (bounds-of_tasks ns cs (omega (arith, e)))

-- tasks are made again of their subproblems and bounds
tasks-again : (ts : List Task) → tasks (map (λ child. child.node) ts) (map (λ child. child.bound) ts) ≡ ts
tasks-again [] = refl
tasks-again (t ∷ ts) = ap (λ z. t ∷ z) (tasks-again ts)

-- the children of the held task, from their subproblems and bounds
pub children-are : (state : State) (worker : ℕ) (way : How) (value : ℕ) (children : List Task) (task : Task) → IsBranching state worker way value task → AreChildren way children (held_by state worker) → tasks (branched (kind_of way) task.node) (map (λ child. child.bound) children) ≡ children
children-are state worker way value children task b are =
    let nodes = subst (AreChildren way children) b.held are b.may in
    ap (λ ns. tasks ns (map (λ child. child.bound) children)) (sym nodes) ∙ tasks-again children

-- the last child goes to the end of the open tasks
pub put-last : (waiting children rest : List Task) (last : Task) → children ≡ rest ++ last ∷ [] → (waiting ++ last ∷ []) ++ reverse rest ≡ waiting ++ reverse children
put-last waiting children rest last e =
    append_assoc waiting (last ∷ []) (reverse rest) ∙ ap (λ z. waiting ++ z) (sym (reverse-append rest (last ∷ []))) ∙ ap (λ z. waiting ++ reverse z) (sym e)

-- what is read at a worker's place is what it holds
in_list : (held : List (Option Task)) (w : ℕ) (o : Option Task) → w < length held → o ≡ get_or held w o → held_in (slice_get held w) ≡ o
in_list [] w o h e = absurd (omega arith)
in_list (x ∷ held) zero o h e = sym e
in_list (x ∷ held) (suc w) o h e = in_list held w o (omega arith) e

-- what is read at the worker's place is what it holds
pub held-at : (state s : State) (w v : ℕ) (o : Option Task) → s ≡ state → v ≡ w → w < length state.held → o ≡ get_or s.held v o → held_by state w ≡ o
held-at state s w v o view same h e =
    in_list state.held w o h (subst (λ (x : State). o ≡ get_or x.held w o) view (subst (λ i. o ≡ get_or s.held i o) same e))

-- a state with these open and held tasks and entries is the one after the Replace
pub replaced-is : (state s : State) (worker : ℕ) (way : How) (value : ℕ) (costs : List ℕ) (task : Task) (waiting : List Task) (held : List (Option Task)) (entries : List Entry) → s ≡ state → waiting ≡ s.waiting ++ reverse (tasks (branched (kind_of way) task.node) costs) → held ≡ slice_set s.held worker None → entries ≡ s.entries ++ record { node = task.node; kind = kind_of way; value = value } ∷ [] → replaced state worker way value costs task ≡ record { waiting = waiting; held = held; entries = entries; word = s.word }
replaced-is state s worker way value costs task waiting held entries view a b d =
    subst (λ (x : State). replaced x worker way value costs task ≡ record { waiting = waiting; held = held; entries = entries; word = s.word }) view (cc)

-- One turn of the machine is one visit of the search in preorder.
use Rattle.std.proofs.Common.{◌≡◌, ℕ, suc, ◌-◌, ◌<◌, min, List, [], ◌∷◌, ◌++◌, map, reverse, length, drop, get_or, arith, refl, ap, sym, subst, ◌∙◌, Option, Some, None, Ok, true, not, length-append, append-nil, ◌&&◌}
use Rattle.sf_search.proofs.Common.{slice_set, slice_get, remove, lt-ltb, map-append, reverse-append, take_at, drop_all, Design, Task, Parts, root, is_wide, span_of, extended, split, CanSplit, Entry, State, branched, IsCoreState, next_of, after_event, after_events, first_wide, Tag, made, marks, tag_of, marks-more, waiting-more, Solved, Extended, settling, turn_of, turn, task_at, mark_of, IsStage, IsVisit, tag_at, cost_at, Take, Replace, Close, Offer, replaced, replace-done, Visit, kind_of}
use Rattle.std.proofs.Math.Seq.{get_or-append_seam}
use Rattle.std.proofs.lemmas.Option.{slice_get-get_or}
use Rattle.sf_search_core.specs.declared.entry.Kind.TheVariants as kind
use Rattle.sf_search_core.specs.declared.event.How.{How}
use Rattle.sf_search_core.specs.declared.event.How.TheVariants as how
use Rattle.sf_search_core.specs.Events.{held_in, held_by, applied, take as taking, replace, kind_of as way_kind, may_branch, tasks, AreBounds}
use Rattle.sf_search_core.proofs.Applied.{applied-kept}
use Rattle.sf_worker.specs.declared.visit.Visit.TheVariants.{Closed, Split}
use Rattle.sf_search.proofs.Settled.{closed, close-done, offer-done, settling-closed, settling-solved, settling-split, settling-extended, ok-const}

-- a list without its last element is what stood before it
remove-last : {X : Type 0} (xs : List X) (x : X) (i : ℕ) → i ≡ length xs → remove (xs ++ x ∷ []) i ≡ xs
remove-last xs x i e =
    ap (λ z. z ++ drop (suc i) (xs ++ x ∷ [])) (take_at xs (x ∷ []) i (sym e))
    ∙ ap (λ z. xs ++ z) (drop_all (suc i) (xs ++ x ∷ []) (omega (arith, e, length-append xs (x ∷ [])))) ∙ append-nil xs

-- tasks of subproblems with their bounds are the tasks as the machine keeps them
tasks-are : (bound : Parts → ℕ) (ns : List Parts) → tasks ns (map bound ns) ≡ map (task_at bound) ns
tasks-are bound [] = refl
tasks-are bound (n ∷ ns) = ap (λ z. task_at bound n ∷ z) (tasks-are bound ns)

-- the tag of a visit's kind is the visit's tag
tag-of-kind : (seen : Visit) → tag_of (kind_of seen) ≡ tag_at seen
tag-of-kind Closed = refl
tag-of-kind (Solved expr) = refl
tag-of-kind Extended = refl
tag-of-kind (Split b) = refl

-- states with the same open and held tasks, the same entries and the same word are the same
same-state : (w w2 : List Task) (h h2 : List (Option Task)) (es : List Entry) (z : ℕ) → w ≡ w2 → h ≡ h2 → ◌≡◌ {A = State} (record { waiting = w; held = h; entries = es; word = z }) (record { waiting = w2; held = h2; entries = es; word = z })
same-state w w2 h h2 es z e k = cc

-- the state after a visit
pub record IsNext (design : Design) (bound : Parts → ℕ) (state : State) (node : Parts) (rest : List Parts) (seen : Visit) (new : State) : Type 0 where
  pub core : IsCoreState design bound new
  pub held : new.held ≡ None ∷ []
  pub waiting : new.waiting ≡ reverse (map (task_at bound) (made (tag_at seen) node ++ rest))
  pub entries : new.entries ≡ state.entries ++ record { node = node; kind = kind_of seen; value = cost_at bound node seen state.word } ∷ []
  pub word : new.word ≡ cost_at bound node seen state.word

module _ (design : Design) (bound : Parts → ℕ) (state : State) (tags : List Tag) (node : Parts) (rest : List Parts) (stage : IsStage design bound state tags (node ∷ rest)) where
  -- the next subproblem as the machine keeps it
  abbrev task : Task
  task = task_at bound node

  -- the subproblems behind it as the machine keeps them, the first of them last
  abbrev others : List Task
  others = reverse (map (task_at bound) rest)

  -- the state in which the first subproblem is held
  abbrev pub mid : State
  mid = record { waiting = others; held = Some task ∷ []; entries = state.entries; word = state.word }

  -- the next subproblem is the last open task
  waiting-is : state.waiting ≡ others ++ task ∷ []
  waiting-is = stage.waiting ∙ reverse-append (task ∷ []) (map (task_at bound) rest)

  -- the last open task stands behind the others
  place-is : length state.waiting - 1 ≡ length others
  place-is = omega (arith, ap length waiting-is, length-append others (task ∷ []))

  -- there is an open task
  pub some : 0 < length state.waiting
  some = omega (arith, ap length waiting-is, length-append others (task ∷ []))

  -- at the last place of the open tasks stands the next subproblem
  got : slice_get state.waiting (length state.waiting - 1) ≡ Some task
  got = ap (λ z. slice_get z (length state.waiting - 1)) waiting-is ∙ slice_get-get_or (others ++ task ∷ []) (length state.waiting - 1) task (omega (arith, place-is, length-append others (task ∷ [])))
      ∙ ap (λ i. Some (get_or (others ++ task ∷ []) i task)) place-is ∙ ap Some (get_or-append_seam others task [] task)

  -- the machine lets the worker take the last open task
  take-done : applied design state (Take 0 (length state.waiting - 1)) ≡ Ok mid
  take-done =
      let place = length state.waiting - 1 in
      let free : held_by state 0 ≡ None = ap (λ h. held_in (slice_get h 0)) stage.idle in
      ap (λ o. taking state 0 place o (held_by state 0)) got ∙ ap (λ h. taking state 0 place (Some task) h) free
      ∙ ap Ok (same-state (remove state.waiting place) others (slice_set state.held 0 (Some task)) (Some task ∷ []) state.entries state.word
      (ap (λ z. remove z place) waiting-is ∙ remove-last others task place place-is)
      (ap (λ h. slice_set h 0 (Some task)) stage.idle))

  -- after taking the last open task the machine is in this state
  pub taken : mid ≡ after_event design state (Take 0 (length state.waiting - 1))
  taken = sym (ap (next_of state) take-done)

  -- a turn holds the first subproblem and settles it
  pub turn-is : turn design bound state ≡ after_events design mid (settling design bound (Some task) state.word)
  turn-is =
      ap (λ o. after_events design state (turn_of design bound state o)) got
      ∙ ap (λ s. after_events design s (settling design bound (Some task) state.word)) (sym taken)

  module _ (core : IsCoreState design bound state) where
    -- the state in which the task is held is a core state
    mid-core : IsCoreState design bound mid
    mid-core = applied-kept design bound state mid (Take 0 (length state.waiting - 1)) core (omega (arith, ap length stage.idle)) take-done

    -- the open tasks and those of the children behind them are, the first last, the children and the rest
    joined : (children : List Parts) → others ++ reverse (tasks children (map bound children)) ≡ reverse (map (task_at bound) (children ++ rest))
    joined children =
        ap (λ z. others ++ reverse z) (tasks-are bound children) ∙ sym (reverse-append (map (task_at bound) children) (map (task_at bound) rest))
        ∙ ap reverse (sym (map-append (task_at bound) children rest))

    -- replacing the held task by its children makes a core state
    replaced-next : (way : How) → bound node < state.word → may_branch way node ≡ true → IsCoreState design bound (replaced mid 0 way state.word (map bound (branched (way_kind way) node)) task)
    replaced-next way below may =
        let costs = map bound (branched (way_kind way) node) in
        applied-kept design bound mid (replaced mid 0 way state.word costs task) (Replace 0 way state.word costs) mid-core
        (omega arith, ok-const (AreBounds bound way costs (Some task)) (replace mid 0 way state.word costs (Some task)) refl)
        (replace-done mid 0 way state.word costs (held_by mid 0) task refl (omega arith) below may)

    -- after a visit the machine's turn has made the state of the visit
    pub next-is : (seen : Visit) → IsVisit design bound node state.word seen → IsNext design bound state node rest seen (turn design bound state)
    next-is Closed d =
        let done = close-done design mid task refl state.word (omega arith) d in
        let same : turn design bound state ≡ closed mid task state.word = turn-is ∙ ap (after_events design mid) (settling-closed design bound task state.word d) ∙ ap (next_of mid) done in
        subst (IsNext design bound state node rest Closed) (sym same) (record {
          core = applied-kept design bound mid (closed mid task state.word) (Close 0 state.word) mid-core (omega arith) done;
          held = refl;
          waiting = refl;
          entries = refl;
          word = refl;
        })
    next-is (Solved expr) d =
        let s1 : State = record mid { word = min state.word (bound node) } in
        let offered = offer-done design mid task refl d.solved in
        let done = close-done design s1 task refl (bound node) (omega arith) (omega arith) in
        let same : turn design bound state ≡ closed s1 task (bound node) =
        turn-is ∙ ap (after_events design mid) (settling-solved design bound task state.word d.below d.solved)
        ∙ ap (λ r. after_event design (next_of mid r) (Close 0 (bound node))) offered ∙ ap (next_of s1) done in
        let core1 = applied-kept design bound mid s1 (Offer 0 (bound node)) mid-core (omega arith) offered in
        subst (IsNext design bound state node rest (Solved expr)) (sym same) (record {
          core = applied-kept design bound s1 (closed s1 task (bound node)) (Close 0 (bound node)) core1 (omega arith) done;
          held = refl;
          waiting = refl;
          entries = refl;
          word = omega (arith, d.below);
        })
    next-is Extended d =
        let may : may_branch how.Extend node ≡ true = ap not d.1 in
        let costs = map bound (extended node) in
        let same : turn design bound state ≡ replaced mid 0 how.Extend state.word costs task =
        turn-is ∙ ap (after_events design mid) (settling-extended design bound task state.word d.0 d.1)
        ∙ ap (next_of mid) (replace-done mid 0 how.Extend state.word costs (held_by mid 0) task refl (omega arith) d.0 may) in
        subst (IsNext design bound state node rest Extended) (sym same) (record {
          core = replaced-next how.Extend d.0 may;
          held = refl;
          waiting = joined (extended node);
          entries = refl;
          word = refl;
        })
    next-is (Split b) d =
        let i = first_wide node in
        let wide : CanSplit node i = subst (CanSplit node) d.first.2 d.wide in
        let may : may_branch (how.Split i) node ≡ true = ap (λ x. x && is_wide (span_of node i)) (lt-ltb i (length node.spans) wide.0) ∙ wide.1 in
        let costs = map bound (split node i) in
        let same : turn design bound state ≡ replaced mid 0 (how.Split i) state.word costs task =
        turn-is ∙ ap (after_events design mid) (settling-split design bound task state.word d.below d.first.1 d.first.0)
        ∙ ap (next_of mid) (replace-done mid 0 (how.Split i) state.word costs (held_by mid 0) task refl (omega arith) d.below may) in
        subst (λ j. IsNext design bound state node rest (Split j) (turn design bound state)) (sym d.first.2)
        (subst (IsNext design bound state node rest (Split i)) (sym same) (record {
          core = replaced-next (how.Split i) d.below may;
          held = refl;
          waiting = joined (split node i);
          entries = refl;
          word = refl;
        }))

    -- the stage after the visit
    pub stage-next : (seen : Visit) → IsVisit design bound node state.word seen → IsStage design bound (turn design bound state) (tags ++ tag_at seen ∷ []) (made (tag_at seen) node ++ rest)
    stage-next seen d =
        let n = next-is seen d in
        let new = turn design bound state in
        record {
          idle = n.held;
          waiting = n.waiting;
          kinds = ap (λ ts. ts ++ tag_at seen ∷ []) stage.kinds ∙ ap (λ (t : Tag). map (λ (entry : Entry). tag_of entry.kind) state.entries ++ t ∷ []) (sym (tag-of-kind seen))
              ∙ sym (map-append (λ (entry : Entry). tag_of entry.kind) state.entries (record { node = node; kind = kind_of seen; value = cost_at bound node seen state.word } ∷ []))
              ∙ ap (map (λ (entry : Entry). tag_of entry.kind)) (sym n.entries);
          marked = ap (map mark_of) n.entries ∙ map-append mark_of state.entries (record { node = node; kind = kind_of seen; value = cost_at bound node seen state.word } ∷ [])
              ∙ ap (λ ms. ms ++ record { node = node; tag = tag_of (kind_of seen) } ∷ []) stage.marked
              ∙ ap (λ (t : Tag). marks (root design ∷ []) tags ++ record { node = node; tag = t } ∷ []) (tag-of-kind seen)
              ∙ sym (marks-more (root design ∷ []) tags node rest (tag_at seen) stage.then);
          then = waiting-more (root design ∷ []) tags node rest (tag_at seen) stage.then;
        }

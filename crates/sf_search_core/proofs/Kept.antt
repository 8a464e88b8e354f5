-- The changes that events make keep a core state: a task changes its place, becomes its children or an entry, or lowers the word.
use Rattle.std.proofs.Common.{◌≡◌, ℕ, suc, ◌<◌, ◌≤◌, min, List, [], ◌∷◌, ◌++◌, map, reverse, length, get_or, All, append_assoc, append-nil, arith, refl, ap, sym, subst, ◌∙◌, Option, Some, None, ◌⊎◌, inl, inr, IsPermutation}
use Rattle.sf_search_core.proofs.Common.{zero, Any, IsTrue, remove, slice_get, slice_set, filter_map, flat_map, cases_lt, map-append, All-append, All-head, All-push, All-tail, All-weaker, Design, Task, Parts, root, is_solved, IsSubproblem, Entry, State, IsConserved, IsDecided, branched, children, IsCoreState, IsPermutation-refl, IsPermutation-sym, IsPermutation-trans, IsPermutation-cons, IsPermutation-middle, IsPermutation-append_left, IsPermutation-append_right, IsPermutation-append_comm, IsPermutation-map, IsPermutation-remove, IsPermutation-reverse, All-permutation, Contains-permutation, MAX, Kind}
use Rattle.std.proofs.lemmas.Grind.{flat_map-append}

-- the tasks that are held
abbrev tasks_in : List (Option Task) → List Task
tasks_in held = filter_map (λ h. h) held

-- a task put into an empty place comes to those held
in_place : (held : List (Option Task)) (w : ℕ) (t : Task) → slice_get held w ≡ Some None → IsPermutation (t ∷ tasks_in held) (tasks_in (slice_set held w (Some t)))
in_place [] w t e = absurd (cc)
in_place (None ∷ held) zero t e = IsPermutation-refl (t ∷ tasks_in held)
in_place (Some y ∷ held) zero t e = absurd (cc)
in_place (None ∷ held) (suc w) t e = in_place held w t e
in_place (Some y ∷ held) (suc w) t e =
    IsPermutation-trans (t ∷ y ∷ tasks_in held) (y ∷ t ∷ tasks_in held) (y ∷ tasks_in (slice_set held w (Some t)))
    (IsPermutation-middle (t ∷ []) y (tasks_in held))
    (IsPermutation-cons y (t ∷ tasks_in held) (tasks_in (slice_set held w (Some t))) (in_place held w t e))

-- a task taken from its place leaves the others held
out_of_place : (held : List (Option Task)) (w : ℕ) (t : Task) → slice_get held w ≡ Some (Some t) → IsPermutation (tasks_in held) (t ∷ tasks_in (slice_set held w None))
out_of_place [] w t e = absurd (cc)
out_of_place (None ∷ held) zero t e = absurd (cc)
out_of_place (Some y ∷ held) zero t e = subst (λ z. IsPermutation (y ∷ tasks_in held) (z ∷ tasks_in held)) (cc) (IsPermutation-refl (y ∷ tasks_in held))
out_of_place (None ∷ held) (suc w) t e = out_of_place held w t e
out_of_place (Some y ∷ held) (suc w) t e =
    IsPermutation-trans (y ∷ tasks_in held) (y ∷ t ∷ tasks_in (slice_set held w None)) (t ∷ y ∷ tasks_in (slice_set held w None))
    (IsPermutation-cons y (tasks_in held) (t ∷ tasks_in (slice_set held w None)) (out_of_place held w t e))
    (IsPermutation-middle (y ∷ []) t (tasks_in (slice_set held w None)))

-- what is read at a place within the list stands there
found_at : {X : Type 0} (xs : List X) (i : ℕ) (x : X) → slice_get xs i ≡ Some x → (i < length xs) × (x ≡ get_or xs i x)
found_at [] i x e = absurd (cc)
found_at (y ∷ xs) zero x e = (omega arith, cc)
found_at (y ∷ xs) (suc i) x e = let r = found_at xs i x e in (omega (arith, r.0), r.1)

-- some element that has P is there in any order
pub Any-permutation : {X : Type 0} (P : X → Type 0) (xs ys : List X) → IsPermutation xs ys → Any P xs → Any P ys
Any-permutation P xs ys p a =
    let c = Contains-permutation xs ys a.1 p (a.0, a.2, a.3) in
    (c.0, a.1, c.1, c.2, a.4)

-- the subproblems of tasks
abbrev nodes : List Task → List Parts
nodes ts = map (λ task. task.node) ts

-- what matters of a state: its undecided tasks as one list
record IsKept (design : Design) (bound : Parts → ℕ) (entries : List Entry) (ts : List Task) : Type 0 where
  conserved : IsConserved bound (root design ∷ []) entries (nodes ts)
  valued : All (λ task. IsSubproblem design task.node × (task.bound ≡ bound task.node)) ts

-- another order of the undecided tasks matters nothing
moved : (design : Design) (bound : Parts → ℕ) (entries : List Entry) (ts us : List Task) → IsPermutation ts us → IsKept design bound entries ts → IsKept design bound entries us
moved design bound entries ts us p k = record {
  conserved = record {
    same = IsPermutation-trans ((root design ∷ []) ++ flat_map children entries) (map (λ entry. entry.node) entries ++ nodes ts) (map (λ entry. entry.node) entries ++ nodes us)
        k.conserved.same (IsPermutation-append_right (map (λ entry. entry.node) entries) (nodes ts) (nodes us) (IsPermutation-map (λ task. task.node) ts us p));
    decided = k.conserved.decided;
  };
  valued = All-permutation (λ task. IsSubproblem design task.node × (task.bound ≡ bound task.node)) ts us p k.valued;
}

-- a task that is taken goes from the open ones to those held
taken : (waiting : List Task) (held : List (Option Task)) (w i : ℕ) (t : Task) → slice_get waiting i ≡ Some t → slice_get held w ≡ Some None → IsPermutation (waiting ++ tasks_in held) (remove waiting i ++ tasks_in (slice_set held w (Some t)))
taken waiting held w i t e f =
    let at = found_at waiting i t e in
    let less = remove waiting i in
    IsPermutation-trans (waiting ++ tasks_in held) ((t ∷ less) ++ tasks_in held) (less ++ tasks_in (slice_set held w (Some t)))
    (IsPermutation-append_left (tasks_in held) waiting (t ∷ less) (IsPermutation-remove waiting i t at.0 at.1))
    (IsPermutation-trans (t ∷ (less ++ tasks_in held)) (less ++ (t ∷ tasks_in held)) (less ++ tasks_in (slice_set held w (Some t)))
    (IsPermutation-sym (less ++ (t ∷ tasks_in held)) (t ∷ (less ++ tasks_in held)) (IsPermutation-middle less t (tasks_in held)))
    (IsPermutation-append_right less (t ∷ tasks_in held) (tasks_in (slice_set held w (Some t))) (in_place held w t f)))

-- Take keeps a core state
pub take-kept : (design : Design) (bound : Parts → ℕ) (state : State) (w i : ℕ) (t : Task) → slice_get state.waiting i ≡ Some t → slice_get state.held w ≡ Some None → IsCoreState design bound state → IsCoreState design bound (record state { waiting = remove state.waiting i; held = slice_set state.held w (Some t) })
take-kept design bound state w i t e f core =
    let k = moved design bound state.entries (state.waiting ++ tasks_in state.held) (remove state.waiting i ++ tasks_in (slice_set state.held w (Some t)))
    (taken state.waiting state.held w i t e f) (record { conserved = core.conserved; valued = core.valued }) in
    let P : Parts → Type 0 = λ node. IsTrue (is_solved design node) × (bound node ≡ state.word) in
    let es = map (λ entry. entry.node) state.entries in
    record {
      conserved = k.conserved;
      not_stale = core.not_stale;
      found = elim core.found [
        | inl none ↦ inl none
        | inr some ↦ inr (Any-permutation P (es ++ (t.node ∷ nodes (tasks_in state.held))) (es ++ nodes (tasks_in (slice_set state.held w (Some t))))
            (IsPermutation-append_right es (t.node ∷ nodes (tasks_in state.held)) (nodes (tasks_in (slice_set state.held w (Some t)))) (IsPermutation-map (λ task. task.node) (t ∷ tasks_in state.held) (tasks_in (slice_set state.held w (Some t))) (in_place state.held w t f)))
            (Any-permutation P (t.node ∷ (es ++ nodes (tasks_in state.held))) (es ++ (t.node ∷ nodes (tasks_in state.held)))
            (IsPermutation-sym (es ++ (t.node ∷ nodes (tasks_in state.held))) (t.node ∷ (es ++ nodes (tasks_in state.held))) (IsPermutation-middle es t.node (nodes (tasks_in state.held))))
            (suc some.0, some.1, omega (arith, some.2), some.3, some.4)))
      ];
      valued = k.valued;
    }

-- the worker's task comes to the front
out : (waiting : List Task) (held : List (Option Task)) (w : ℕ) (t : Task) → slice_get held w ≡ Some (Some t) → IsPermutation (waiting ++ tasks_in held) (t ∷ (waiting ++ tasks_in (slice_set held w None)))
out waiting held w t f =
    let rest = tasks_in (slice_set held w None) in
    IsPermutation-trans (waiting ++ tasks_in held) (waiting ++ (t ∷ rest)) (t ∷ (waiting ++ rest))
    (IsPermutation-append_right waiting (tasks_in held) (t ∷ rest) (out_of_place held w t f)) (IsPermutation-middle waiting t rest)

-- the children come to the end of the open tasks, in reverse
put : (waiting rest ks : List Task) → IsPermutation ((waiting ++ rest) ++ ks) ((waiting ++ reverse ks) ++ rest)
put waiting rest ks =
    subst (λ z. IsPermutation z ((waiting ++ reverse ks) ++ rest)) (sym (append_assoc waiting rest ks))
    (subst (λ z. IsPermutation (waiting ++ (rest ++ ks)) z) (sym (append_assoc waiting (reverse ks) rest))
    (IsPermutation-append_right waiting (rest ++ ks) (reverse ks ++ rest)
    (IsPermutation-trans (rest ++ ks) (ks ++ rest) (reverse ks ++ rest) (IsPermutation-append_comm rest ks) (IsPermutation-append_left rest ks (reverse ks) (IsPermutation-reverse ks)))))

-- Replace and Close keep a core state
pub decide-kept : (design : Design) (bound : Parts → ℕ) (state : State) (w : ℕ) (t : Task) (k : Kind) (value : ℕ) (ks : List Task) → slice_get state.held w ≡ Some (Some t) → state.word ≤ value → IsDecided k t.node (bound t.node) value → nodes ks ≡ branched k t.node → All (λ task. IsSubproblem design task.node × (task.bound ≡ bound task.node)) ks → IsCoreState design bound state
    → IsCoreState design bound (record state { waiting = state.waiting ++ reverse ks; held = slice_set state.held w None; entries = state.entries ++ record { node = t.node; kind = k; value = value } ∷ [] })
decide-kept design bound state w t k value ks f fresh decided same good core =
    let V : Task → Type 0 = λ task. IsSubproblem design task.node × (task.bound ≡ bound task.node) in
    let rest = tasks_in (slice_set state.held w None) in
    let e : Entry = record { node = t.node; kind = k; value = value } in
    let es = map (λ entry. entry.node) state.entries in
    let es-more : map (λ entry. entry.node) (state.entries ++ e ∷ []) ≡ es ++ t.node ∷ [] = map-append (λ (entry : Entry). entry.node) state.entries (e ∷ []) in
    let front = moved design bound state.entries (state.waiting ++ tasks_in state.held) (t ∷ (state.waiting ++ rest)) (out state.waiting state.held w t f) (record { conserved = core.conserved; valued = core.valued }) in
    let made : flat_map children (state.entries ++ e ∷ []) ≡ flat_map children state.entries ++ nodes ks =
    flat_map-append children state.entries (e ∷ []) ∙ ap (λ z. flat_map children state.entries ++ z) (append-nil (branched k t.node) ∙ sym same) in
    let after_put : IsPermutation (nodes (state.waiting ++ rest) ++ nodes ks) (nodes ((state.waiting ++ reverse ks) ++ rest)) =
    subst (λ z. IsPermutation z (nodes ((state.waiting ++ reverse ks) ++ rest))) (map-append (λ (task : Task). task.node) (state.waiting ++ rest) ks)
    (IsPermutation-map (λ task. task.node) ((state.waiting ++ rest) ++ ks) ((state.waiting ++ reverse ks) ++ rest) (put state.waiting rest ks)) in
    let grown : IsPermutation ((root design ∷ flat_map children state.entries) ++ nodes ks) (es ++ (t.node ∷ nodes ((state.waiting ++ reverse ks) ++ rest))) =
    IsPermutation-trans ((root design ∷ flat_map children state.entries) ++ nodes ks) ((es ++ (t.node ∷ nodes (state.waiting ++ rest))) ++ nodes ks) (es ++ (t.node ∷ nodes ((state.waiting ++ reverse ks) ++ rest)))
    (IsPermutation-append_left (nodes ks) (root design ∷ flat_map children state.entries) (es ++ (t.node ∷ nodes (state.waiting ++ rest))) front.conserved.same)
    (subst (λ z. IsPermutation z (es ++ (t.node ∷ nodes ((state.waiting ++ reverse ks) ++ rest)))) (sym (append_assoc es (t.node ∷ nodes (state.waiting ++ rest)) (nodes ks)))
    (IsPermutation-append_right es (t.node ∷ (nodes (state.waiting ++ rest) ++ nodes ks)) (t.node ∷ nodes ((state.waiting ++ reverse ks) ++ rest))
    (IsPermutation-cons t.node (nodes (state.waiting ++ rest) ++ nodes ks) (nodes ((state.waiting ++ reverse ks) ++ rest)) after_put))) in
    let P : Parts → Type 0 = λ node. IsTrue (is_solved design node) × (bound node ≡ state.word) in
    record {
      conserved = record {
        same = subst (λ z. IsPermutation (root design ∷ z) (map (λ entry. entry.node) (state.entries ++ e ∷ []) ++ nodes ((state.waiting ++ reverse ks) ++ rest))) (sym made)
            (subst (λ z. IsPermutation (root design ∷ (flat_map children state.entries ++ nodes ks)) (z ++ nodes ((state.waiting ++ reverse ks) ++ rest))) (sym es-more)
            (subst (λ z. IsPermutation (root design ∷ (flat_map children state.entries ++ nodes ks)) z) (sym (append_assoc es (t.node ∷ []) (nodes ((state.waiting ++ reverse ks) ++ rest)))) grown));
        decided = All-push (λ entry. IsDecided entry.kind entry.node (bound entry.node) entry.value) state.entries e core.conserved.decided decided;
      };
      not_stale = All-push (λ entry. state.word ≤ entry.value) state.entries e core.not_stale fresh;
      found = elim core.found [
        | inl none ↦ inl none
        | inr some ↦ inr (subst (λ z. Any P (z ++ nodes rest)) (sym es-more) (subst (Any P) (sym (append_assoc es (t.node ∷ []) (nodes rest)))
            (Any-permutation P (es ++ nodes (tasks_in state.held)) (es ++ (t.node ∷ nodes rest))
            (IsPermutation-append_right es (nodes (tasks_in state.held)) (t.node ∷ nodes rest) (IsPermutation-map (λ task. task.node) (tasks_in state.held) (t ∷ rest) (out_of_place state.held w t f))) some)))
      ];
      valued = All-permutation V ((state.waiting ++ rest) ++ ks) ((state.waiting ++ reverse ks) ++ rest) (put state.waiting rest ks)
          (All-append V (state.waiting ++ rest) ks (All-tail V t (state.waiting ++ rest) front.valued) good);
    }

-- a held task that has P is among the decided and held ones
held-any : (P : Parts → Type 0) (es : List Parts) (held : List (Option Task)) (w : ℕ) (t : Task) → slice_get held w ≡ Some (Some t) → P t.node → Any P (es ++ nodes (tasks_in held))
held-any P es held w t f p =
    let rest = tasks_in (slice_set held w None) in
    Any-permutation P (t.node ∷ (es ++ nodes rest)) (es ++ nodes (tasks_in held))
    (IsPermutation-sym (es ++ nodes (tasks_in held)) (t.node ∷ (es ++ nodes rest))
    (IsPermutation-trans (es ++ nodes (tasks_in held)) (es ++ (t.node ∷ nodes rest)) (t.node ∷ (es ++ nodes rest))
    (IsPermutation-append_right es (nodes (tasks_in held)) (t.node ∷ nodes rest) (IsPermutation-map (λ task. task.node) (tasks_in held) (t ∷ rest) (out_of_place held w t f)))
    (IsPermutation-middle es t.node (nodes rest))))
    (0, t.node, omega arith, refl, p)

-- Offer keeps a core state
pub offer-kept : (design : Design) (bound : Parts → ℕ) (state : State) (w : ℕ) (t : Task) (cost : ℕ) → slice_get state.held w ≡ Some (Some t) → IsTrue (is_solved design t.node) → bound t.node ≡ cost → IsCoreState design bound state → IsCoreState design bound (record state { word = min state.word cost })
offer-kept design bound state w t cost f solved is core =
    let Q : Parts → Type 0 = λ node. IsTrue (is_solved design node) × (bound node ≡ min state.word cost) in
    let es = map (λ entry. entry.node) state.entries in
    record {
      conserved = core.conserved;
      not_stale = All-weaker (λ entry. state.word ≤ entry.value) (λ entry. min state.word cost ≤ entry.value) (λ entry h. omega (arith, h)) state.entries core.not_stale;
      found = elim (cases_lt cost state.word) [
        | inl less ↦ inr (held-any Q es state.held w t f (solved, omega (arith, is)))
        | inr more ↦ (let e : min state.word cost ≡ state.word = omega arith in
            subst (λ z. (z ≡ MAX) ⊎ Any (λ node. IsTrue (is_solved design node) × (bound node ≡ z)) (es ++ nodes (tasks_in state.held))) (sym e) core.found)
      ];
      valued = core.valued;
    }

-- a held task is a subproblem with its bound
pub held-valued : (design : Design) (bound : Parts → ℕ) (state : State) (w : ℕ) (t : Task) → slice_get state.held w ≡ Some (Some t) → IsCoreState design bound state → IsSubproblem design t.node × (t.bound ≡ bound t.node)
held-valued design bound state w t f core =
    let V : Task → Type 0 = λ task. IsSubproblem design task.node × (task.bound ≡ bound task.node) in
    let rest = state.waiting ++ tasks_in (slice_set state.held w None) in
    All-head V t rest (All-permutation V (state.waiting ++ tasks_in state.held) (t ∷ rest) (out state.waiting state.held w t f) core.valued)

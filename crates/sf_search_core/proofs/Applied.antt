-- Whatever event is accepted, its tests give what its change asks for, so that it keeps a core state.
use Rattle.std.proofs.Common.{◌≡◌, ℕ, suc, ◌<◌, ◌≤◌, List, [], ◌∷◌, ◌++◌, map, reverse, length, arith, refl, ap, sym, subst, append-nil, ◌∙◌, Option, Some, None, Result, Ok, ◌⊎◌, inl, inr, Bool, true, false, cond, not, ◌==◌, ◌&&◌}
use Rattle.sf_search_core.proofs.Common.{zero, IfOk, slice_get, slice_set, nat_lt, AllByRecursion, and_parts, eqb-true, ltb-true, true≢false, cases_lt, lt-ltb, All-from_recursion, All-nil, Design, Task, Parts, is_complete, is_solved, is_wide, span_of, IsSubproblem, Event, Take, Replace, Close, Offer, Refusal, State, IsDecided, branched, IsCoreState, held_in, held_by, kind_of, may_branch, tasks, take, replace, close, offer, applied, AreBounds, CanCome, extended-subproblems, split-subproblems, How}
use Rattle.sf_search_core.specs.declared.entry.Kind.TheVariants as kind
use Rattle.sf_search_core.specs.declared.event.How.TheVariants as how
use Rattle.sf_search_core.proofs.Kept.{take-kept, decide-kept, offer-kept, held-valued}

-- a test that leads to a state passed or failed, with what it leads to
pick : (b : Bool) (x y : Result State Refusal) (s : State) → cond b x y ≡ Ok s → ((b ≡ true) × (x ≡ Ok s)) ⊎ ((b ≡ false) × (y ≡ Ok s))
pick true x y s e = inl (refl, e)
pick false x y s e = inr (refl, e)

-- equal answers hold equal states
ok-same : (s t : State) → ◌≡◌ {A = Result State Refusal} (Ok s) (Ok t) → s ≡ t
ok-same s t e = cc

-- what is found not to fail holds
not-true : (b : Bool) → not b ≡ false → b ≡ true
not-true true e = refl
not-true false e = absurd (true≢false e)

-- what is found to fail does not hold
not-false : (b : Bool) → not b ≡ true → b ≡ false
not-false true e = absurd (true≢false (sym e))
not-false false e = refl

-- a task that is held stands at the worker's place
pub held-some : (o : Option (Option Task)) (t : Task) → held_in o ≡ Some t → o ≡ Some (Some t)
held-some None t e = absurd (cc)
held-some (Some h) t e = ap Some e

-- a worker of the machine that holds nothing has an empty place
held-none : (xs : List (Option Task)) (w : ℕ) → w < length xs → held_in (slice_get xs w) ≡ None → slice_get xs w ≡ Some None
held-none [] w h e = absurd (omega arith)
held-none (x ∷ xs) zero h e = ap Some e
held-none (x ∷ xs) (suc w) h e = held-none xs w (omega arith) e

-- a number that is found not to be less is no less
not-below : (a b : ℕ) → nat_lt a b ≡ false → b ≤ a
not-below a b e = elim (cases_lt a b) [ inl h ↦ absurd (true≢false (sym (lt-ltb a b h) ∙ e)) | inr h ↦ h ]

-- the subproblems of tasks that are made of them
tasks-nodes : (bound : Parts → ℕ) (ns : List Parts) → map (λ task. task.node) (tasks ns (map bound ns)) ≡ ns
tasks-nodes bound [] = refl
tasks-nodes bound (n ∷ ns) = ap (λ z. n ∷ z) (tasks-nodes bound ns)

-- tasks that are made of subproblems with their values have those
tasks-valued : (design : Design) (bound : Parts → ℕ) (ns : List Parts) → AllByRecursion (IsSubproblem design) ns → AllByRecursion (λ task. IsSubproblem design task.node × (task.bound ≡ bound task.node)) (tasks ns (map bound ns))
tasks-valued design bound [] a = tt
tasks-valued design bound (n ∷ ns) a = ((a.0, refl), tasks-valued design bound ns a.1)

-- the children of a branching are subproblems of the design
branch-subproblems : (design : Design) (way : How) (node : Parts) → IsSubproblem design node → may_branch way node ≡ true → AllByRecursion (IsSubproblem design) (branched (kind_of way) node)
branch-subproblems design how.Extend node sub may = extended-subproblems design node sub
branch-subproblems design (how.Split b) node sub may =
    let p = and_parts (nat_lt b (length node.spans)) (is_wide (span_of node b)) may in
    split-subproblems design node b sub (ltb-true b (length node.spans) p.0, p.1)

-- a branching below the value agrees with the bound
branch-decided : (way : How) (node : Parts) (bound value : ℕ) → bound < value → may_branch way node ≡ true → IsDecided (kind_of way) node bound value
branch-decided how.Extend node bound value h may = (h, not-false (is_complete node) may)
branch-decided (how.Split b) node bound value h may =
    let p = and_parts (nat_lt b (length node.spans)) (is_wide (span_of node b)) may in
    (h, (ltb-true b (length node.spans) p.0, p.1))

module _ (design : Design) (bound : Parts → ℕ) (state next : State) (core : IsCoreState design bound state) where
  -- a Take that is accepted keeps a core state
  take-next : (w i : ℕ) (t held : Option Task) → w < length state.held → slice_get state.waiting i ≡ t → held_by state w ≡ held → take state w i t held ≡ Ok next → IsCoreState design bound next
  take-next w i None held h a b e = absurd (cc)
  take-next w i (Some t) (Some u) h a b e = absurd (cc)
  take-next w i (Some t) None h a b e =
      subst (IsCoreState design bound) (ok-same _ next e) (take-kept design bound state w i t a (held-none state.held w h b) core)

  -- a Replace that is accepted keeps a core state
  replace-next : (w : ℕ) (way : How) (value : ℕ) (costs : List ℕ) (held : Option Task) → held_by state w ≡ held → AreBounds bound way costs held → replace state w way value costs held ≡ Ok next → IsCoreState design bound next
  replace-next w way value costs None b good e = absurd (cc)
  replace-next w way value costs (Some t) b good e =
      let at = held-some (slice_get state.held w) t b in
      let valued = held-valued design bound state w t at core in
      elim (pick (nat_lt value state.word) _ _ next e) [
        | inl p ↦ absurd (cc (p.1))
        | inr p ↦ elim (pick (not (nat_lt t.bound value)) _ _ next p.1) [
          | inl q ↦ absurd (cc (q.1))
          | inr q ↦ elim (pick (not (may_branch way t.node)) _ _ next q.1) [
            | inl r ↦ absurd (cc (r.1))
            | inr r ↦
                (let may = not-true (may_branch way t.node) r.0 in
                let below : bound t.node < value = omega (arith, valued.1, ltb-true t.bound value (not-true (nat_lt t.bound value) q.0)) in
                let ks = tasks (branched (kind_of way) t.node) (map bound (branched (kind_of way) t.node)) in
                subst (IsCoreState design bound) (ok-same _ next (ap (λ cs. Ok (record state { waiting = state.waiting ++ reverse (tasks (branched (kind_of way) t.node) cs); held = slice_set state.held w None; entries = state.entries ++ record { node = t.node; kind = kind_of way; value = value } ∷ [] })) (sym good) ∙ r.1))
                (decide-kept design bound state w t (kind_of way) value ks at (not-below value state.word p.0) (branch-decided way t.node (bound t.node) value below may)
                (tasks-nodes bound (branched (kind_of way) t.node))
                (All-from_recursion (λ task. IsSubproblem design task.node × (task.bound ≡ bound task.node)) ks (tasks-valued design bound (branched (kind_of way) t.node) (branch-subproblems design way t.node valued.0 may))) core))
          ]
        ]
      ]

  -- a Close that is accepted keeps a core state
  close-next : (w value : ℕ) (held : Option Task) → held_by state w ≡ held → close state w value held ≡ Ok next → IsCoreState design bound next
  close-next w value None b e = absurd (cc)
  close-next w value (Some t) b e =
      let at = held-some (slice_get state.held w) t b in
      let valued = held-valued design bound state w t at core in
      elim (pick (nat_lt value state.word) _ _ next e) [
        | inl p ↦ absurd (cc (p.1))
        | inr p ↦ elim (pick (nat_lt t.bound value) _ _ next p.1) [
          | inl q ↦ absurd (cc (q.1))
          | inr q ↦ subst (IsCoreState design bound) (ok-same _ next (ap (λ ws. Ok (record state { waiting = ws; held = slice_set state.held w None; entries = state.entries ++ record { node = t.node; kind = kind.Closed; value = value } ∷ [] })) (append-nil state.waiting) ∙ q.1))
              (decide-kept design bound state w t kind.Closed value [] at (not-below value state.word p.0) (omega (arith, valued.1, not-below t.bound value q.0)) refl (All-nil (λ task. IsSubproblem design task.node × (task.bound ≡ bound task.node))) core)
        ]
      ]

  -- an Offer that is accepted keeps a core state
  offer-next : (w cost : ℕ) (held : Option Task) → held_by state w ≡ held → offer design state cost held ≡ Ok next → IsCoreState design bound next
  offer-next w cost None b e = absurd (cc)
  offer-next w cost (Some t) b e =
      let at = held-some (slice_get state.held w) t b in
      let valued = held-valued design bound state w t at core in
      elim (pick (is_solved design t.node && cost == t.bound) _ _ next e) [
        | inl p ↦ (let both = and_parts (is_solved design t.node) (cost == t.bound) p.0 in
            subst (IsCoreState design bound) (ok-same _ next p.1) (offer-kept design bound state w t cost at both.0 (omega (arith, valued.1, eqb-true cost t.bound both.1)) core))
        | inr p ↦ absurd (cc (p.1))
      ]

-- each event that is accepted keeps a core state
pub applied-kept : (design : Design) (bound : Parts → ℕ) (state next : State) (event : Event) → IsCoreState design bound state → CanCome bound state event → applied design state event ≡ Ok next → IsCoreState design bound next
applied-kept design bound state next (Take w i) core can e = take-next design bound state next core w i (slice_get state.waiting i) (held_by state w) can refl refl e
applied-kept design bound state next (Replace w way value costs) core can e = replace-next design bound state next core w way value costs (held_by state w) refl (subst (λ r. IfOk r (λ (next : State). AreBounds bound way costs (held_by state w))) e can.1) e
applied-kept design bound state next (Close w value) core can e = close-next design bound state next core w value (held_by state w) refl e
applied-kept design bound state next (Offer w cost) core can e = offer-next design bound state next core w cost (held_by state w) refl e

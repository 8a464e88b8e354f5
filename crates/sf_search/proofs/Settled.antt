-- The states that the events of a turn make.
use Rattle.std.proofs.Common.{◌≡◌, ℕ, suc, ◌-◌, ◌<◌, ◌≤◌, min, List, [], ◌∷◌, ◌++◌, map, length, All, arith, refl, ap, sym, subst, ◌∙◌, Option, Some, None, Result, Ok, Err, Bool, true, false, not, length-append, append_assoc, eq-eqb, inl, inr, ◌==◌, ◌&&◌, ◌||◌, is_ok}
use Prim.Native.Nat.{zero}
use Rattle.sf_search.proofs.Common.{IsOk, IfOk, slice_set, slice_get, nat_le, remove, list_all, lt-ltb, cond-true, cond-false, cases_lt, length-map, All-push, All-weaker, Design, Expr, Task, Parts, is_complete, is_solved, is_wide, span_of, extended, split, CanSplit, IsPlanOf, Entry, State, next_of, after_event, after_events, HasCost, least, first_wide, IsSolvedBy, IsVisit, BranchesFirst, AllBranchFirst, entries-few, IsCoreState, held_tasks, settling, turn_of, turn_events, turn, turns, AreAccepted, TurnsAreAccepted, IsOfFirst, IsFirst, IsIdle, Decides, IsTurned, IsSettled, best_after, Take, Replace, Close, Offer, not-lt, replaced, replace-done, Visit, full}
use Rattle.sf_search_core.specs.declared.entry.Kind.TheVariants as kind
use Rattle.sf_search_core.specs.declared.event.How.TheVariants as how
use Rattle.sf_search_core.specs.Events.{held_in, held_by, applied, take, close, offer, may_branch}
use Rattle.sf_worker.specs.declared.visit.Visit.TheVariants.{Closed, Solved, Extended, Split}

-- a number is not at most one that is less
not-le : (a b : ℕ) → b < a → nat_le a b ≡ false
not-le a b h = grind arith

-- a number that is at most another compares so
is-le : (a b : ℕ) → a ≤ b → nat_le a b ≡ true
is-le a b h = grind arith

-- the state once the worker has closed the task that it holds at this value
abbrev pub closed : State → Task → ℕ → State
closed state t v = record state { held = slice_set state.held 0 None; entries = state.entries ++ record { node = t.node; kind = kind.Closed; value = v } ∷ [] }

module _ (design : Design) (state : State) (t : Task) (held : held_by state 0 ≡ Some t) where
  -- a held task whose bound is at least the value, which is at least the word, is closed at it
  pub close-done : (v : ℕ) → state.word ≤ v → v ≤ t.bound → applied design state (Close 0 v) ≡ Ok (closed state t v)
  close-done v h k = ap (close state 0 v) held ∙ cond-false _ _ _ (not-lt v state.word h) ∙ cond-false _ _ _ (not-lt t.bound v k)

  -- a solved task's own bound may be offered
  both-true : is_solved design t.node ≡ true → (is_solved design t.node && t.bound == t.bound) ≡ true
  both-true solved = ap (λ b. b && t.bound == t.bound) solved ∙ eq-eqb t.bound t.bound refl

  -- the bound of a solved task that is held may be offered, and lowers the word
  pub offer-done : is_solved design t.node ≡ true → applied design state (Offer 0 t.bound) ≡ Ok (record state { word = min state.word t.bound })
  offer-done solved = ap (offer design state t.bound) held ∙ cond-true _ _ _ (both-true solved)

-- a complete subproblem is solved where wires count nothing or each span has one shape
abbrev rest_of : Design → Parts → Bool
rest_of design node = design.weights.wire == 0 || list_all (λ span. not (is_wide span)) node.spans

-- the events that settle a task, by its case
module _ (design : Design) (bound : Parts → ℕ) (t : Task) (value : ℕ) where
  -- a task whose bound is at least the value is closed at the value
  pub settling-closed : value ≤ t.bound → settling design bound (Some t) value ≡ Close 0 value ∷ []
  settling-closed h = cond-true _ _ _ (is-le value t.bound h)

  -- a solved task below the value offers its bound and is closed at it
  pub settling-solved : t.bound < value → is_solved design t.node ≡ true → settling design bound (Some t) value ≡ Offer 0 t.bound ∷ Close 0 t.bound ∷ []
  settling-solved h solved = cond-false _ _ _ (not-le value t.bound h) ∙ cond-true _ _ _ solved

  -- a complete task that is not solved is split at the first block whose span is wide
  pub settling-split : t.bound < value → is_solved design t.node ≡ false → is_complete t.node ≡ true → settling design bound (Some t) value ≡ Replace 0 (how.Split (first_wide t.node)) value (map bound (split t.node (first_wide t.node))) ∷ []
  settling-split h solved complete = cond-false _ _ _ (not-le value t.bound h) ∙ cond-false _ _ _ solved ∙ cond-true _ _ _ complete

  -- an incomplete subproblem is not solved
  incomplete-unsolved : is_complete t.node ≡ false → is_solved design t.node ≡ false
  incomplete-unsolved e = ap (λ b. b && rest_of design t.node) e

  -- an incomplete task below the value is extended
  pub settling-extended : t.bound < value → is_complete t.node ≡ false → settling design bound (Some t) value ≡ Replace 0 how.Extend value (map bound (extended t.node)) ∷ []
  settling-extended h incomplete = cond-false _ _ _ (not-le value t.bound h) ∙ cond-false _ _ _ (incomplete-unsolved incomplete) ∙ cond-false _ _ _ incomplete

-- what holds anyway holds of a result
pub ok-const : {X E : Type 0} (P : Type 0) (r : Result X E) → P → IfOk r (λ (x : X). P)
ok-const P (Ok x) p = p
ok-const P (Err e) p = tt

-- the expression of a plan of a subproblem has the plan's cost
pub plan-cost : (design : Design) (node : Parts) (expr : Expr) (z : ℕ) → IsPlanOf design node expr z → HasCost design expr z
plan-cost design node expr z p = record { tree = p.tree; spells = p.spells; legal = p.belongs.legal; fits = p.fits; costs = p.costs }

-- the plan that was found first stays the first one when entries are added
first-more : (design : Design) (entries more : List Entry) (word : ℕ) (expr : Expr) → IsOfFirst design entries word expr → IsOfFirst design (entries ++ more) word expr
first-more design entries more word expr f = record {
  before = f.before;
  node = f.node;
  after = f.after ++ more;
  at = ap (λ v. v ++ more) f.at ∙ append_assoc f.before (record { node = f.node; kind = kind.Closed; value = word } ∷ f.after) more;
  first = f.first;
  solved = f.solved;
  plan = f.plan;
  traced = f.traced;
}

-- the plan that was found first stays so when one entry is added and the word stays
first-kept : (design : Design) (old new : State) (e : Entry) (best : Option Expr) → new.entries ≡ old.entries ++ e ∷ [] → new.word ≡ old.word → IsFirst design old best → IsFirst design new best
first-kept design old new e None k same f = tt
first-kept design old new e (Some expr) k same f =
    subst (λ w. IsOfFirst design new.entries w expr) (sym same)
    (subst (λ es. IsOfFirst design es old.word expr) (sym k) (first-more design old.entries (e ∷ []) old.word expr f))

-- the plan of a solved task below the word is the first one of its cost
first-solved : (design : Design) (bound : Parts → ℕ) (state : State) (t : Task) (expr : Expr) → t.bound ≡ bound t.node → All (λ entry. state.word ≤ entry.value) state.entries → IsSolvedBy design bound t.node state.word expr → IsOfFirst design (state.entries ++ record { node = t.node; kind = kind.Closed; value = t.bound } ∷ []) t.bound expr
first-solved design bound state t expr same fresh d = record {
  before = state.entries;
  node = t.node;
  after = [];
  at = refl;
  first = All-weaker (λ entry. state.word ≤ entry.value) (λ entry. t.bound < entry.value) (λ entry h. omega (arith, h, same, d.below)) state.entries fresh;
  solved = d.solved;
  plan = subst (IsPlanOf design t.node expr) (sym same) d.plan;
  traced = d.traced;
}

module _ (design : Design) (state : State) where
  -- one entry more, and no task held any more, is a settling of the held task
  entry-settled : (seen : Visit) (new : State) (e : Entry) → new.held ≡ slice_set state.held 0 None → new.entries ≡ state.entries ++ e ∷ [] → BranchesFirst design e.kind e.node → ((best : Option Expr) → IsFirst design state best → IsFirst design new (best_after seen best)) → IsSettled design seen state new
  entry-settled seen new e h k first keeps = record {
    held = h;
    one_more = omega (arith, ap length k, length-append state.entries (e ∷ []));
    splits = λ a. subst (AllBranchFirst design) (sym k) (All-push (λ entry. BranchesFirst design entry.kind entry.node) state.entries e a first);
    keeps = keeps;
  }

  module _ (bound : Parts → ℕ) (fresh : All (λ entry. state.word ≤ entry.value) state.entries) where
    -- the events of a decision settle the held task by it
    pub settled-at : (held : Option Task) (seen : Visit) → held_by state 0 ≡ held → Decides design bound held state.word seen → IsSettled design seen state (after_events design state (settling design bound held state.word))
    settled-at None seen e d = absurd d
    settled-at (Some t) Closed e (b, d) =
        let over : state.word ≤ t.bound = omega (arith, b, d) in
        let same : after_events design state (settling design bound (Some t) state.word) ≡ closed state t state.word =
        ap (after_events design state) (settling-closed design bound t state.word over) ∙ ap (next_of state) (close-done design state t e state.word (omega arith) over) in
        let e' : Entry = record { node = t.node; kind = kind.Closed; value = state.word } in
        subst (IsSettled design Closed state) (sym same) (entry-settled Closed (closed state t state.word) e' refl refl tt (λ best f. first-kept design state (closed state t state.word) e' best refl refl f))
    settled-at (Some t) (Solved expr) e (b, d) =
        let s1 : State = record state { word = min state.word t.bound } in
        let below : t.bound < state.word = omega (arith, b, d.below) in
        let same : after_events design state (settling design bound (Some t) state.word) ≡ closed s1 t t.bound =
        ap (after_events design state) (settling-solved design bound t state.word below d.solved)
        ∙ ap (λ r. after_event design (next_of state r) (Close 0 t.bound)) (offer-done design state t e d.solved)
        ∙ ap (next_of s1) (close-done design s1 t e t.bound (omega arith) (omega arith)) in
        let least : min state.word t.bound ≡ t.bound = omega (arith, below) in
        let e' : Entry = record { node = t.node; kind = kind.Closed; value = t.bound } in
        let found = subst (λ w. IsOfFirst design (state.entries ++ e' ∷ []) w expr) (sym least) (first-solved design bound state t expr b fresh d) in
        subst (IsSettled design (Solved expr) state) (sym same) (entry-settled (Solved expr) (closed s1 t t.bound) e' refl refl tt (λ best f. found))
    settled-at (Some t) (Split i) e (b, d) =
        let first = first_wide t.node in
        let below : t.bound < state.word = omega (arith, b, d.below) in
        let wide : CanSplit t.node first = subst (CanSplit t.node) d.first.2 d.wide in
        let may : may_branch (how.Split first) t.node ≡ true = ap (λ x. x && is_wide (span_of t.node first)) (lt-ltb first (length t.node.spans) wide.0) ∙ wide.1 in
        let costs = map bound (split t.node first) in
        let same : after_events design state (settling design bound (Some t) state.word) ≡ replaced state 0 (how.Split first) state.word costs t =
        ap (after_events design state) (settling-split design bound t state.word below d.first.1 d.first.0)
        ∙ ap (next_of state) (replace-done state 0 (how.Split first) state.word costs (held_by state 0) t e (omega arith) below may) in
        let new = replaced state 0 (how.Split first) state.word costs t in
        let e' : Entry = record { node = t.node; kind = kind.Split first; value = state.word } in
        subst (IsSettled design (Split i) state) (sym same) (entry-settled (Split i) new e' refl refl (d.first.0, d.first.1, refl) (λ best f. first-kept design state new e' best refl refl f))
    settled-at (Some t) Extended e (b, d) =
        let below : t.bound < state.word = (let l = d.0 in omega (arith, b, l)) in
        let may : may_branch how.Extend t.node ≡ true = ap not d.1 in
        let costs = map bound (extended t.node) in
        let same : after_events design state (settling design bound (Some t) state.word) ≡ replaced state 0 how.Extend state.word costs t =
        ap (after_events design state) (settling-extended design bound t state.word below d.1)
        ∙ ap (next_of state) (replace-done state 0 how.Extend state.word costs (held_by state 0) t e (omega arith) below may) in
        let new = replaced state 0 how.Extend state.word costs t in
        let e' : Entry = record { node = t.node; kind = kind.Extended; value = state.word } in
        subst (IsSettled design Extended state) (sym same) (entry-settled Extended new e' refl refl tt (λ best f. first-kept design state new e' best refl refl f))

    -- each event that settles the task is accepted
    pub accepted-at : (held : Option Task) (seen : Visit) → held_by state 0 ≡ held → Decides design bound held state.word seen → AreAccepted design state (settling design bound held state.word)
    accepted-at None seen e d = absurd d
    accepted-at (Some t) Closed e (b, d) =
        let over : state.word ≤ t.bound = omega (arith, b, d) in
        subst (AreAccepted design state) (sym (settling-closed design bound t state.word over)) (ap is_ok (close-done design state t e state.word (omega arith) over), tt)
    accepted-at (Some t) (Solved expr) e (b, d) =
        let s1 : State = record state { word = min state.word t.bound } in
        let below : t.bound < state.word = omega (arith, b, d.below) in
        let offered = offer-done design state t e d.solved in
        let then : after_event design state (Offer 0 t.bound) ≡ s1 = ap (next_of state) offered in
        let last = close-done design s1 t e t.bound (omega arith) (omega arith) in
        subst (AreAccepted design state) (sym (settling-solved design bound t state.word below d.solved))
        (ap is_ok offered, (subst (λ (s : State). IsOk (applied design s (Close 0 t.bound))) (sym then) (ap is_ok last), tt))
    accepted-at (Some t) (Split i) e (b, d) =
        let first = first_wide t.node in
        let below : t.bound < state.word = omega (arith, b, d.below) in
        let wide : CanSplit t.node first = subst (CanSplit t.node) d.first.2 d.wide in
        let may : may_branch (how.Split first) t.node ≡ true = ap (λ x. x && is_wide (span_of t.node first)) (lt-ltb first (length t.node.spans) wide.0) ∙ wide.1 in
        subst (AreAccepted design state) (sym (settling-split design bound t state.word below d.first.1 d.first.0))
        (ap is_ok (replace-done state 0 (how.Split first) state.word (map bound (split t.node first)) (held_by state 0) t e (omega arith) below may), tt)
    accepted-at (Some t) Extended e (b, d) =
        let below : t.bound < state.word = (let l = d.0 in omega (arith, b, l)) in
        let may : may_branch how.Extend t.node ≡ true = ap not d.1 in
        subst (AreAccepted design state) (sym (settling-extended design bound t state.word below d.1))
        (ap is_ok (replace-done state 0 how.Extend state.word (map bound (extended t.node)) (held_by state 0) t e (omega arith) below may), tt)

-- taking the last open task
pub record IsTaken (old mid : State) : Type 0 where
  pub task : Task
  pub held : mid.held ≡ Some task ∷ []
  pub entries : mid.entries ≡ old.entries
  pub word : mid.word ≡ old.word
  pub got : slice_get old.waiting (length old.waiting - 1) ≡ Some task

-- a place within a list holds something
got : {X : Type 0} (xs : List X) (i : ℕ) → i < length xs → slice_get xs i ≡ None → ⊥
got [] i h e = absurd (omega arith)
got (x ∷ xs) zero h e = absurd (cc)
got (x ∷ xs) (suc i) h e = got xs i (omega arith) e

module _ (design : Design) (state : State) (idle : IsIdle state) (some : 0 < length state.waiting) where
  -- taking the last open task, whichever it is, leaves it with the worker
  pub taken-at : (o : Option Task) → slice_get state.waiting (length state.waiting - 1) ≡ o → IsTaken state (after_event design state (Take 0 (length state.waiting - 1)))
  taken-at None e = absurd (got state.waiting (length state.waiting - 1) (omega arith) e)
  taken-at (Some t) e =
      let place = length state.waiting - 1 in
      let free : held_by state 0 ≡ None = ap (λ h. held_in (slice_get h 0)) idle in
      let same : after_event design state (Take 0 place) ≡ record state { waiting = remove state.waiting place; held = slice_set state.held 0 (Some t) } =
      ap (λ o. next_of state (take state 0 place o (held_by state 0))) e ∙ ap (λ h. next_of state (take state 0 place (Some t) h)) free in
      record {
        task = t;
        held = ap (λ (s : State). s.held) same ∙ ap (λ h. slice_set h 0 (Some t)) idle;
        entries = ap (λ (s : State). s.entries) same;
        word = ap (λ (s : State). s.word) same;
        got = e;
      }

  -- an idle worker may take the last open task, whichever it is
  pub take-accepted : (o : Option Task) → slice_get state.waiting (length state.waiting - 1) ≡ o → IsOk (applied design state (Take 0 (length state.waiting - 1)))
  take-accepted None e = absurd (got state.waiting (length state.waiting - 1) (omega arith) e)
  take-accepted (Some t) e =
      let place = length state.waiting - 1 in
      let free : held_by state 0 ≡ None = ap (λ h. held_in (slice_get h 0)) idle in
      ap is_ok (ap (λ o. take state 0 place o (held_by state 0)) e ∙ ap (λ h. take state 0 place (Some t) h) free)

-- taking the last open task leaves it with the worker, and leaves the entries and the word
pub taken-is : (design : Design) (state mid : State) → IsIdle state → 0 < length state.waiting → mid ≡ after_event design state (Take 0 (length state.waiting - 1)) → IsTaken state mid
taken-is design state mid idle some e = subst (IsTaken state) (sym e) (taken-at design state idle some (slice_get state.waiting (length state.waiting - 1)) refl)

-- a turn: taking, then settling
module _ (design : Design) (bound : Parts → ℕ) (old mid new : State) (task : Task) (seen : Visit) (taken : IsTaken old mid) (e : held_by mid 0 ≡ Some task) (same : task.bound ≡ bound task.node) (fresh : All (λ entry. mid.word ≤ entry.value) mid.entries) (d : IsVisit design bound task.node mid.word seen) (made : new ≡ after_events design mid (settling design bound (held_by mid 0) mid.word)) where
  -- the events settle the task that was taken
  settled : IsSettled design seen mid new
  settled =
      let decides = subst (λ h. Decides design bound h mid.word seen) (sym e) (same, d) in
      subst (IsSettled design seen mid) (sym made) (settled-at design mid bound fresh (held_by mid 0) seen refl decides)

  -- taking and settling a task is one turn
  pub turned-is : IsTurned design old new
  turned-is = record {
    idle = settled.held ∙ ap (λ h. slice_set h 0 None) taken.held;
    one_more = omega (arith, settled.one_more, ap length taken.entries);
    splits = λ a. settled.splits (subst (AllBranchFirst design) (sym taken.entries) a);
  }

  -- the plan that was found first stays so when a task is taken
  taken-first : (best : Option Expr) → IsFirst design old best → IsFirst design mid best
  taken-first None f = tt
  taken-first (Some expr) f = subst (λ w. IsOfFirst design mid.entries w expr) (sym taken.word) (subst (λ es. IsOfFirst design es old.word expr) (sym taken.entries) f)

  -- the best plan after the turn is the first one of its cost
  pub first-is : (best : Option Expr) → IsFirst design old best → IsFirst design new (best_after seen best)
  first-is best f = settled.keeps best (taken-first best f)

  -- the machine accepts the events of the turn
  pub accepted-is : IsIdle old → 0 < length old.waiting → mid ≡ after_event design old (Take 0 (length old.waiting - 1)) → AreAccepted design old (turn_events design bound old)
  accepted-is idle some was =
      let t = taken.task in
      let here : held_by mid 0 ≡ Some t = ap (λ h. held_in (slice_get h 0)) taken.held in
      let decides = subst (λ h. Decides design bound h mid.word seen) (sym e) (same, d) in
      let then = accepted-at design mid bound fresh (held_by mid 0) seen refl decides in
      let rest = subst (λ w. AreAccepted design mid (settling design bound (Some t) w)) taken.word (subst (λ h. AreAccepted design mid (settling design bound h mid.word)) here then) in
      subst (AreAccepted design old) (sym (ap (turn_of design bound old) taken.got)) (
        take-accepted design old idle some (slice_get old.waiting (length old.waiting - 1)) refl,
        subst (λ (s : State). AreAccepted design s (settling design bound (Some t) old.word)) was rest,
      )

-- a turn without an open task changes nothing
pub turn-empty : (design : Design) (bound : Parts → ℕ) (state : State) → state.waiting ≡ [] → turn design bound state ≡ state
turn-empty design bound state e = ap (λ (ws : List Task). after_events design state (turn_of design bound state (slice_get ws (length ws - 1)))) e

-- turns past the last open task change nothing
pub turns-still : (design : Design) (bound : Parts → ℕ) (k n : ℕ) (state : State) → k ≤ n → (turns design bound k state).waiting ≡ [] → turns design bound n state ≡ turns design bound k state
turns-still design bound k zero state h e = ap (λ i. turns design bound i state) (let z : 0 ≡ k = omega arith in z)
turns-still design bound k (suc n) state h e =
    elim (cases_lt n k) [
      | inl same ↦ ap (λ i. turns design bound i state) (let z : suc n ≡ k = omega arith in z)
      | inr less ↦ ap (turn design bound) (turns-still design bound k n state less e) ∙ turn-empty design bound (turns design bound k state) e
    ]

-- turns past the last open task have no events
pub accepted-still : (design : Design) (bound : Parts → ℕ) (k n : ℕ) (state : State) → k ≤ n → (turns design bound k state).waiting ≡ [] → TurnsAreAccepted design bound k state → TurnsAreAccepted design bound n state
accepted-still design bound k zero state h e a = subst (λ i. TurnsAreAccepted design bound i state) (let z : k ≡ 0 = omega (arith, h) in z) a
accepted-still design bound k (suc n) state h e a =
    elim (cases_lt n k) [
      | inl same ↦ subst (λ i. TurnsAreAccepted design bound i state) (let z : k ≡ suc n = omega (arith, same, h) in z) a
      | inr less ↦ (
        accepted-still design bound k n state less e a,
        subst (λ (s : State). AreAccepted design s (turn_events design bound s)) (sym (turns-still design bound k n state less e)) (none-accepted (turns design bound k state) e),
      )
    ]
  where
    none-accepted : (s : State) → s.waiting ≡ [] → AreAccepted design s (turn_events design bound s)
    none-accepted s empty = subst (AreAccepted design s) (sym (ap (λ (ws : List Task). turn_of design bound s (slice_get ws (length ws - 1))) empty)) tt

-- a list of no tasks is empty
pub no-task : (ws : List Task) → length ws ≡ 0 → ws ≡ []
no-task [] e = refl
no-task (t ∷ ws) e = absurd (omega (arith, e))

-- with a budget of the full count no task stays open
pub all-decided : (design : Design) (bound : Parts → ℕ) (state : State) (nodes : ℕ) → IsCoreState design bound state → AllBranchFirst design state.entries → (0 < length state.waiting → length state.entries ≡ nodes) → full design ≤ nodes → state.waiting ≡ []
all-decided design bound state nodes core first spent h =
    let few = entries-few design bound state core first in
    let tasks = state.waiting ++ held_tasks state in
    no-task state.waiting (elim (cases_lt 0 (length state.waiting)) [
      | inl some ↦ absurd (omega (arith, few, spent some, h, length-map {B = Parts} tasks (λ (task : Task). task.node), length-append state.waiting (held_tasks state)))
      | inr none ↦ omega arith
    ])

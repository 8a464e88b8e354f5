-- What a core state tells of a design's floorplans.
use Rattle.std.proofs.Common.{◌≡◌, ℕ, suc, ◌+◌, ◌<◌, ◌≤◌, max, List, [], ◌∷◌, ◌++◌, length, map, replicate, get_or, All, arith, refl, ap, sym, subst, ◌∙◌, inl, inr, ◌⊎◌, None, Result, Ok, Err, IsPermutation}
use Rattle.sf_search_core.proofs.Common.{zero, AllByRecursion, flat_map, filter_map, IsTrue, map-append, recursion_from_All, All-nil, All-from_recursion, Design, Task, Parts, Belongs, root, is_solved, after, step_of, next_tokens, IsSubproblem, Entry, Event, Refusal, State, IsDecided, branched, children, IsCoreState, held_tasks, undecided, applied, CanCome, IsPermutation-sym, IsPermutation-refl, MAX, extended-subproblems, split-subproblems, root-subproblem, root-belongs, subproblem-spans, Kind, least}
use Rattle.sf_model.specs.Tree.{Tree}
use Rattle.sf_model.specs.Legal.{Fits}
use Rattle.sf_model.specs.Cost.{cost, IsFloor}
use Rattle.sf_model.proofs.Each.{Some, Some-left, Some-right, Any-from_recursion}
use Rattle.sf_polish.specs.Skewing.{skewed_plan}
use Rattle.sf_polish.proofs.Skewed.{IsSkewed-skewed_plan, IsSamePlace-skewed_plan}
use Rattle.sf_polish.proofs.Same.{same-legal, same-fits, same-cost}
use Rattle.sf_polish.specs.declared.expr.Token.{Token}
use Rattle.sf_node.specs.declared.step.Step.{Step}
use Rattle.sf_node.specs.declared.step.Step.TheVariants.{Beside, Above, Block, Left, Right}
use Rattle.sf_node.specs.Bounds.{IsSound, IsExactAtEnd, IsReached}
use Rattle.sf_node.proofs.Cover.{extended-some}
use Rattle.sf_node.proofs.Halves.{split-some}
use Rattle.sf_search_core.specs.declared.entry.Kind.TheVariants as kind
use Rattle.sf_search_core.specs.Outcome.{opening, next_of, after_event, after_events, CanAllCome, IsPlanCost, floor_of, IsOutcome}
use Rattle.sf_search_core.proofs.Kept.{Any-permutation}
use Rattle.sf_search_core.proofs.Applied.{applied-kept}
use Rattle.sf_search_core.proofs.Least.{least-first}

-- an element at a place that has P is some element, by recursion
some-from_any : {X : Type 0} (P : X → Type 0) (xs : List X) (i : ℕ) (x : X) → i < length xs → x ≡ get_or xs i x → P x → Some P xs
some-from_any P [] i x h e p = absurd (omega arith)
some-from_any P (y ∷ xs) zero x h e p = inl (subst P e p)
some-from_any P (y ∷ xs) (suc i) x h e p = inr (some-from_any P xs i x (omega arith) e p)

-- some element that has P is there in any order, by recursion
Some-permutation : {X : Type 0} (P : X → Type 0) (xs ys : List X) → IsPermutation xs ys → Some P xs → Some P ys
Some-permutation P xs ys p s =
    let a = Any-permutation P xs ys p (Any-from_recursion P xs s) in
    some-from_any P ys a.0 a.1 a.2 (sym a.3) a.4

-- n is one of these subproblems
abbrev In : Parts → List Parts → Type 0
In n ns = Some (λ m. m ≡ n) ns

-- some element of two lists together is one of the first or of the second
Some-split : {X : Type 0} (P : X → Type 0) (xs ys : List X) → Some P (xs ++ ys) → Some P xs ⊎ Some P ys
Some-split P [] ys s = inr s
Some-split P (x ∷ xs) ys s = elim s [ inl h ↦ inl (inl h) | inr h ↦ elim (Some-split P xs ys h) [ inl k ↦ inl (inr k) | inr k ↦ inr k ] ]

-- what holds of each holds of one that is there
each-at : {X : Type 0} (P : X → Type 0) (n : X) (ns : List X) → AllByRecursion P ns → Some (λ m. m ≡ n) ns → P n
each-at P n [] a s = absurd s
each-at P n (m ∷ ns) a s = elim s [ inl e ↦ subst P e a.0 | inr h ↦ each-at P n ns a.1 h ]

-- some element and its place
some-in : (P : Parts → Type 0) (ns : List Parts) → Some P ns → (n : Parts) × (P n × In n ns)
some-in P [] s = absurd s
some-in P (m ∷ ns) s = elim s [ inl p ↦ (m, (p, inl refl)) | inr h ↦ (let r = some-in P ns h in (r.0, (r.1.0, inr r.1.1))) ]

-- how many steps lead to a subproblem
abbrev size : Parts → ℕ
size node = length node.steps

-- one more step makes the path longer by one
pushed : (ss : List Step) (s : Step) → length (ss ++ s ∷ []) ≡ length ss + 1
pushed [] s = refl
pushed (x ∷ ss) s = omega (arith, pushed ss s)

-- a child is one step further
size-after : (node : Parts) (s : Step) → size (after node s) ≡ size node + 1
size-after node Beside = pushed node.steps Beside
size-after node Above = pushed node.steps Above
size-after node (Block b) = pushed node.steps (Block b)
size-after node (Left b) = pushed node.steps (Left b)
size-after node (Right b) = pushed node.steps (Right b)

-- the children by tokens are one step further
each-size : (node : Parts) (ts : List Token) → AllByRecursion (λ m. size m ≡ size node + 1) (map (λ t. after node (step_of t)) ts)
each-size node [] = tt
each-size node (t ∷ ts) = (size-after node (step_of t), each-size node ts)

-- children have one step more
branched-size : (k : Kind) (node : Parts) → AllByRecursion (λ m. size m ≡ size node + 1) (branched k node)
branched-size kind.Extended node = each-size node (next_tokens node)
branched-size (kind.Split b) node = (size-after node (Left b), (size-after node (Right b), tt))
branched-size kind.Closed node = tt

-- the children of a decided subproblem of the design are such
branched-subproblems : (design : Design) (k : Kind) (node : Parts) (b v : ℕ) → IsDecided k node b v → IsSubproblem design node → AllByRecursion (IsSubproblem design) (branched k node)
branched-subproblems design kind.Extended node b v d sub = extended-subproblems design node sub
branched-subproblems design (kind.Split i) node b v d sub = split-subproblems design node i sub d.1
branched-subproblems design kind.Closed node b v d sub = tt

-- the subproblems of entries
abbrev nodes_of : List Entry → List Parts
nodes_of es = map (λ entry. entry.node) es

module _ (design : Design) (bound : Parts → ℕ) (all : List Parts) (n : Parts) (d : ℕ) (h : size n < suc d) (shorter : (m : Parts) → size m < d → In m all → IsSubproblem design m) where
  -- a child of entries is a subproblem where shorter nodes are
  from_children : (es : List Entry) → AllByRecursion (λ entry. IsDecided entry.kind entry.node (bound entry.node) entry.value) es → ((m : Parts) → In m (nodes_of es) → In m all) → In n (flat_map children es) → IsSubproblem design n
  from_children [] decided inside i = absurd i
  from_children (e ∷ es) decided inside i =
      elim (Some-split (λ m. m ≡ n) (children e) (flat_map children es) i) [
        | inl here ↦
            (let longer : size n ≡ size e.node + 1 = each-at (λ m. size m ≡ size e.node + 1) n (children e) (branched-size e.kind e.node) here in
            let sub = shorter e.node (omega (arith, longer, h)) (inside e.node (inl refl)) in
            each-at (IsSubproblem design) n (children e) (branched-subproblems design e.kind e.node (bound e.node) e.value decided.0 sub) here)
        | inr later ↦ from_children es decided.1 (λ m j. inside m (inr j)) later
      ]

-- an entry whose node this is
record IsEntryOf (design : Design) (bound : Parts → ℕ) (word : ℕ) (n : Parts) (made : List Parts) (most : ℕ) : Type 0 where
  way : Kind
  value : ℕ
  decided : IsDecided way n (bound n) value
  fresh : word ≤ value
  within : (m : Parts) → In m (branched way n) → In m made
  shallow : size n ≤ most

-- the most steps of a node
abbrev most_steps : List Entry → ℕ
most_steps [] = 0
most_steps (e ∷ es) = max (size e.node) (most_steps es)

module _ (design : Design) (bound : Parts → ℕ) (word : ℕ) (n : Parts) where
  -- a subproblem of the entries has an entry
  entry_of : (es : List Entry) → AllByRecursion (λ entry. IsDecided entry.kind entry.node (bound entry.node) entry.value) es → AllByRecursion (λ entry. word ≤ entry.value) es → In n (nodes_of es) → IsEntryOf design bound word n (flat_map children es) (most_steps es)
  entry_of [] decided fresh i = absurd i
  entry_of (e ∷ es) decided fresh i =
      elim i [
        | inl here ↦ record {
          way = e.kind;
          value = e.value;
          decided = subst (λ m. IsDecided e.kind m (bound m) e.value) here decided.0;
          fresh = fresh.0;
          within = λ m s. Some-left (λ k. k ≡ m) (children e) (flat_map children es) (subst (λ k. In m (branched e.kind k)) (sym here) s);
          shallow = omega (arith, ap size here);
        }
        | inr later ↦ (let r = entry_of es decided.1 fresh.1 later in record {
          way = r.way;
          value = r.value;
          decided = r.decided;
          fresh = r.fresh;
          within = λ m s. Some-right (λ k. k ≡ m) (children e) (flat_map children es) (r.within m s);
          shallow = omega (arith, r.shallow);
        })
      ]

  -- the floor is at most the bound of a task
  floor-task : (ts : List Task) → AllByRecursion (λ task. IsSubproblem design task.node × (task.bound ≡ bound task.node)) ts → In n (map (λ task. task.node) ts) → least word (map (λ task. task.bound) ts) ≤ bound n
  floor-task [] valued i = absurd i
  floor-task (t ∷ ts) valued i =
      elim i [
        | inl here ↦ omega (arith, valued.0.1, ap bound here)
        | inr later ↦ omega (arith, floor-task ts valued.1 later)
      ]

module _ (design : Design) (bound : Parts → ℕ) (state : State) (core : IsCoreState design bound state) where
  -- all subproblems, decided or not
  abbrev all : List Parts
  all = nodes_of state.entries ++ undecided state

  -- all subproblems that were given or made
  abbrev given : List Parts
  given = root design ∷ flat_map children state.entries

  -- each entry agrees with its bound and value
  decided-each : AllByRecursion (λ entry. IsDecided entry.kind entry.node (bound entry.node) entry.value) state.entries
  decided-each = recursion_from_All _ state.entries core.conserved.decided

  -- each task has the bound of its subproblem
  valued-each : AllByRecursion (λ task. IsSubproblem design task.node × (task.bound ≡ bound task.node)) (state.waiting ++ held_tasks state)
  valued-each = recursion_from_All _ (state.waiting ++ held_tasks state) core.valued

  -- each node of a core state is a subproblem of the design
  subproblem-in : (d : ℕ) (n : Parts) → size n < d → In n all → IsSubproblem design n
  subproblem-in zero n h i = absurd (omega arith)
  subproblem-in (suc d) n h i =
      elim (Some-permutation (λ m. m ≡ n) all given (IsPermutation-sym given all core.conserved.same) i) [
        | inl here ↦ subst (IsSubproblem design) here (root-subproblem design)
        | inr later ↦ from_children design bound all n d h (subproblem-in d) state.entries decided-each (λ m j. Some-left (λ k. k ≡ m) (nodes_of state.entries) (undecided state) j) later
      ]

  -- each subproblem of a core state is one of the design
  pub node-subproblem : (n : Parts) → In n all → IsSubproblem design n
  node-subproblem n i = subproblem-in (suc (size n)) n (omega arith) i

  module _ (sound : IsSound design bound) (tree : Tree) (fits : Fits design.outline tree) where
    -- a plan of a decided subproblem belongs to a child, or its bound is no less than the value
    child-belongs : (way : Kind) (n : Parts) (value : ℕ) → IsDecided way n (bound n) value → IsSubproblem design n → Belongs design n tree → (value ≤ bound n) ⊎ Some (λ m. Belongs design m tree) (branched way n)
    child-belongs kind.Extended n value decided sub belongs = inr (extended-some design n tree (subproblem-spans design n sub) decided.1 belongs)
    child-belongs (kind.Split b) n value decided sub belongs = inr (split-some design n b tree (subproblem-spans design n sub) decided.1 belongs)
    child-belongs kind.Closed n value decided sub belongs = inl decided

    module _ (n : Parts) (i : In n all) (belongs : Belongs design n tree) (deeper : (m : Parts) → size n ≤ most_steps state.entries → size m ≡ size n + 1 → In m all → Belongs design m tree → floor_of state ≤ cost design tree) where
      -- a plan of a subproblem costs no less than the floor, if those of its children do
      covered-here : floor_of state ≤ cost design tree
      covered-here =
          let sub = node-subproblem n i in
          let below : bound n ≤ cost design tree = sound n sub tree belongs fits in
          let tasks = state.waiting ++ held_tasks state in
          elim (Some-split (λ m. m ≡ n) (nodes_of state.entries) (undecided state) i) [
            | inr task ↦ omega (arith, floor-task design bound state.word n tasks valued-each task, below)
            | inl entry ↦
                (let e = entry_of design bound state.word n state.entries decided-each (recursion_from_All (λ entry. state.word ≤ entry.value) state.entries core.not_stale) entry in
                elim (child-belongs e.way n e.value e.decided sub belongs) [
                  | inl closed ↦ omega (arith, e.fresh, closed, below, least-first state.word (map (λ task. task.bound) tasks))
                  | inr some ↦
                      (let child = some-in (λ m. Belongs design m tree) (branched e.way n) some in
                      let m = child.0 in
                      deeper m e.shallow (each-at (λ k. size k ≡ size n + 1) m (branched e.way n) (branched-size e.way n) child.1.1)
                      (Some-permutation (λ k. k ≡ m) given all core.conserved.same (inr (e.within m child.1.1))) child.1.0)
                ])
          ]

    -- a plan of a node costs no less than the floor: go down to a child while the node branches
    covered : (fuel : ℕ) (n : Parts) → most_steps state.entries < fuel + size n → In n all → Belongs design n tree → floor_of state ≤ cost design tree
    covered zero n h i belongs = covered-here n i belongs (λ m shallow e j b. absurd (omega (arith, shallow, h)))
    covered (suc fuel) n h i belongs = covered-here n i belongs (λ m shallow e j b. covered fuel m (omega (arith, e, h)) j b)

  -- the root is one of the subproblems
  root-in : In (root design) all
  root-in = Some-permutation (λ k. k ≡ root design) given all core.conserved.same (inl refl)

  -- no floorplan costs less than the floor of a core state
  pub core-floor : IsSound design bound → IsFloor design (floor_of state)
  core-floor sound tree legal fits =
      let same = IsSamePlace-skewed_plan tree in
      let other = skewed_plan tree in
      let belongs : Belongs design (root design) other = root-belongs design other (IsSkewed-skewed_plan tree) (same-legal design other tree same.order legal) in
      omega (arith, covered sound other (same-fits design other tree same fits) (suc (most_steps state.entries)) (root design) (omega arith) root-in belongs, same-cost design other tree same)

  -- a least cost that is reached is that of a floorplan
  reached-cost : (node : Parts) (z : ℕ) → IsReached design node z → IsPlanCost design z
  reached-cost node z r = record { tree = r.tree; legal = r.belongs.legal; fits = r.fits; costs = r.costs }

  -- the bound of a solved subproblem is the cost of a floorplan, or none
  solved-cost : (exact : IsExactAtEnd design bound) (n : Parts) → IsTrue (is_solved design n) → bound n ≡ state.word → In n all → (state.word ≡ MAX) ⊎ IsPlanCost design state.word
  solved-cost exact n solved e i =
      let least = exact n (node-subproblem n i) solved in
      elim least.reached [
        | inl none ↦ inl (sym e ∙ none)
        | inr some ↦ inr (subst (IsPlanCost design) e (reached-cost n (bound n) some))
      ]

  -- the word of a core state is none or the cost of a floorplan
  pub core-found : IsExactAtEnd design bound → (state.word ≡ MAX) ⊎ IsPlanCost design state.word
  core-found exact =
      let P : Parts → Type 0 = λ node. IsTrue (is_solved design node) × (bound node ≡ state.word) in
      let held = map (λ (task : Task). task.node) (held_tasks state) in
      elim core.found [
        | inl none ↦ inl none
        | inr some ↦
            (let r = some-in P (nodes_of state.entries ++ held) (some-from_any P (nodes_of state.entries ++ held) some.0 some.1 some.2 (sym some.3) some.4) in
            solved-cost exact r.0 r.1.0.0 r.1.0.1
            (elim (Some-split (λ m. m ≡ r.0) (nodes_of state.entries) held r.1.1) [
              | inl j ↦ Some-left (λ m. m ≡ r.0) (nodes_of state.entries) (undecided state) j
              | inr j ↦ Some-right (λ m. m ≡ r.0) (nodes_of state.entries) (undecided state)
                  (subst (In r.0) (sym (map-append (λ (task : Task). task.node) state.waiting (held_tasks state))) (Some-right (λ m. m ≡ r.0) (map (λ (task : Task). task.node) state.waiting) held j))
            ]))
      ]

-- an event keeps a core state, accepted or refused
next-kept : (design : Design) (bound : Parts → ℕ) (state : State) (event : Event) (r : Result State Refusal) → applied design state event ≡ r → IsCoreState design bound state → CanCome bound state event → IsCoreState design bound (next_of state r)
next-kept design bound state event (Ok next) e core can = applied-kept design bound state next event core can e
next-kept design bound state event (Err why) e core can = core

-- all events keep a core state
pub after_events-kept : (design : Design) (bound : Parts → ℕ) (state : State) (events : List Event) → IsCoreState design bound state → CanAllCome design bound state events → IsCoreState design bound (after_events design state events)
after_events-kept design bound state [] core can = core
after_events-kept design bound state (event ∷ events) core can =
    after_events-kept design bound (after_event design state event) events (next-kept design bound state event (applied design state event) refl core can.0) can.1

-- idle workers hold no task
none_held : (n : ℕ) → ◌≡◌ {A = List Task} (filter_map (λ h. h) (replicate n None)) []
none_held zero = refl
none_held (suc n) = none_held n

-- the machine begins in a core state
pub opening-core : (design : Design) (bound : Parts → ℕ) (workers : ℕ) → IsCoreState design bound (opening design bound workers)
opening-core design bound workers =
    let V : Task → Type 0 = λ task. IsSubproblem design task.node × (task.bound ≡ bound task.node) in
    let task : Task = record { node = root design; bound = bound (root design) } in
    record {
      conserved = record {
        same = subst (λ ts. IsPermutation (root design ∷ []) (map (λ task. task.node) (task ∷ ts))) (sym (none_held workers)) (IsPermutation-refl (root design ∷ []));
        decided = All-nil _;
      };
      not_stale = All-nil _;
      found = inl refl;
      valued = subst (λ ts. All V (task ∷ ts)) (sym (none_held workers)) (All-from_recursion V (task ∷ []) ((root-subproblem design, refl), tt));
    }

-- whatever events came, the word is none or a plan's cost, and the floor is below all
pub events-outcome : (design : Design) (bound : Parts → ℕ) (workers : ℕ) (events : List Event) → IsSound design bound → IsExactAtEnd design bound → CanAllCome design bound (opening design bound workers) events → IsOutcome design (after_events design (opening design bound workers) events)
events-outcome design bound workers events sound exact can =
    let core = after_events-kept design bound (opening design bound workers) events (opening-core design bound workers) can in
    let state = after_events design (opening design bound workers) events in
    record { found = core-found design bound state core exact; floor = core-floor design bound state core sound }

-- whatever events came, the state is a core state
pub events-core : (design : Design) (bound : Parts → ℕ) (workers : ℕ) (events : List Event) → CanAllCome design bound (opening design bound workers) events → IsCoreState design bound (after_events design (opening design bound workers) events)
events-core design bound workers events can = after_events-kept design bound (opening design bound workers) events (opening-core design bound workers) can

-- What a search hands over, from the state of the machine beside it.
use Rattle.std.proofs.Common.{◌≡◌, ℕ, ◌<◌, ◌≤◌, List, [], ◌++◌, map, length, All, arith, refl, ap, sym, subst, ◌∙◌, Option, Some, None, Bool, true, false}
use Rattle.sf_search.proofs.Common.{MatchOption, length-map, length-reverse, recursion_from_All, All-from_recursion, Design, MAX, block_count, each-left, each-weaker, Expr, IsWritable, Task, Part, Full, Parts, IsSubproblem, Entry, State, held_tasks, Tag, tag_of, unnamed, HasCost, least, decided, opens, IsMerged, task-bounds, entries-few, IsFirst, task_at, WalkView, IsBeside, waiting, full, left_of, IsBest}
use Rattle.sf_search.proofs.Settled.{all-decided}
use Rattle.sf_search.proofs.Certified.{certified, lowest-is}

-- a best plan costs the word and can be written, and where there is none the word is none
pub planned : (design : Design) (word : ℕ) (best : Option Expr) → IsBest design word best → MatchOption best (word ≡ MAX) (λ expr. HasCost design expr word × IsWritable (block_count design) expr)
planned design word None b = b
planned design word (Some expr) b = b

-- where something is not visited yet, something is next
some-left : (design : Design) (floor : ℕ) (more : Bool) (node : Parts) → 0 < length (waiting design floor more node) → more ≡ true
some-left design floor true node h = refl
some-left design floor false node h = absurd (omega arith)

-- where a bound lies below the word, something is next
more-below : (design : Design) (bound : Parts → ℕ) (floor : ℕ) (more : Bool) (node : Parts) (word : ℕ) → least word (map bound (waiting design floor more node)) < word → more ≡ true
more-below design bound floor true node word h = refl
more-below design bound floor false node word h = let same : word < word = h in absurd (omega arith)

module _ (design : Design) (bound : Parts → ℕ) (state : State) (walk : WalkView) (b : IsBeside design bound state walk) where
  -- the open tasks have their bounds
  pub valued : All (λ (t : Task). t.bound ≡ bound t.node) state.waiting
  valued =
      let P : Task → Type 0 = λ t. IsSubproblem design t.node × (t.bound ≡ bound t.node) in
      let Q : Task → Type 0 = λ t. t.bound ≡ bound t.node in
      All-from_recursion Q state.waiting (each-weaker P Q (λ t h. h.1) state.waiting (each-left P state.waiting (held_tasks state) (recursion_from_All P (state.waiting ++ held_tasks state) b.core.valued)))

  -- there are as many tags as entries
  pub counted : length walk.hand.tags ≡ length state.entries
  counted = sym (length-map walk.hand.tags unnamed) ∙ ap length b.stage.kinds ∙ length-map state.entries (λ (e : Entry). tag_of e.kind)

  -- there are as many open tasks as subproblems left to visit
  many-left : length state.waiting ≡ length (left_of design walk.hand)
  many-left = ap length b.stage.waiting ∙ length-reverse (map (task_at bound) (left_of design walk.hand)) ∙ length-map (left_of design walk.hand) (task_at bound)

  -- there are at most as many tags as the full count
  pub few : length walk.hand.tags ≤ full design
  few = omega (arith, counted, entries-few design bound state b.core b.splits)

  -- with a budget of the full count nothing stays open
  pub all-visited : (nodes : ℕ) → (walk.hand.more ≡ true → length walk.hand.tags ≡ nodes) → full design ≤ nodes → state.waiting ≡ []
  all-visited nodes spent h = all-decided design bound state nodes b.core b.splits (λ some. omega (arith, counted, spent (some-left design walk.hand.floor walk.hand.more walk.hand.path.node (omega (arith, many-left, some))))) h

  module _ (part : Parts → Part → ℕ) (whole : (node : Parts) → part node Full ≡ bound node) (cost low : ℕ) (tags : List Tag) (plan : Option Expr) (c : cost ≡ walk.word) (l : low ≡ least walk.word (map bound (left_of design walk.hand))) (t : tags ≡ map unnamed walk.hand.tags ++ opens (left_of design walk.hand)) (p : plan ≡ walk.best) where
    -- the machine's word is the cost
    same-word : state.word ≡ cost
    same-word = b.word ∙ sym c

    -- the entries and the open tasks are merged into the certificate's tags
    pub merged-as : IsMerged design bound part cost state.entries state.waiting tags
    merged-as =
        subst (λ ts. IsMerged design bound part cost state.entries state.waiting ts) (sym t)
        (subst (λ n. IsMerged design bound part n state.entries state.waiting (map unnamed walk.hand.tags ++ opens (left_of design walk.hand))) same-word
        (certified design bound state (map unnamed walk.hand.tags) (left_of design walk.hand) b.stage b.core part whole))

    -- the plan costs the cost and can be written, or there is none and the cost is none
    pub planned-as : MatchOption plan (cost ≡ MAX) (λ expr. HasCost design expr cost × IsWritable (block_count design) expr)
    planned-as = planned design cost plan (subst (λ n. IsBest design n plan) (sym c) (subst (IsBest design walk.word) (sym p) b.best))

    -- the lower bound is the least of the cost and the open tasks' bounds
    pub stated-as : low ≡ least cost (map (λ (t : Task). t.bound) state.waiting)
    stated-as =
        l ∙ lowest-is design bound state (map unnamed walk.hand.tags) (left_of design walk.hand) b.stage b.core walk.word
        ∙ ap (λ ns. least walk.word ns) (sym (task-bounds bound state.waiting valued)) ∙ ap (λ n. least n (map (λ (t : Task). t.bound) state.waiting)) (sym c)

    -- the lower bound is the least of the machine's word and the open tasks' bounds
    pub stated-by-word : low ≡ least state.word (map (λ (t : Task). t.bound) state.waiting)
    stated-by-word = stated-as ∙ ap (λ n. least n (map (λ (t : Task). t.bound) state.waiting)) (sym same-word)

    -- the plan is the first one of its cost
    pub first-as : IsFirst design state plan
    first-as = subst (IsFirst design state) (sym p) b.first

    -- the certificate's tags decide as many subproblems as were visited
    pub decided-as : decided tags ≡ length walk.hand.tags
    decided-as = merged-as.count ∙ sym counted

    -- where the bound lies below the cost the budget is spent
    pub spent-as : (nodes : ℕ) → (walk.hand.more ≡ true → length walk.hand.tags ≡ nodes) → low < cost → length walk.hand.tags ≡ nodes
    spent-as nodes spent h = spent (more-below design bound walk.hand.floor walk.hand.more walk.hand.path.node walk.word (subst (λ n. n < walk.word) l (subst (λ m. low < m) c h)))

    -- with a budget of the full count the lower bound is the cost
    pub ended-as : (nodes : ℕ) → (walk.hand.more ≡ true → length walk.hand.tags ≡ nodes) → full design ≤ nodes → low ≡ cost
    ended-as nodes spent h = stated-as ∙ ap (λ (ts : List Task). least cost (map (λ t. t.bound) ts)) (all-visited nodes spent h)

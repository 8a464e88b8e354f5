-- The certificate of a search beside the machine: its tags, and all that is not visited yet is open.
use Rattle.std.proofs.Common.{◌≡◌, ℕ, suc, List, [], ◌∷◌, ◌++◌, map, reverse, length, arith, refl, ap, sym, subst, ◌∙◌, append-nil, IsPermutation}
use Rattle.sf_search.proofs.Common.{AllByRecursion, length-map, reverse-reverse, IsPermutation-reverse, Design, Task, Part, Full, Parts, root, Entry, Kind, State, IsCoreState, Mark, Tag, Extend, Split, Open, made, marks, tag_of, given_marks, waiting_after, IsFair, AreTrees, left_open, least, decided, opens, marks-then, open-all, least-same, IsMerged, all-fair, task_at, mark_of, IsStage, turned}
use Rattle.sf_search_core.specs.declared.entry.Kind.TheVariants as kind
use Rattle.sf_certificate.proofs.Totals.{total, total-permutation}
use Rattle.sf_certificate.proofs.Growth.{trees-step}

-- fair tags are trees as far as they go
trees-then : (part : Parts → Part → ℕ) (cost : ℕ) (nodes : List Parts) (tags more : List Tag) → length (marks nodes tags) ≡ length tags → AllByRecursion (λ m. IsFair part cost m.tag m.node) (marks nodes tags) → AreTrees part cost (waiting_after nodes tags) more → AreTrees part cost nodes (tags ++ more)
trees-then part cost nodes [] more e fair trees = trees
trees-then part cost [] (tag ∷ tags) more e fair trees = absurd (omega (arith, e))
trees-then part cost (node ∷ nodes) (tag ∷ tags) more e fair trees =
    trees-step part cost tag node nodes (tags ++ more) fair.0 (trees-then part cost (made tag node ++ nodes) tags more (omega (arith, e)) fair.1 trees)

-- open tags, one for each subproblem, are those of trees from them
trees-open : (part : Parts → Part → ℕ) (cost : ℕ) (nodes : List Parts) → AreTrees part cost nodes (opens nodes)
trees-open part cost [] = tt
trees-open part cost (node ∷ nodes) = trees-open part cost nodes

-- subproblems marked as open are the open tasks' marks
marks-open : (bound : Parts → ℕ) (nodes : List Parts) → marks nodes (opens nodes) ≡ map (λ task. record { node = task.node; tag = Open }) (map (task_at bound) nodes)
marks-open bound [] = refl
marks-open bound (node ∷ nodes) = ap (λ ms. record { node = node; tag = Open } ∷ ms) (marks-open bound nodes)

-- a decided subproblem leaves open what its children and those behind it leave open
open-one : (k : Kind) (node : Parts) (nodes : List Parts) (tags more : List Tag) → ((ns : List Parts) → left_open ns (tags ++ more) ≡ left_open (waiting_after ns tags) more) → left_open (node ∷ nodes) (tag_of k ∷ (tags ++ more)) ≡ left_open (waiting_after (made (tag_of k) node ++ nodes) tags) more
open-one kind.Extended node nodes tags more then = then (made Extend node ++ nodes)
open-one (kind.Split b) node nodes tags more then = then (made (Split b) node ++ nodes)
open-one kind.Closed node nodes tags more then = then nodes

-- what the tags of the entries and further ones leave open is what these leave open of the subproblems that
-- wait
open-then : (entries : List Entry) (nodes : List Parts) (more : List Tag) → left_open nodes (map (λ (e : Entry). tag_of e.kind) entries ++ more) ≡ left_open (waiting_after nodes (map (λ e. tag_of e.kind) entries)) more
open-then [] nodes more = refl
open-then (e ∷ entries) [] more = refl
open-then (e ∷ entries) (node ∷ nodes) more = open-one e.kind node nodes (map (λ (e : Entry). tag_of e.kind) entries) more (λ ns. open-then entries ns more)

-- open tags decide nothing
decided-open : (nodes : List Parts) → decided (opens nodes) ≡ 0
decided-open [] = refl
decided-open (node ∷ nodes) = decided-open nodes

-- the tag of an entry decides one subproblem more
decided-one : (k : Kind) (tags : List Tag) (n : ℕ) → decided tags ≡ n → decided (tag_of k ∷ tags) ≡ suc n
decided-one kind.Extended tags n e = ap suc e
decided-one (kind.Split b) tags n e = ap suc e
decided-one kind.Closed tags n e = ap suc e

-- the tags of the entries, with open ones behind them, decide as many subproblems as there are entries
decided-all : (entries : List Entry) (nodes : List Parts) → decided (map (λ (e : Entry). tag_of e.kind) entries ++ opens nodes) ≡ length entries
decided-all [] nodes = decided-open nodes
decided-all (e ∷ entries) nodes = decided-one e.kind (map (λ (e : Entry). tag_of e.kind) entries ++ opens nodes) (length entries) (decided-all entries nodes)

-- the subproblems of the tasks made of some subproblems are these
pub nodes-of : (bound : Parts → ℕ) (nodes : List Parts) → map (λ (t : Task). t.node) (map (task_at bound) nodes) ≡ nodes
nodes-of bound [] = refl
nodes-of bound (node ∷ nodes) = ap (λ ns. node ∷ ns) (nodes-of bound nodes)

-- the total over what a function gives is the total of both functions in turn
map-total : {X : Type 0} (f : Parts → ℕ) (g : X → Parts) (xs : List X) → total f (map g xs) ≡ total (λ x. f (g x)) xs
map-total f g [] = refl
map-total f g (x ∷ xs) = omega (arith, map-total f g xs)

-- the machine's open tasks are those subproblems, in another order
turned-total : (bound : Parts → ℕ) (nodes : List Parts) (f : Parts → ℕ) → total f nodes ≡ total f (map (λ (t : Task). t.node) (reverse (map (task_at bound) nodes)))
turned-total bound nodes f =
    let ts = map (task_at bound) nodes in
    let g : Task → Parts = λ t. t.node in
    let a : total f (map g ts) ≡ total (λ t. f (g t)) ts = map-total f g ts in
    let b : total f (map g (reverse ts)) ≡ total (λ t. f (g t)) (reverse ts) = map-total f g (reverse ts) in
    let c : total (λ t. f (g t)) ts ≡ total (λ t. f (g t)) (reverse ts) = total-permutation (λ t. f (g t)) ts (reverse ts) (IsPermutation-reverse ts) in
    sym (ap (total f) (nodes-of bound nodes)) ∙ a ∙ c ∙ sym b

module _ (design : Design) (bound : Parts → ℕ) (state : State) (tags : List Tag) (left : List Parts) (stage : IsStage design bound state tags left) (core : IsCoreState design bound state) where
  -- the root alone
  abbrev one : List Parts
  one = root design ∷ []

  -- the tags so far, and an open one for each subproblem that is left
  abbrev all : List Tag
  all = tags ++ opens left

  -- each tag marks a subproblem
  many : length (marks one tags) ≡ length tags
  many = sym (ap length stage.marked) ∙ length-map state.entries mark_of ∙ sym (length-map state.entries (λ (e : Entry). tag_of e.kind)) ∙ sym (ap length stage.kinds)

  -- what the tags leave open is what is left
  open-left : left_open one all ≡ left
  open-left =
      let es = map (λ (e : Entry). tag_of e.kind) state.entries in
      ap (λ ts. left_open one (ts ++ opens left)) stage.kinds ∙ open-then state.entries one (opens left)
      ∙ ap (λ ts. left_open (waiting_after one ts) (opens left)) (sym stage.kinds) ∙ ap (λ ns. left_open ns (opens left)) stage.then ∙ open-all left

  -- the least of a number and the bounds of what is left is that with the bounds of the open tasks
  pub lowest-is : (n : ℕ) → least n (map bound left) ≡ least n (map bound (map (λ (t : Task). t.node) state.waiting))
  lowest-is n =
      least-same n bound left (map (λ (t : Task). t.node) (reverse (map (task_at bound) left))) (turned-total bound left)
      ∙ ap (λ (ts : List Task). least n (map bound (map (λ (t : Task). t.node) ts))) (sym stage.waiting)

  -- the marks of the entries and of the open tasks are those of the tags, in another order
  placed : IsPermutation (given_marks state.entries state.waiting) (marks one all)
  placed =
      let open_marks : List Task → List Mark = λ ts. map (λ (task : Task). record { node = task.node; tag = Open }) ts in
      let ts = map (task_at bound) left in
      let back : reverse state.waiting ≡ ts = ap reverse stage.waiting ∙ reverse-reverse ts in
      let same : marks one all ≡ given_marks state.entries (reverse state.waiting) =
      marks-then one tags (opens left) ∙ ap (λ ms. ms ++ marks (waiting_after one tags) (opens left)) (sym stage.marked)
      ∙ ap (λ ns. map mark_of state.entries ++ marks ns (opens left)) stage.then ∙ ap (λ ms. map mark_of state.entries ++ ms) (marks-open bound left)
      ∙ ap (λ us. map mark_of state.entries ++ open_marks us) (sym back) in
      subst (IsPermutation (given_marks state.entries state.waiting)) (sym same) (turned state.entries state.waiting)

  -- whatever the parts of the bound: each closed subproblem names the full one
  module _ (part : Parts → Part → ℕ) (full : (node : Parts) → part node Full ≡ bound node) where
    -- each tag so far is fair to its subproblem
    fair : AllByRecursion (λ m. IsFair part state.word m.tag m.node) (marks one tags)
    fair =
        subst (AllByRecursion (λ m. IsFair part state.word m.tag m.node)) (append-nil (map mark_of state.entries) ∙ stage.marked)
        (all-fair bound part full state.word state.entries [] core.conserved.decided core.not_stale)

    -- the tags are those of a tree from the root
    tree : AreTrees part state.word one all
    tree = trees-then part state.word one tags (opens left) many fair (subst (λ ns. AreTrees part state.word ns (opens left)) (sym stage.then) (trees-open part state.word left))

    -- the entries and the open tasks are merged into these tags
    pub certified : IsMerged design bound part state.word state.entries state.waiting (tags ++ opens left)
    certified = record {
      tree = tree;
      lowest = ap (λ ns. least state.word (map bound ns)) open-left ∙ lowest-is state.word;
      placed = placed;
      count = ap (λ ts. decided (ts ++ opens left)) stage.kinds ∙ decided-all state.entries left;
    }

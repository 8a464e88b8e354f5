-- The certificate of a search with one worker: as that without names, and each closed subproblem names the first part that is at least the cost.
use Rattle.std.proofs.Common.{◌≡◌, ℕ, List, [], ◌∷◌, ◌++◌, map, length, refl, ap, sym, subst, ◌∙◌, Option}
use Rattle.sf_search.proofs.Common.{MatchOption, IsTrue, AllByRecursion, map-append, recursion_from_All, All-from_recursion, Design, MAX, block_count, Expr, Part, PartValues, Parts, ArePartsOf, root, State, Mark, Tag, Extend, Split, Closed, Open, IsFormed, made, marks, waiting_after, AllNameFirst, unnamed, AreTrees, HasCost, left_open, least, decided, opens, marks-then, merged-formed, task-bounds, plan-cost, IsMerged, first-close, unnamed-open, unnamed-decided, unnamed-tree, unnamed-waiting, SplitsFirst, AllSplitFirst, AreKept, renamed, renamed-alike, kept-open, name-first, WalkView, IsBeside, open_mark, IsLeftOpen, left_of, marks_of}
use Rattle.sf_node.proofs.Depth.{subproblem-shallow}
use Rattle.sf_search.proofs.Ended.{valued, merged-as, planned-as, stated-as, decided-as}
use Rattle.sf_search.proofs.SplitMarks.{marks-first}

-- equal costs, tags and kept values give equal renamed tags
pub same-renamed : {y z : ℕ} {xs ys : List Tag} {ks ls : List PartValues} → y ≡ z → xs ≡ ys → ks ≡ ls → renamed y xs ks ≡ renamed z ys ls
same-renamed e f g = λ i. renamed (e i) (f i) (g i)

-- open tags name no part
opens-unnamed : (nodes : List Parts) → map unnamed (opens nodes) ≡ opens nodes
opens-unnamed [] = refl
opens-unnamed (node ∷ nodes) = ap (λ ts. Open ∷ ts) (opens-unnamed nodes)

-- open tags mark each subproblem as open
open-marks : (nodes : List Parts) → marks nodes (opens nodes) ≡ map (λ node. record { node = node; tag = Open }) nodes
open-marks [] = refl
open-marks (node ∷ nodes) = ap (λ ms. record { node = node; tag = Open } ∷ ms) (open-marks nodes)

-- names tell nothing of splits
pub splits-named : (design : Design) (nodes : List Parts) (tags : List Tag) → AllByRecursion (λ mark. SplitsFirst design mark.tag mark.node) (marks nodes (map unnamed tags)) → AllByRecursion (λ mark. SplitsFirst design mark.tag mark.node) (marks nodes tags)
splits-named design [] tags all = tt
splits-named design (node ∷ nodes) [] all = tt
splits-named design (node ∷ nodes) (Extend ∷ tags) all = (all.0, splits-named design (made Extend node ++ nodes) tags all.1)
splits-named design (node ∷ nodes) (Split b ∷ tags) all = (all.0, splits-named design (made (Split b) node ++ nodes) tags all.1)
splits-named design (node ∷ nodes) (Closed p ∷ tags) all = (tt, splits-named design nodes tags all.1)
splits-named design (node ∷ nodes) (Open ∷ tags) all = (tt, splits-named design nodes tags all.1)

-- the tags of open subproblems
tags-of-opens : (nodes : List Parts) → map (λ (m : Mark). m.tag) (map open_mark nodes) ≡ opens nodes
tags-of-opens [] = refl
tags-of-opens (node ∷ nodes) = ap (λ ts. Open ∷ ts) (tags-of-opens nodes)

-- what was left open has open tags
pub left-open-tags : (design : Design) (bound : Parts → ℕ) (old new : WalkView) (low : ℕ) {state : State} → IsBeside design bound state old → IsLeftOpen design bound old new low → new.hand.tags ≡ old.hand.tags ++ opens (left_of design old.hand)
left-open-tags design bound old new low b o =
    let tag_of_mark : Mark → Tag = λ m. m.tag in
    let left = left_of design old.hand in
    sym o.hand.hand_is.read ∙ ap (map tag_of_mark) o.hand.marks_are ∙ map-append tag_of_mark (marks_of design old.hand) (map open_mark left)
    ∙ ap (λ ts. ts ++ map tag_of_mark (map open_mark left)) b.whole.0.read ∙ ap (λ ts. old.hand.tags ++ ts) (tags-of-opens left)

module _ (design : Design) (bound : Parts → ℕ) (part : Parts → Part → ℕ) (parts : ArePartsOf design bound part) (state : State) (walk : WalkView) (b : IsBeside design bound state walk) (cost low : ℕ) (tags : List Tag) (plan : Option Expr) (c : cost ≡ walk.word) (l : low ≡ least walk.word (map bound (left_of design walk.hand)))
    (t : tags ≡ renamed walk.word (walk.hand.tags ++ opens (left_of design walk.hand)) walk.hand.kept) (p : plan ≡ walk.best) where
  -- the root alone
  abbrev one : List Parts
  one = root design ∷ []

  -- the subproblems that are left to visit
  abbrev left : List Parts
  left = left_of design walk.hand

  -- the tags without names
  abbrev plain : List Tag
  plain = map unnamed tags

  -- without names the tags are those put down, and open ones behind them
  pub plain-is : map unnamed tags ≡ map unnamed walk.hand.tags ++ opens (left_of design walk.hand)
  plain-is =
      ap (map unnamed) t ∙ renamed-alike walk.word (walk.hand.tags ++ opens left) walk.hand.kept ∙ map-append unnamed walk.hand.tags (opens left)
      ∙ ap (λ ts. map unnamed walk.hand.tags ++ ts) (opens-unnamed left)

  -- the entries and the open tasks are merged into the tags without names
  merged : IsMerged design bound part cost state.entries state.waiting plain
  merged = merged-as design bound state walk b part parts.full cost low plain plan c l plain-is p

  -- plan, cost and tags have the form of a certificate's
  pub form-is : (n : ℕ) → n ≡ block_count design → IsFormed n plan cost tags
  form-is n e =
      let f = merged-formed design bound part cost cost n state.entries state.waiting plain plan e merged
      (planned-as design bound state walk b part parts.full cost low plain plan c l plain-is p) (subproblem-shallow design) in
      record { some_block = f.some_block; few_blocks = f.few_blocks; planned = f.planned; unplanned = f.unplanned; tree = subst IsTrue (unnamed-tree n tags) f.tree }

  -- the plan costs the cost, or there is none and the cost is none
  pub plan-is : MatchOption plan (cost ≡ MAX) (λ expr. HasCost design expr cost)
  plan-is = plan-cost design cost plan (planned-as design bound state walk b part parts.full cost low plain plan c l plain-is p)

  -- the lower bound is the least of the cost and the bounds of what the tags leave open
  pub low-is : low ≡ least cost (map bound (left_open (root design ∷ []) tags))
  low-is =
      stated-as design bound state walk b part parts.full cost low plain plan c l plain-is p
      ∙ ap (least cost) (task-bounds bound state.waiting (valued design bound state walk b)) ∙ sym merged.lowest
      ∙ ap (λ ns. least cost (map bound ns)) (unnamed-open one tags)

  -- each split is of the first block whose span is not single
  pub splits-are : AllSplitFirst design tags
  splits-are =
      let P : Mark → Type 0 = λ mark. SplitsFirst design mark.tag mark.node in
      All-from_recursion P (marks one tags) (splits-named design one tags (recursion_from_All P (marks one plain) (marks-first design state.entries state.waiting (marks one plain) b.splits merged.placed)))

  -- the tags decide as many subproblems as were visited
  pub decided-are : decided tags ≡ length walk.hand.tags
  decided-are = sym (unnamed-decided tags) ∙ decided-as design bound state walk b part parts.full cost low plain plan c l plain-is p

  module _ (k : AreKept part walk.word (marks (root design ∷ []) walk.hand.tags) walk.hand.kept) where
    -- each closed subproblem names the first part that is at least the cost
    pub names-are : AllNameFirst design part cost tags
    names-are =
        let raw = walk.hand.tags ++ opens left in
        let then : waiting_after one walk.hand.tags ≡ left = sym (unnamed-waiting one walk.hand.tags) ∙ b.stage.then in
        let same : marks one raw ≡ marks one walk.hand.tags ++ map (λ node. record { node = node; tag = Open }) left =
        marks-then one walk.hand.tags (opens left) ∙ ap (λ ns. marks one walk.hand.tags ++ marks ns (opens left)) then ∙ ap (λ ms. marks one walk.hand.tags ++ ms) (open-marks left) in
        let all : AreKept part walk.word (marks one raw) walk.hand.kept = subst (λ ms. AreKept part walk.word ms walk.hand.kept) (sym same) (kept-open part walk.word (marks one walk.hand.tags) walk.hand.kept left k) in
        subst (λ z. AllNameFirst design part z tags) (sym c)
        (subst (AllNameFirst design part walk.word) (sym t) (name-first part walk.word one raw walk.hand.kept all))

    -- the tags, with their names, are those of a tree from the root
    pub tree-is : AreTrees part cost (root design ∷ []) tags
    tree-is = first-close design part cost tags merged.tree names-are

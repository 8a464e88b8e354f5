-- The items of a subproblem and its unused blocks are subtrees of each of its plans.
use Rattle.std.proofs.Common.{◌≡◌, ℕ, suc, ◌+◌, ◌*◌, ◌<◌, ◌≤◌, List, [], ◌∷◌, ◌++◌, map, length, drop, take-append-drop, length-append, append-nil, arith, refl, ap, sym, subst, ◌∙◌, inl, inr, ◌==◌, Bool, true, false, cond, ◌||◌}
use Rattle.sf_standard.proofs.Common.{zero, Contains, count_by, filter, sum_by, nat_le, AllByRecursion, range_with_len, list_any, mul-le-mul, eqb-true, ne_eqb, and_from, le-leb, nil_from_length, sum_by-cons, sum_by-append, sum-map, recursion_from_All, Design, Shape, Outline, Fits, block_count, Tree, Leaf, Beside, Above, width, height, leaves, each-append, each-weaker, each-map, each-left, each-right, EachPair-filter, EachPair-range, Token, is_block, postfix, Parts, Belongs, is_complete, is_unused, Contains-cons_cases, Contains-head, Contains-tail, not_in_nil, shapes_in, Item, items_of, unused, plans, fits, fitting, item_of, area, least_of, has_none, greatest, needed_area, count_by-postfix, length-postfix}
use Rattle.sf_model.proofs.Counting.{length-leaves}
use Rattle.sf_polish.specs.declared.expr.Token.TheVariants as token
use Rattle.sf_standard.specs.Items as item
use Rattle.sf_standard.proofs.Grown.{grow, grow-append, grow-postfix, read-grow, IsPart, part-self, blocks_of, grown-parts, own_area, grown-area}
use Rattle.sf_standard.proofs.Listed.{each-contains, each-from, Contains-map, Contains-filter, Contains-from_filter, Contains-pairs, count-cons, sum_by-le_list, sum_by-map, sum_by-le_each}
use Rattle.sf_standard.proofs.Placed.{shape_in, has-shapes}

-- a block that the tokens have is one of theirs
count-blocks : (b : ℕ) (ts : List Token) → 1 ≤ count_by (is_block b) ts → Contains (blocks_of ts) b
count-blocks b [] h = absurd (omega arith)
count-blocks b (token.Beside ∷ ts) h = count-blocks b ts (omega (arith, h, count-cons (is_block b) token.Beside ts))
count-blocks b (token.Above ∷ ts) h = count-blocks b ts (omega (arith, h, count-cons (is_block b) token.Above ts))
count-blocks b (token.Block c ∷ ts) h = elim (c == b) as (λ t. (c == b) ≡ t → Contains (c ∷ blocks_of ts) b) [
  | true ↦ λ e. subst (Contains (c ∷ blocks_of ts)) (eqb-true c b e) (Contains-head c (blocks_of ts))
  | false ↦ λ e. (let z : ◌≡◌ {A = ℕ} (cond (c == b) 1 0) 0 = ap (λ (t : Bool). cond {A = ℕ} t 1 0) e in
      Contains-tail c (blocks_of ts) b (count-blocks b ts (omega (arith, h, z, count-cons (is_block b) (token.Block c) ts))))
] refl

-- how the tokens of a subproblem cut a plan that belongs to it
pub record IsCut (design : Design) (node : Parts) (tree : Tree) : Type 0 where
  pub shape : ℕ → Shape
  pub stack : List Tree
  pub rest : List Token
  pub items : items_of node ≡ map item_of stack
  pub parts : AllByRecursion (λ p. IsPart p tree) stack
  pub loose : AllByRecursion (λ b. IsPart (Leaf b (shape b)) tree) (blocks_of rest)
  pub size : sum_by area stack + sum_by (own_area shape) (blocks_of rest) ≤ area tree
  pub free : (b : ℕ) → b < block_count design → is_unused b node.tokens ≡ true → Contains (blocks_of rest) b
  pub whole : is_complete node ≡ true → stack ≡ tree ∷ []

-- each plan that belongs to a subproblem is cut in this way by its tokens
pub cut : (design : Design) (node : Parts) (tree : Tree) → length node.spans ≡ block_count design → Belongs design node tree → IsCut design node tree
cut design node tree spans belongs =
    let f = shape_in design tree belongs.legal in
    let rest = drop (length node.tokens) (postfix tree) in
    let begins : postfix tree ≡ node.tokens ++ rest = sym (take-append-drop (length node.tokens) (postfix tree)) ∙ ap (λ z. z ++ rest) belongs.begins in
    let stack = grow f [] node.tokens in
    let full : grow f [] (postfix tree) ≡ tree ∷ [] = ap (grow f []) (sym (append-nil (postfix tree))) ∙ grow-postfix f tree [] [] (has-shapes design tree belongs.legal) in
    let end : grow f stack rest ≡ tree ∷ [] = sym (grow-append f [] node.tokens rest) ∙ ap (grow f []) (sym begins) ∙ full in
    let parts = grown-parts f stack rest tree (subst (AllByRecursion (λ p. IsPart p tree)) (sym end) (part-self tree, tt)) in
    let sizes = grown-area f stack rest in
    record {
      shape = f;
      stack = stack;
      rest = rest;
      items = read-grow f [] node.tokens;
      parts = parts.0;
      loose = parts.1;
      size = omega (arith, sizes, ap (sum_by area) end, sum_by-cons area tree []);
      free = λ b lt is. count-blocks b rest (omega (arith, belongs.legal.blocks.each_once b lt, count_by-postfix b tree, ap (count_by (is_block b)) begins, sum_by-append (λ x. cond (is_block b x) 1 0) node.tokens rest, eqb-true (count_by (is_block b) node.tokens) 0 is));
      whole = λ complete.
          let none : rest ≡ [] = nil_from_length rest (omega (arith, eqb-true (length node.tokens + 1) (2 * length node.spans) complete, spans, length-leaves design tree belongs.legal, length-postfix tree, ap length begins, length-append node.tokens rest)) in
          ap (grow f []) (sym (append-nil node.tokens) ∙ ap (λ z. node.tokens ++ z) (sym none) ∙ sym begins) ∙ full;
    }

-- the shapes of the leaves are listed
abbrev pub AreListed : (ℕ → List Shape) → Tree → Type 0
AreListed shapes t = AllByRecursion (λ leaf. Contains (shapes leaf.0) leaf.1) (leaves t)

-- a plan is one of those of its item
pub plan-listed : (shapes : ℕ → List Shape) (t : Tree) → AreListed shapes t → Contains (plans shapes (item_of t)) t
plan-listed shapes (Leaf b s) h = Contains-map (λ v. Leaf b v) (shapes b) s h.0
plan-listed shapes (Beside l r) h =
    Contains-pairs (λ p q. Beside p q) (plans shapes (item_of l)) (plans shapes (item_of r)) l r
    (plan-listed shapes l (each-left _ (leaves l) (leaves r) h)) (plan-listed shapes r (each-right _ (leaves l) (leaves r) h))
plan-listed shapes (Above l r) h =
    Contains-pairs (λ p q. Above p q) (plans shapes (item_of l)) (plans shapes (item_of r)) l r
    (plan-listed shapes l (each-left _ (leaves l) (leaves r) h)) (plan-listed shapes r (each-right _ (leaves l) (leaves r) h))

-- a plan whose sides are no greater than the outline fits
pub fits-true : (o : Outline) (t : Tree) → width t ≤ o.w → height t ≤ o.h → fits o t ≡ true
fits-true o t h k = and_from (nat_le (width t) o.w) (nat_le (height t) o.h) (le-leb (width t) o.w h) (le-leb (height t) o.h k)

-- the least value is at most that of each plan
pub least_of-le : (f : Tree → ℕ) (ts : List Tree) (t : Tree) → Contains ts t → least_of f ts ≤ f t
least_of-le f [] t c = absurd (not_in_nil t c)
least_of-le f (u ∷ ts) t c =
    elim (Contains-cons_cases u ts t c) [
      | inl e ↦ (let s : f u ≡ f t = ap f e in omega (arith, s))
      | inr d ↦ omega (arith, least_of-le f ts t d)
    ]

-- the leaves of a plan that belongs to a subproblem are of their spans
pub belongs-listed : (design : Design) (node : Parts) (tree : Tree) → Belongs design node tree → AreListed (shapes_in design node.spans) tree
belongs-listed design node tree belongs =
    recursion_from_All (λ leaf. Contains (shapes_in design node.spans leaf.0) leaf.1) (leaves tree) belongs.chosen

-- a subtree is one of the fitting plans of its item
pub part-fitting : (design : Design) (node : Parts) (tree : Tree) → Belongs design node tree → Fits design.outline tree → (p : Tree) → IsPart p tree → Contains (fitting design node (item_of p)) p
part-fitting design node tree belongs fit p part =
    Contains-filter (fits design.outline) (plans (shapes_in design node.spans) (item_of p)) p
    (plan-listed (shapes_in design node.spans) p (each-from (λ leaf. Contains (shapes_in design node.spans leaf.0) leaf.1) (leaves p) (λ leaf c.
    each-contains (λ v. Contains (shapes_in design node.spans v.0) v.1) (leaves tree) leaf (belongs-listed design node tree belongs) (part.listed leaf c))))
    (fits-true design.outline p (omega (arith, part.narrow, fit.0)) (omega (arith, part.low, fit.1)))

-- the unused blocks
abbrev pub unused_blocks : Parts → List ℕ
unused_blocks node = filter (λ b. is_unused b node.tokens) (range_with_len 0 (length node.spans))

-- the numbers of a range are below its end
pub each-below : (a n : ℕ) → AllByRecursion (λ i. i < a + n) (range_with_len a n)
each-below a zero = tt
each-below a (suc n) = (omega arith, each-weaker (λ i. i < (a + 1) + n) (λ i. i < a + suc n) (λ i h. omega (arith, h)) (range_with_len (a + 1) n) (each-below (a + 1) n))

-- each unused block is a block that the tokens lack
pub unused-is : (node : Parts) (b : ℕ) → Contains (unused_blocks node) b → (b < length node.spans) × (is_unused b node.tokens ≡ true)
unused-is node b c =
    let k = Contains-from_filter (λ b. is_unused b node.tokens) (range_with_len 0 (length node.spans)) b c in
    (omega (arith, each-contains (λ i. i < 0 + length node.spans) (range_with_len 0 (length node.spans)) b (each-below 0 (length node.spans)) k.0), k.1)

-- what bounds each number bounds the greatest
greatest-le : (m : ℕ) (xs : List ℕ) → AllByRecursion (λ x. x ≤ m) xs → greatest xs ≤ m
greatest-le m [] h = omega arith
greatest-le m (x ∷ xs) h = omega (arith, h.0, greatest-le m xs h.1)

module _ (design : Design) (node : Parts) (tree : Tree) (spans : length node.spans ≡ block_count design) (belongs : Belongs design node tree) (fit : Fits design.outline tree) where
  -- an unused block is one of the tokens that follow
  pub unused-loose : (k : IsCut design node tree) (b : ℕ) → Contains (unused_blocks node) b → Contains (blocks_of k.rest) b
  unused-loose k b c = let u = unused-is node b c in k.free b (omega (arith, u.0, spans)) u.1

  -- what holds of the item of each subtree holds of each item and of each unused block
  pub each-group : (P : Item → Type 0) → ((p : Tree) → IsPart p tree → P (item_of p)) → AllByRecursion P (items_of node ++ unused node)
  each-group P f =
      let k = cut design node tree spans belongs in
      each-append P (items_of node) (unused node)
      (subst (AllByRecursion P) (sym k.items) (each-map P item_of k.stack (each-weaker (λ p. IsPart p tree) (λ p. P (item_of p)) f k.stack k.parts)))
      (each-map P (λ b. item.Block b) (unused_blocks node) (each-from (λ b. P (item.Block b)) (unused_blocks node) (λ b c.
      f (Leaf b (k.shape b)) (each-contains (λ v. IsPart (Leaf v (k.shape v)) tree) (blocks_of k.rest) b k.loose (unused-loose k b c)))))

  -- the least value of an item is at most that of its part of the plan
  pub least-part : (f : Tree → ℕ) (p : Tree) → IsPart p tree → least_of f (fitting design node (item_of p)) ≤ f p
  least-part f p part = least_of-le f (fitting design node (item_of p)) p (part-fitting design node tree belongs fit p part)

  -- the sum of the least areas
  pub sum-areas : sum_by (λ i. least_of area (fitting design node i)) (items_of node ++ unused node) ≤ area tree
  sum-areas =
      let k = cut design node tree spans belongs in
      let g : Item → ℕ = λ i. least_of area (fitting design node i) in
      let before : sum_by g (items_of node) ≤ sum_by area k.stack =
      subst (λ v. sum_by g v ≤ sum_by area k.stack) (sym k.items)
      (omega (arith, sum_by-map g item_of k.stack, sum_by-le_each (λ p. g (item_of p)) area k.stack (each-weaker (λ p. IsPart p tree) (λ p. g (item_of p) ≤ area p) (least-part area) k.stack k.parts))) in
      let h : ℕ → ℕ = λ b. g (item.Block b) in
      let each : AllByRecursion (λ b. h b ≤ own_area k.shape b) (blocks_of k.rest) =
      each-weaker (λ b. IsPart (Leaf b (k.shape b)) tree) (λ b. h b ≤ own_area k.shape b) (λ b part. least-part area (Leaf b (k.shape b)) part) (blocks_of k.rest) k.loose in
      let after : sum_by h (unused_blocks node) ≤ sum_by h (blocks_of k.rest) =
      sum_by-le_list h (unused_blocks node) (blocks_of k.rest)
      (EachPair-filter (λ i j. i < j) (λ b. is_unused b node.tokens) (range_with_len 0 (length node.spans)) (EachPair-range 0 (length node.spans)))
      (each-from (Contains (blocks_of k.rest)) (unused_blocks node) (unused-loose k)) in
      omega (arith, sum_by-append g (items_of node) (unused node), sum_by-map g (λ b. item.Block b) (unused_blocks node), before, after, sum_by-le_each h (own_area k.shape) (blocks_of k.rest) each, k.size)

  -- the greatest of the least sides is no more than the side of the plan
  greatest-side : (f : Tree → ℕ) → ((p : Tree) → IsPart p tree → f p ≤ f tree) → greatest (map (least_of f) (map (fitting design node) (items_of node ++ unused node))) ≤ f tree
  greatest-side f le =
      greatest-le (f tree) (map (least_of f) (map (fitting design node) (items_of node ++ unused node)))
      (each-map (λ x. x ≤ f tree) (least_of f) (map (fitting design node) (items_of node ++ unused node))
      (each-map (λ ts. least_of f ts ≤ f tree) (fitting design node) (items_of node ++ unused node)
      (each-group (λ i. least_of f (fitting design node i) ≤ f tree) (λ p part. omega (arith, least-part f p part, le p part)))))

  -- the area part
  pub needed-area : needed_area (map (fitting design node) (items_of node ++ unused node)) ≤ area tree
  needed-area =
      let groups = items_of node ++ unused node in
      let total = sum-map (least_of area) (map (fitting design node) groups) in
      let through = sum_by-map (least_of area) (fitting design node) groups in
      omega (
        arith,
        total,
        through,
        sum-areas,
        mul-le-mul (greatest-side width (λ p part. part.narrow)) (greatest-side height (λ p part. part.low)),
      )

  -- no group is without a plan
  pub none-empty : list_any has_none (map (fitting design node) (items_of node ++ unused node)) ≡ false
  none-empty = go (items_of node ++ unused node) (each-group (λ i. has_none (fitting design node i) ≡ false) (λ p part. not-none (fitting design node (item_of p)) p (part-fitting design node tree belongs fit p part)))
    where
      go : (is : List Item) → AllByRecursion (λ i. has_none (fitting design node i) ≡ false) is → list_any has_none (map (fitting design node) is) ≡ false
      go [] h = refl
      go (i ∷ is) h = ap (λ b. b || list_any has_none (map (fitting design node) is)) h.0 ∙ go is h.1

      not-none : (ts : List Tree) (t : Tree) → Contains ts t → has_none ts ≡ false
      not-none [] t c = absurd (not_in_nil t c)
      not-none (u ∷ ts) t c = ne_eqb (suc (length ts)) 0 (λ e. absurd (omega (arith, e)))

-- Plans of sets of blocks, and their parts.
use Rattle.std.proofs.Common.{◌≡◌, ℕ, ◌+◌, ◌-◌, ◌*◌, ◌^◌, ◌<◌, ◌≤◌, inl, inr, max, List, [], ◌++◌, cond, arith, refl, ap, sym, subst, ◌∙◌, ◌==◌}
use Rattle.sf_subsets.proofs.Common.{All, AreLeasts, Contains, Design, Direction, IsPart, IsPlanOf, IsPlanOfSize, IsSplit, Leaf, Shape, Tree, area_of, bit_at, bit_at-zero, cases_lt, count_by, eqb_tells, leaves, mul-le-mul, plan_in, shapes_of, size_in, size_of, sum_by-cons, total, mul-le-mul_left, bit_at-lt, sum_by-append, recursion_from_All, All-from_recursion, All-head, All-append, All-cons, All-nil, ne_eqb, Fits, Beside, Above, each-left, each-right, beside_size, above_size, times}
use Rattle.sf_curves.specs.declared.direction.Direction.TheVariants as d
use Rattle.sf_subsets.proofs.Bits.{split-total, total-one, gather, gather-bit, no_bit, below_power, top-below, top-here, top-above, rest-split}

-- a leaf has its block once
pub times-leaf : (b : ℕ) (s : Shape) → times b (Leaf b s) ≡ 1
times-leaf b s =
    sum_by-cons {X = ℕ × Shape} (λ leaf. cond (leaf.0 == b) 1 0) (b, s) []
    ∙ (elim (eqb_tells b b) [
      | inl p ↦ (let e : ◌≡◌ {A = ℕ} (cond (b == b) 1 0) 1 = ap (λ v. cond {A = ℕ} v 1 0) p.0 in omega (arith, e))
      | inr p ↦ absurd (p.1 refl)
    ])

-- and no other
pub times-other : (i b : ℕ) (s : Shape) → (i ≡ b → ⊥) → times i (Leaf b s) ≡ 0
times-other i b s ne =
    let e : ◌≡◌ {A = ℕ} (cond (b == i) 1 0) 0 = ap (λ v. cond {A = ℕ} v 1 0) (ne_eqb b i (λ k. ne (sym k))) in
    sum_by-cons {X = ℕ × Shape} (λ leaf. cond (leaf.0 == i) 1 0) (b, s) [] ∙ omega (arith, e)

-- two plans have the leaves of both
pub times-both : (b : ℕ) (xs ys : List (ℕ × Shape)) → count_by (λ leaf. leaf.0 == b) (xs ++ ys) ≡ count_by (λ leaf. leaf.0 == b) xs + count_by (λ leaf. leaf.0 == b) ys
times-both b xs ys = sum_by-append {X = ℕ × Shape} (λ leaf. cond (leaf.0 == b) 1 0) xs ys

-- the sets of the two parts of a plan
pub record IsCut (design : Design) (set : ℕ) (l r : Tree) : Type 0 where
  pub first : ℕ
  pub second : ℕ
  pub split : IsSplit first second set
  pub left : IsPlanOf design first l
  pub right : IsPlanOf design second r

-- a plan of two parts is cut into plans of two sets
pub cut : (design : Design) (set : ℕ) (l r : Tree) → ((b : ℕ) → times b l + times b r ≡ bit_at set b) → All (λ leaf. Contains (shapes_of design leaf.0) leaf.1) (leaves l ++ leaves r) → IsCut design set l r
cut design set l r blocks listed =
    let P : ℕ × Shape → Type 0 = λ leaf. Contains (shapes_of design leaf.0) leaf.1 in
    let left = gather-bit set (λ b. times b l) (λ b. omega (arith, blocks b, bit_at-lt set b)) (λ b le. omega (arith, blocks b, no_bit set b le)) in
    let right = gather-bit set (λ b. times b r) (λ b. omega (arith, blocks b, bit_at-lt set b)) (λ b le. omega (arith, blocks b, no_bit set b le)) in
    record {
      first = gather set (λ b. times b l);
      second = gather set (λ b. times b r);
      split = λ b. omega (arith, left b, right b, blocks b);
      left = record { blocks = λ b. sym (left b); listed = All-from_recursion P (leaves l) (each-left P (leaves l) (leaves r) (recursion_from_All P (leaves l ++ leaves r) listed)) };
      right = record { blocks = λ b. sym (right b); listed = All-from_recursion P (leaves r) (each-right P (leaves l) (leaves r) (recursion_from_All P (leaves l ++ leaves r) listed)) };
    }

-- two plans side by side
pub cut-beside : (design : Design) (set : ℕ) (l r : Tree) → IsPlanOf design set (Beside l r) → IsCut design set l r
cut-beside design set l r plan =
    cut design set l r (λ b. sym (times-both b (leaves l) (leaves r)) ∙ plan.blocks b) plan.listed

-- two plans one above the other
pub cut-above : (design : Design) (set : ℕ) (l r : Tree) → IsPlanOf design set (Above l r) → IsCut design set l r
cut-above design set l r plan =
    cut design set l r (λ b. sym (times-both b (leaves l) (leaves r)) ∙ plan.blocks b) plan.listed

-- the set of a leaf has its block
pub leaf-here : (design : Design) (set b : ℕ) (s : Shape) → IsPlanOf design set (Leaf b s) → bit_at set b ≡ 1
leaf-here design set b s plan = sym (plan.blocks b) ∙ times-leaf b s

-- and no other
pub leaf-other : (design : Design) (set b : ℕ) (s : Shape) → IsPlanOf design set (Leaf b s) → (i : ℕ) → (i ≡ b → ⊥) → bit_at set i ≡ 0
leaf-other design set b s plan i ne = sym (plan.blocks i) ∙ times-other i b s ne

-- its shape is listed
pub leaf-listed : (design : Design) (set b : ℕ) (s : Shape) → IsPlanOf design set (Leaf b s) → Contains (shapes_of design b) s
leaf-listed design set b s plan = All-head (λ leaf. Contains (shapes_of design leaf.0) leaf.1) (b, s) [] plan.listed

-- two rooms side by side have the room of both
pub area-beside : (p q : Shape) → area_of p + area_of q ≤ area_of (beside_size p q)
area-beside p q =
    let a : p.h ≤ max p.h q.h = omega arith in
    let b : q.h ≤ max p.h q.h = omega arith in
    let m = max p.h q.h in
    let x : p.w * p.h ≤ p.w * m = mul-le-mul_left p.w a in
    let y : q.w * q.h ≤ q.w * m = mul-le-mul_left q.w b in
    let z : (p.w + q.w) * m ≡ p.w * m + q.w * m = omega arith in
    omega (arith, x, y, z)

-- and so have two rooms one above the other
pub area-above : (p q : Shape) → area_of p + area_of q ≤ area_of (above_size p q)
area-above p q =
    let a : p.w ≤ max p.w q.w = omega arith in
    let b : q.w ≤ max p.w q.w = omega arith in
    let m = max p.w q.w in
    let x : p.w * p.h ≤ m * p.h = mul-le-mul a (omega arith) in
    let y : q.w * q.h ≤ m * q.h = mul-le-mul b (omega arith) in
    let z : m * (p.h + q.h) ≡ m * p.h + m * q.h = omega arith in
    omega (arith, x, y, z)

-- the blocks of a plan that fits take no more than its area
pub total-le-area : (design : Design) (leasts : List ℕ) → AreLeasts design leasts → (set : ℕ) (tree : Tree) → IsPlanOf design set tree → Fits design.outline tree → total leasts set ≤ area_of (size_of tree)
total-le-area design leasts floor set (Leaf b s) plan fit =
    omega (arith, total-one leasts b set (leaf-other design set b s plan), floor b s (leaf-listed design set b s plan) fit)
total-le-area design leasts floor set (Beside l r) plan fit =
    let c = cut-beside design set l r plan in
    omega (
      arith,
      split-total leasts c.first c.second set c.split,
      area-beside (size_of l) (size_of r),
      total-le-area design leasts floor c.first l c.left (omega (arith, fit.0), omega (arith, fit.1)),
      total-le-area design leasts floor c.second r c.right (omega (arith, fit.0), omega (arith, fit.1)),
    )
total-le-area design leasts floor set (Above l r) plan fit =
    let c = cut-above design set l r plan in
    omega (
      arith,
      split-total leasts c.first c.second set c.split,
      area-above (size_of l) (size_of r),
      total-le-area design leasts floor c.first l c.left (omega (arith, fit.0), omega (arith, fit.1)),
      total-le-area design leasts floor c.second r c.right (omega (arith, fit.0), omega (arith, fit.1)),
    )

-- plans of two sets are joined to one of the union
pub plan-joined : (design : Design) (dir : Direction) (a b set : ℕ) (x y : Tree) → IsSplit a b set → IsPlanOf design a x → IsPlanOf design b y → IsPlanOf design set (plan_in dir x y)
plan-joined design d.Beside a b set x y split px py = record {
  blocks = λ i. omega (arith, times-both i (leaves x) (leaves y), px.blocks i, py.blocks i, split i);
  listed = All-append (λ leaf. Contains (shapes_of design leaf.0) leaf.1) (leaves x) (leaves y) px.listed py.listed;
}
plan-joined design d.Above a b set x y split px py = record {
  blocks = λ i. omega (arith, times-both i (leaves x) (leaves y), px.blocks i, py.blocks i, split i);
  listed = All-append (λ leaf. Contains (shapes_of design leaf.0) leaf.1) (leaves x) (leaves y) px.listed py.listed;
}

-- their size
size-joined : (dir : Direction) (x y : Tree) → size_of (plan_in dir x y) ≡ size_in dir (size_of x) (size_of y)
size-joined d.Beside x y = refl
size-joined d.Above x y = refl

-- the block alone is a plan of its set
pub leaf-plan : (design : Design) (k : ℕ) (s : Shape) → Contains (shapes_of design k) s → IsPlanOf design (2 ^ k + 0) (Leaf k s)
leaf-plan design k s c =
    let lt : 0 < 2 ^ k = omega (arith, below_power k) in
    record {
      blocks = λ i. elim (cases_lt i k) [
        | inl low ↦ omega (arith, times-other i k s (λ e. omega (arith, e, low)), top-below k 0 lt i low, bit_at-zero i)
        | inr ge ↦ elim (cases_lt k i) [
          | inl high ↦ omega (arith, times-other i k s (λ e. omega (arith, e, high)), top-above k 0 lt i high)
          | inr le ↦ (let e : k ≡ i = omega arith in subst (λ v. times v (Leaf k s) ≡ bit_at (2 ^ k + 0) v) e (times-leaf k s ∙ sym (top-here k 0 lt)))
        ]
      ];
      listed = All-cons (λ leaf. Contains (shapes_of design leaf.0) leaf.1) (k, s) [] c (All-nil (λ leaf. Contains (shapes_of design leaf.0) leaf.1));
    }

-- the same of the block's own number
pub leaf_alone_plan : (design : Design) (k set : ℕ) (s : Shape) → set ≡ 2 ^ k → Contains (shapes_of design k) s → IsPlanOf design set (Leaf k s)
leaf_alone_plan design k set s is c =
    let e : 2 ^ k + 0 ≡ set = omega (arith, is) in
    subst (λ v. IsPlanOf design v (Leaf k s)) e (leaf-plan design k s c)

-- plans of a part and of what is left of it make a plan of the set
pub parts-joined : (design : Design) (dir : Direction) (part set : ℕ) (p q size : Shape) (x y tree : Tree) → IsPart part set → IsPlanOfSize design (set - part) p x → IsPlanOfSize design part q y → size_in dir p q ≡ size → tree ≡ plan_in dir x y → IsPlanOfSize design set size tree
parts-joined design dir part set p q size x y tree h px py is at = record {
  plan = subst (IsPlanOf design set) (sym at) (plan-joined design dir (set - part) part set x y (rest-split part set h) px.plan py.plan);
  is = ap size_of at ∙ size-joined dir x y ∙ ap (λ v. size_in dir v (size_of y)) px.is ∙ ap (λ v. size_in dir p v) py.is ∙ is;
}

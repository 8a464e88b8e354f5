-- A plan with each block once is spelled by its postfix and the shapes of its leaves.
use Rattle.std.proofs.Common.{◌≡◌, ℕ, ◌+◌, ◌<◌, ◌≤◌, true, false, cond, List, [], ◌∷◌, ◌++◌, length, arith, refl, ap, sym, subst, ◌∙◌, inl, inr, ◌==◌, ◌≢◌}
use Rattle.sf_polish.proofs.Common.{count_by, AllByRecursion, cases_lt, eqb_tells, ext_get_or, get_or-set_same, get_or-set_other, length-set, All-from_recursion, recursion_from_All, sum_by-cons, sum_by-append, Shape, HasEachOnce, Tree, Leaf, Beside, Above, leaves, HasBlocksBelow, each-append, each-left, each-right, Expr, Token, is_outside, IsNormal, postfix, shape_at, Spells, no_shape, with_leaves, once-below}
use Rattle.sf_polish.specs.declared.expr.Token.TheVariants as tokens
use Rattle.sf_polish.proofs.Normality.{inside-number}
use Rattle.sf_polish.proofs.Spelling.{HasShapes}
use Rattle.sf_polish.proofs.Stack.{count_by-postfix}

-- how often a block is among the leaves
abbrev pub leaf_times : ℕ → Tree → ℕ
leaf_times b t = count_by (λ leaf. leaf.0 == b) (leaves t)

-- a leaf holds its own block once
leaf_once : (b : ℕ) (s : Shape) → leaf_times b (Leaf b s) ≡ 1
leaf_once b s =
    let same : (b == b) ≡ true = elim (eqb_tells b b) [ inl p ↦ p.0 | inr p ↦ absurd (p.1 refl) ] in
    let pair : ℕ × Shape = (b, s) in
    omega (arith, sum_by-cons (λ (leaf : ℕ × Shape). cond (leaf.0 == b) 1 0) pair [], ap {B = ℕ} (λ x. cond x 1 0) same)

-- a leaf that does not hold a block is another one
leaf_other : (b c : ℕ) (s : Shape) → leaf_times b (Leaf c s) ≡ 0 → b ≢ c
leaf_other b c s none e = let one = leaf_once c s in absurd (omega (arith, one, none, ap (λ n. leaf_times n (Leaf c s)) e))

-- a block stands in two plans as often as in both together
both_times : (b : ℕ) (l r : Tree) → count_by (λ leaf. leaf.0 == b) (leaves l ++ leaves r) ≡ leaf_times b l + leaf_times b r
both_times b l r = sum_by-append (λ leaf. cond (leaf.0 == b) 1 0) (leaves l) (leaves r)

-- writing the shapes of leaves keeps the length of the list
pub length-with_leaves : (t : Tree) (shapes : List Shape) → length (with_leaves shapes t) ≡ length shapes
length-with_leaves (Leaf b s) shapes = length-set shapes b s
length-with_leaves (Beside l r) shapes = length-with_leaves r (with_leaves shapes l) ∙ length-with_leaves l shapes
length-with_leaves (Above l r) shapes = length-with_leaves r (with_leaves shapes l) ∙ length-with_leaves l shapes

-- the shapes of other blocks stay
with-kept : (t : Tree) (shapes : List Shape) (b : ℕ) → leaf_times b t ≡ 0 → shape_at (with_leaves shapes t) b ≡ shape_at shapes b
with-kept (Leaf c s) shapes b none = get_or-set_other shapes c b s no_shape (leaf_other b c s none)
with-kept (Beside l r) shapes b none = with-kept r (with_leaves shapes l) b (omega (arith, none, both_times b l r)) ∙ with-kept l shapes b (omega (arith, none, both_times b l r))
with-kept (Above l r) shapes b none = with-kept r (with_leaves shapes l) b (omega (arith, none, both_times b l r)) ∙ with-kept l shapes b (omega (arith, none, both_times b l r))

-- lists that agree at the blocks of a tree both have its shapes
shapes-move : (t : Tree) (f g : List Shape) → ((b : ℕ) → 1 ≤ leaf_times b t → shape_at f b ≡ shape_at g b) → HasShapes g t → HasShapes f t
shapes-move (Leaf b s) f g agree h = (h.0 ∙ sym (agree b (omega (arith, leaf_once b s))), tt)
shapes-move (Beside l r) f g agree h =
    each-append _ (leaves l) (leaves r)
    (shapes-move l f g (λ b k. agree b (omega (arith, k, both_times b l r))) (each-left _ (leaves l) (leaves r) h))
    (shapes-move r f g (λ b k. agree b (omega (arith, k, both_times b l r))) (each-right _ (leaves l) (leaves r) h))
shapes-move (Above l r) f g agree h =
    each-append _ (leaves l) (leaves r)
    (shapes-move l f g (λ b k. agree b (omega (arith, k, both_times b l r))) (each-left _ (leaves l) (leaves r) h))
    (shapes-move r f g (λ b k. agree b (omega (arith, k, both_times b l r))) (each-right _ (leaves l) (leaves r) h))

-- no block is among the leaves twice
abbrev pub IsApart : Tree → Type 0
IsApart t = (b : ℕ) → leaf_times b t ≤ 1

-- shapes that two plans wrote one after the other stand, where no block is in both
with-both : (l r : Tree) (shapes : List Shape) → HasShapes (with_leaves shapes l) l → HasShapes (with_leaves (with_leaves shapes l) r) r → ((b : ℕ) → leaf_times b l + leaf_times b r ≤ 1) → AllByRecursion (λ leaf. leaf.1 ≡ shape_at (with_leaves (with_leaves shapes l) r) leaf.0) (leaves l ++ leaves r)
with-both l r shapes h k apart =
    each-append _ (leaves l) (leaves r) (shapes-move l (with_leaves (with_leaves shapes l) r) (with_leaves shapes l) (λ b some. with-kept r (with_leaves shapes l) b (omega (arith, apart b, some))) h) k

-- once its leaves are written, a plan without a repeated block finds its shapes in the list
pub with-shapes : (t : Tree) (shapes : List Shape) → HasBlocksBelow (length shapes) t → IsApart t → HasShapes (with_leaves shapes t) t
with-shapes (Leaf b s) shapes h apart = (sym (get_or-set_same shapes b s no_shape h), tt)
with-shapes (Beside l r) shapes h apart =
    with-both l r shapes (with-shapes l shapes h.0 (λ b. omega (arith, apart b, both_times b l r)))
    (with-shapes r (with_leaves shapes l) (subst (λ n. HasBlocksBelow n r) (sym (length-with_leaves l shapes)) h.1) (λ b. omega (arith, apart b, both_times b l r)))
    (λ b. omega (arith, apart b, both_times b l r))
with-shapes (Above l r) shapes h apart =
    with-both l r shapes (with-shapes l shapes h.0 (λ b. omega (arith, apart b, both_times b l r)))
    (with-shapes r (with_leaves shapes l) (subst (λ n. HasBlocksBelow n r) (sym (length-with_leaves l shapes)) h.1) (λ b. omega (arith, apart b, both_times b l r)))
    (λ b. omega (arith, apart b, both_times b l r))

-- a block from n on stands nowhere among leaves below n
none-outside : (n b : ℕ) (xs : List (ℕ × Shape)) → n ≤ b → AllByRecursion (λ leaf. leaf.0 < n) xs → count_by (λ leaf. leaf.0 == b) xs ≡ 0
none-outside n b [] h below = refl
none-outside n b (x ∷ xs) h below =
    let other : (x.0 == b) ≡ false = elim (eqb_tells x.0 b) [ inl p ↦ absurd (omega (arith, p.1, below.0)) | inr p ↦ p.0 ] in
    omega (arith, none-outside n b xs h below.1, sum_by-cons (λ (leaf : ℕ × Shape). cond (leaf.0 == b) 1 0) x xs, ap {B = ℕ} (λ z. cond z 1 0) other)

-- a plan of each block once repeats none
apart : (n : ℕ) (t : Tree) → HasEachOnce n t → IsApart t
apart n t once b = elim (cases_lt b n) [
  | inl p ↦ omega (arith, once.each_once b p)
  | inr p ↦ omega (arith, none-outside n b (leaves t) p (recursion_from_All (λ leaf. leaf.0 < n) (leaves t) once.no_other))
]

-- the postfix of a plan and the shapes of its leaves spell it
pub spelled-by : (n : ℕ) (t : Tree) (expr : Expr) (start : List Shape) → HasEachOnce n t → length start ≡ n → expr.tokens ≡ postfix t → expr.shapes ≡ with_leaves start t → Spells expr t
spelled-by n t expr start once all written shapes =
    let below : HasBlocksBelow (length start) t = subst (λ k. HasBlocksBelow k t) (sym all) (once-below n t once) in
    record {
      tokens = sym written;
      shapes = All-from_recursion _ (leaves t) (subst (λ z. HasShapes z t) (sym shapes) (with-shapes t start below (apart n t once)));
    }

-- ---- one expression

-- two lists with the shapes of one plan agree at each of its blocks
leaf-shape : (f g : List Shape) (b : ℕ) (t : Tree) → HasShapes f t → HasShapes g t → 1 ≤ leaf_times b t → shape_at f b ≡ shape_at g b
leaf-shape f g b (Leaf c s) h k some = elim (eqb_tells c b) [
  | inl p ↦ ap (shape_at f) (sym p.1) ∙ sym h.0 ∙ k.0 ∙ ap (shape_at g) p.1
  | inr p ↦ absurd (omega (arith, some, ap {B = ℕ} (λ z. cond z 1 0) p.0))
]
leaf-shape f g b (Beside l r) h k some = elim (cases_lt 0 (leaf_times b l)) [
  | inl p ↦ leaf-shape f g b l (each-left _ (leaves l) (leaves r) h) (each-left _ (leaves l) (leaves r) k) p
  | inr p ↦ leaf-shape f g b r (each-right _ (leaves l) (leaves r) h) (each-right _ (leaves l) (leaves r) k) (omega (arith, some, p, both_times b l r))
]
leaf-shape f g b (Above l r) h k some = elim (cases_lt 0 (leaf_times b l)) [
  | inl p ↦ leaf-shape f g b l (each-left _ (leaves l) (leaves r) h) (each-left _ (leaves l) (leaves r) k) p
  | inr p ↦ leaf-shape f g b r (each-right _ (leaves l) (leaves r) h) (each-right _ (leaves l) (leaves r) k) (omega (arith, some, p, both_times b l r))
]

-- expressions of the same tokens and the same shapes are one
same-expr : (front others : List Token) (shapes more : List Shape) → front ≡ others → shapes ≡ more → ◌≡◌ {A = Expr} (record { tokens = front; shapes = shapes }) (record { tokens = others; shapes = more })
same-expr front others shapes more e f = cc

-- expressions with one shape for each block that spell the same plan are the same
pub one-expression : (n : ℕ) (e f : Expr) (t : Tree) → HasEachOnce n t → length e.shapes ≡ n → length f.shapes ≡ n → Spells e t → Spells f t → e ≡ f
one-expression n e f t once es fs s u =
    same-expr e.tokens f.tokens e.shapes f.shapes (sym s.tokens ∙ u.tokens)
    (ext_get_or no_shape e.shapes f.shapes (es ∙ sym fs) (λ b h. leaf-shape e.shapes f.shapes b t (recursion_from_All _ (leaves t) s.shapes) (recursion_from_All _ (leaves t) u.shapes) (omega (arith, once.each_once b (omega (arith, es))))))

-- where no token of the postfix is outside n blocks, all leaves are blocks below n
leaves-inside : (n : ℕ) (t : Tree) → AllByRecursion (λ x. is_outside n x ≡ false) (postfix t) → AllByRecursion (λ leaf. leaf.0 < n) (leaves t)
leaves-inside n (Leaf b s) h = (inside-number n b h.0, tt)
leaves-inside n (Beside l r) h =
    let both = each-left _ (postfix l ++ postfix r) (tokens.Beside ∷ []) h in
    each-append _ (leaves l) (leaves r) (leaves-inside n l (each-left _ (postfix l) (postfix r) both)) (leaves-inside n r (each-right _ (postfix l) (postfix r) both))
leaves-inside n (Above l r) h =
    let both = each-left _ (postfix l ++ postfix r) (tokens.Above ∷ []) h in
    each-append _ (leaves l) (leaves r) (leaves-inside n l (each-left _ (postfix l) (postfix r) both)) (leaves-inside n r (each-right _ (postfix l) (postfix r) both))

-- a plan that normal tokens spell has each block once
pub once-of_normal : (n : ℕ) (ts : List Token) (t : Tree) → IsNormal n ts → postfix t ≡ ts → HasEachOnce n t
once-of_normal n ts t normal e =
    let own : IsNormal n (postfix t) = subst (IsNormal n) (sym e) normal in
    record {
      each_once = λ b h. sym (count_by-postfix b t) ∙ own.each_once b h;
      no_other = All-from_recursion (λ leaf. leaf.0 < n) (leaves t) (leaves-inside n t (recursion_from_All (λ x. is_outside n x ≡ false) (postfix t) own.no_other));
    }

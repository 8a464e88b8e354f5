-- What stands on the stack after some tokens of a plan's postfix are subtrees of the plan.
use Rattle.std.proofs.Common.{◌≡◌, ℕ, ◌+◌, ◌*◌, ◌≤◌, max, List, [], ◌∷◌, ◌++◌, map, append_assoc, arith, refl, ap, sym, subst, ◌∙◌}
use Rattle.sf_standard.proofs.Common.{Contains, sum_by, AllByRecursion, mul-le-mul_left, mul-le-mul_right, sum_by-cons, Contains-append_left, Contains-append_right, Shape, Spot, Tree, Leaf, Beside, Above, width, height, leaves, spots_at, each-left, each-right, Token, postfix, item_of, read, area}
use Rattle.sf_polish.specs.declared.expr.Token.TheVariants as token

-- the plans after the tokens, the last first, where each block has its shape
abbrev pub grow : (ℕ → Shape) → List Tree → List Token → List Tree
grow f stack [] = stack
grow f stack (token.Block b ∷ ts) = grow f (Leaf b (f b) ∷ stack) ts
grow f (r ∷ l ∷ stack) (token.Beside ∷ ts) = grow f (Beside l r ∷ stack) ts
grow f (r ∷ l ∷ stack) (token.Above ∷ ts) = grow f (Above l r ∷ stack) ts
grow f stack (t ∷ ts) = grow f stack ts

-- each block of the plan has the shape that f gives it
abbrev pub HasShapes : (ℕ → Shape) → Tree → Type 0
HasShapes f t = AllByRecursion (λ leaf. leaf.1 ≡ f leaf.0) (leaves t)

-- tokens that follow others grow the plans that those left
pub grow-append : (f : ℕ → Shape) (stack : List Tree) (xs ys : List Token) → grow f stack (xs ++ ys) ≡ grow f (grow f stack xs) ys
grow-append f stack [] ys = refl
grow-append f [] (token.Block b ∷ xs) ys = grow-append f (Leaf b (f b) ∷ []) xs ys
grow-append f (r ∷ stack) (token.Block b ∷ xs) ys = grow-append f (Leaf b (f b) ∷ r ∷ stack) xs ys
grow-append f [] (token.Beside ∷ xs) ys = grow-append f [] xs ys
grow-append f (r ∷ []) (token.Beside ∷ xs) ys = grow-append f (r ∷ []) xs ys
grow-append f (r ∷ l ∷ stack) (token.Beside ∷ xs) ys = grow-append f (Beside l r ∷ stack) xs ys
grow-append f [] (token.Above ∷ xs) ys = grow-append f [] xs ys
grow-append f (r ∷ []) (token.Above ∷ xs) ys = grow-append f (r ∷ []) xs ys
grow-append f (r ∷ l ∷ stack) (token.Above ∷ xs) ys = grow-append f (Above l r ∷ stack) xs ys

-- the tokens of a plan grow just this plan
pub grow-postfix : (f : ℕ → Shape) (t : Tree) (stack : List Tree) (rest : List Token) → HasShapes f t → grow f stack (postfix t ++ rest) ≡ grow f (t ∷ stack) rest
grow-postfix f (Leaf b s) stack rest h = ap (λ z. grow f (Leaf b z ∷ stack) rest) (sym h.0)
grow-postfix f (Beside l r) stack rest h =
    ap (grow f stack) (append_assoc (postfix l ++ postfix r) (token.Beside ∷ []) rest ∙ append_assoc (postfix l) (postfix r) (token.Beside ∷ rest))
    ∙ grow-postfix f l stack (postfix r ++ (token.Beside ∷ rest)) (each-left _ (leaves l) (leaves r) h)
    ∙ grow-postfix f r (l ∷ stack) (token.Beside ∷ rest) (each-right _ (leaves l) (leaves r) h)
grow-postfix f (Above l r) stack rest h =
    ap (grow f stack) (append_assoc (postfix l ++ postfix r) (token.Above ∷ []) rest ∙ append_assoc (postfix l) (postfix r) (token.Above ∷ rest))
    ∙ grow-postfix f l stack (postfix r ++ (token.Above ∷ rest)) (each-left _ (leaves l) (leaves r) h)
    ∙ grow-postfix f r (l ∷ stack) (token.Above ∷ rest) (each-right _ (leaves l) (leaves r) h)

-- the items are the plans without their shapes
pub read-grow : (f : ℕ → Shape) (stack : List Tree) (ts : List Token) → read (map item_of stack) ts ≡ map item_of (grow f stack ts)
read-grow f stack [] = refl
read-grow f [] (token.Block b ∷ ts) = read-grow f (Leaf b (f b) ∷ []) ts
read-grow f (r ∷ stack) (token.Block b ∷ ts) = read-grow f (Leaf b (f b) ∷ r ∷ stack) ts
read-grow f [] (token.Beside ∷ ts) = read-grow f [] ts
read-grow f (r ∷ []) (token.Beside ∷ ts) = read-grow f (r ∷ []) ts
read-grow f (r ∷ l ∷ stack) (token.Beside ∷ ts) = read-grow f (Beside l r ∷ stack) ts
read-grow f [] (token.Above ∷ ts) = read-grow f [] ts
read-grow f (r ∷ []) (token.Above ∷ ts) = read-grow f (r ∷ []) ts
read-grow f (r ∷ l ∷ stack) (token.Above ∷ ts) = read-grow f (Above l r ∷ stack) ts

-- p is a subtree of q, whose corner stands at (x, y) where that of q stands at (0, 0)
pub record IsPart (p q : Tree) : Type 0 where
  pub narrow : width p ≤ width q
  pub low : height p ≤ height q
  pub listed : (leaf : ℕ × Shape) → Contains (leaves p) leaf → Contains (leaves q) leaf
  pub x : ℕ
  pub y : ℕ
  pub placed : (a b : ℕ) (s : Spot) → Contains (spots_at (a + x) (b + y) p) s → Contains (spots_at a b q) s

-- a spot of a plan that stands at (a, b) is one of the plan at the same place
pub at : (p : Tree) (s : Spot) (a b c d : ℕ) → a ≡ c → b ≡ d → Contains (spots_at a b p) s → Contains (spots_at c d p) s
at p s a b c d e g h = subst (λ z. Contains (spots_at z d p) s) e (subst (λ z. Contains (spots_at a z p) s) g h)

-- a plan is a subtree of itself
abbrev pub part-self : (p : Tree) → IsPart p p
part-self p = record { narrow = omega arith; low = omega arith; listed = λ leaf h. h; x = 0; y = 0; placed = λ a b s c. at p s (a + 0) (b + 0) a b (omega arith) (omega arith) c }

-- a subtree of a subtree is one of the whole
pub part-trans : (p q r : Tree) → IsPart p q → IsPart q r → IsPart p r
part-trans p q r i j = record {
  narrow = omega (arith, i.narrow, j.narrow);
  low = omega (arith, i.low, j.low);
  listed = λ leaf h. j.listed leaf (i.listed leaf h);
  x = j.x + i.x;
  y = j.y + i.y;
  placed = λ a b s c. j.placed a b s (i.placed (a + j.x) (b + j.y) s (at p s (a + (j.x + i.x)) (b + (j.y + i.y)) ((a + j.x) + i.x) ((b + j.y) + i.y) (omega arith) (omega arith) c));
}

-- the left part is a subtree
pub part-left : (l r : Tree) → IsPart l (Beside l r)
part-left l r = record {
  narrow = omega arith;
  low = omega arith;
  listed = λ leaf h. Contains-append_left (leaves l) (leaves r) leaf h;
  x = 0;
  y = 0;
  placed = λ a b s c. Contains-append_left (spots_at a b l) (spots_at (a + width l) b r) s (at l s (a + 0) (b + 0) a b (omega arith) (omega arith) c);
}

-- so is the right one, whose corner stands at the width of the left one
pub part-right : (l r : Tree) → IsPart r (Beside l r)
part-right l r = record {
  narrow = omega arith;
  low = omega arith;
  listed = λ leaf h. Contains-append_right (leaves l) (leaves r) leaf h;
  x = width l;
  y = 0;
  placed = λ a b s c. Contains-append_right (spots_at a b l) (spots_at (a + width l) b r) s (at r s (a + width l) (b + 0) (a + width l) b (omega arith) (omega arith) c);
}

-- the lower part is a subtree
pub part-lower : (l r : Tree) → IsPart l (Above l r)
part-lower l r = record {
  narrow = omega arith;
  low = omega arith;
  listed = λ leaf h. Contains-append_left (leaves l) (leaves r) leaf h;
  x = 0;
  y = 0;
  placed = λ a b s c. Contains-append_left (spots_at a b l) (spots_at a (b + height l) r) s (at l s (a + 0) (b + 0) a b (omega arith) (omega arith) c);
}

-- so is the upper one, whose corner stands at the height of the lower one
pub part-upper : (l r : Tree) → IsPart r (Above l r)
part-upper l r = record {
  narrow = omega arith;
  low = omega arith;
  listed = λ leaf h. Contains-append_right (leaves l) (leaves r) leaf h;
  x = 0;
  y = height l;
  placed = λ a b s c. Contains-append_right (spots_at a b l) (spots_at a (b + height l) r) s (at r s (a + 0) (b + height l) a (b + height l) (omega arith) (omega arith) c);
}

-- the blocks of the tokens
abbrev pub blocks_of : List Token → List ℕ
blocks_of [] = []
blocks_of (token.Beside ∷ ts) = blocks_of ts
blocks_of (token.Above ∷ ts) = blocks_of ts
blocks_of (token.Block b ∷ ts) = b ∷ blocks_of ts

-- all plans of the stack, and all blocks of the tokens that follow, are subtrees of t
abbrev pub ArePartsOf : (ℕ → Shape) → List Tree → List Token → Tree → Type 0
ArePartsOf f stack ts t = AllByRecursion (λ p. IsPart p t) stack × AllByRecursion (λ b. IsPart (Leaf b (f b)) t) (blocks_of ts)

-- where the tokens that follow leave t alone, all are subtrees of t
pub grown-parts : (f : ℕ → Shape) (stack : List Tree) (ts : List Token) (t : Tree) → AllByRecursion (λ p. IsPart p t) (grow f stack ts) → ArePartsOf f stack ts t
grown-parts f stack [] t h = (h, tt)
grown-parts f [] (token.Block b ∷ ts) t h = let i = grown-parts f (Leaf b (f b) ∷ []) ts t h in (tt, (i.0.0, i.1))
grown-parts f (r ∷ stack) (token.Block b ∷ ts) t h = let i = grown-parts f (Leaf b (f b) ∷ r ∷ stack) ts t h in (i.0.1, (i.0.0, i.1))
grown-parts f [] (token.Beside ∷ ts) t h = grown-parts f [] ts t h
grown-parts f (r ∷ []) (token.Beside ∷ ts) t h = grown-parts f (r ∷ []) ts t h
grown-parts f (r ∷ l ∷ stack) (token.Beside ∷ ts) t h =
    let i = grown-parts f (Beside l r ∷ stack) ts t h in
    ((part-trans r (Beside l r) t (part-right l r) i.0.0, (part-trans l (Beside l r) t (part-left l r) i.0.0, i.0.1)), i.1)
grown-parts f [] (token.Above ∷ ts) t h = grown-parts f [] ts t h
grown-parts f (r ∷ []) (token.Above ∷ ts) t h = grown-parts f (r ∷ []) ts t h
grown-parts f (r ∷ l ∷ stack) (token.Above ∷ ts) t h =
    let i = grown-parts f (Above l r ∷ stack) ts t h in
    ((part-trans r (Above l r) t (part-upper l r) i.0.0, (part-trans l (Above l r) t (part-lower l r) i.0.0, i.0.1)), i.1)

-- two rooms side by side have no more area than a room as high as the higher one
beside-most : (a b h k m : ℕ) → h ≤ m → k ≤ m → a * h + b * k ≤ (a + b) * m
beside-most a b h k m hm km = omega (arith, mul-le-mul_left a hm, mul-le-mul_left b km)

-- two rooms one above the other have no more area than a room as wide as the wider one
above-most : (a b h k m : ℕ) → a ≤ m → b ≤ m → a * h + b * k ≤ m * (h + k)
above-most a b h k m am bm = omega (arith, mul-le-mul_right h am, mul-le-mul_right k bm)

-- a plan in place of two others, which have no more area together, leaves no less on the stack
joined-area : (joined l r : Tree) (stack : List Tree) (n m : ℕ) → area l + area r ≤ area joined → sum_by area (joined ∷ stack) + n ≤ m → sum_by area (r ∷ l ∷ stack) + n ≤ m
joined-area joined l r stack n m more h =
    omega (arith, sum_by-cons area r (l ∷ stack), sum_by-cons area l stack, sum_by-cons area joined stack, more, h)

-- the area of a block in its shape
abbrev pub own_area : (ℕ → Shape) → ℕ → ℕ
own_area f b = (f b).w * (f b).h

-- the plans of the stack and the blocks that follow have no more area than what they become
pub grown-area : (f : ℕ → Shape) (stack : List Tree) (ts : List Token) → sum_by area stack + sum_by (own_area f) (blocks_of ts) ≤ sum_by area (grow f stack ts)
grown-area f stack [] = omega arith
grown-area f [] (token.Block b ∷ ts) =
    omega (arith, sum_by-cons (own_area f) b (blocks_of ts), sum_by-cons area (Leaf b (f b)) [], grown-area f (Leaf b (f b) ∷ []) ts)
grown-area f (r ∷ stack) (token.Block b ∷ ts) =
    omega (arith, sum_by-cons (own_area f) b (blocks_of ts), sum_by-cons area (Leaf b (f b)) (r ∷ stack), grown-area f (Leaf b (f b) ∷ r ∷ stack) ts)
grown-area f [] (token.Beside ∷ ts) = grown-area f [] ts
grown-area f (r ∷ []) (token.Beside ∷ ts) = grown-area f (r ∷ []) ts
grown-area f (r ∷ l ∷ stack) (token.Beside ∷ ts) =
    joined-area (Beside l r) l r stack (sum_by (own_area f) (blocks_of ts)) (sum_by area (grow f (Beside l r ∷ stack) ts))
    (beside-most (width l) (width r) (height l) (height r) (max (height l) (height r)) (omega arith) (omega arith)) (grown-area f (Beside l r ∷ stack) ts)
grown-area f [] (token.Above ∷ ts) = grown-area f [] ts
grown-area f (r ∷ []) (token.Above ∷ ts) = grown-area f (r ∷ []) ts
grown-area f (r ∷ l ∷ stack) (token.Above ∷ ts) =
    joined-area (Above l r) l r stack (sum_by (own_area f) (blocks_of ts)) (sum_by area (grow f (Above l r ∷ stack) ts))
    (above-most (width l) (width r) (height l) (height r) (max (width l) (width r)) (omega arith) (omega arith)) (grown-area f (Above l r ∷ stack) ts)

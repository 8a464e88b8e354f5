-- The tree that an expression stands for, by reading its tokens onto a stack of trees.
use Rattle.std.proofs.Common.{◌≡◌, ℕ, ◌+◌, ◌-◌, List, [], ◌∷◌, ◌++◌, length, append_assoc, append-nil, arith, refl, ap, sym, subst, ◌∙◌, false}
use Rattle.sf_polish.proofs.Common.{⊤, AllByRecursion, All-from_recursion, recursion_from_All, Shape, Tree, Leaf, Beside, Above, leaves, each-append, each-left, each-right, Expr, Token, same_operator, postfix, is_beside, is_above, IsSkewed, shape_at, Spells}
use Rattle.sf_polish.specs.declared.expr.Token.TheVariants as token
use Rattle.sf_polish.proofs.Stack.{Reads, Alternating, top}

-- the trees after the tokens, the last first
abbrev pub parse : List Shape → List Tree → List Token → List Tree
parse shapes stack [] = stack
parse shapes stack (token.Block b ∷ ts) = parse shapes (Leaf b (shape_at shapes b) ∷ stack) ts
parse shapes (r ∷ l ∷ stack) (token.Beside ∷ ts) = parse shapes (Beside l r ∷ stack) ts
parse shapes (r ∷ l ∷ stack) (token.Above ∷ ts) = parse shapes (Above l r ∷ stack) ts
parse shapes stack (t ∷ ts) = parse shapes stack ts

-- each leaf finds its shape in the list
abbrev pub HasShapes : List Shape → Tree → Type 0
HasShapes shapes tree = AllByRecursion (λ leaf. leaf.1 ≡ shape_at shapes leaf.0) (leaves tree)

-- reading the postfix of a tree puts the tree on the stack
pub parse-postfix : (shapes : List Shape) (t : Tree) (stack : List Tree) (rest : List Token) → HasShapes shapes t → parse shapes stack (postfix t ++ rest) ≡ parse shapes (t ∷ stack) rest
parse-postfix shapes (Leaf b s) stack rest h = ap (λ z. parse shapes (Leaf b z ∷ stack) rest) (sym h.0)
parse-postfix shapes (Beside l r) stack rest h =
    ap (parse shapes stack) (append_assoc (postfix l ++ postfix r) (token.Beside ∷ []) rest ∙ append_assoc (postfix l) (postfix r) (token.Beside ∷ rest))
    ∙ parse-postfix shapes l stack (postfix r ++ (token.Beside ∷ rest)) (each-left _ (leaves l) (leaves r) h)
    ∙ parse-postfix shapes r (l ∷ stack) (token.Beside ∷ rest) (each-right _ (leaves l) (leaves r) h)
parse-postfix shapes (Above l r) stack rest h =
    ap (parse shapes stack) (append_assoc (postfix l ++ postfix r) (token.Above ∷ []) rest ∙ append_assoc (postfix l) (postfix r) (token.Above ∷ rest))
    ∙ parse-postfix shapes l stack (postfix r ++ (token.Above ∷ rest)) (each-left _ (leaves l) (leaves r) h)
    ∙ parse-postfix shapes r (l ∷ stack) (token.Above ∷ rest) (each-right _ (leaves l) (leaves r) h)

-- the tokens of an expression that spells a plan are parsed to that plan
pub parse-spelled : (expr : Expr) (t : Tree) → Spells expr t → parse expr.shapes [] expr.tokens ≡ t ∷ []
parse-spelled expr t spells =
    ap (parse expr.shapes []) (sym spells.tokens ∙ sym (append-nil (postfix t)))
    ∙ parse-postfix expr.shapes t [] [] (recursion_from_All (λ leaf. leaf.1 ≡ shape_at expr.shapes leaf.0) (leaves t) spells.shapes)

-- lists of one plan are equal only where the plans are
one-same : (s t : Tree) → ◌≡◌ {A = List Tree} (s ∷ []) (t ∷ []) → s ≡ t
one-same s t e = cc

-- an expression stands for one tree at most
pub spells-one : (expr : Expr) (s t : Tree) → Spells expr s → Spells expr t → s ≡ t
spells-one expr s t a b = one-same s t (sym (parse-spelled expr s a) ∙ parse-spelled expr t b)

-- the tokens of the trees on a stack
abbrev postfixes : List Tree → List Token
postfixes [] = []
postfixes (t ∷ ts) = postfixes ts ++ postfix t

-- the trees of the stack are skewed and have these shapes, and p is the last token
abbrev IsStack : List Shape → Token → List Tree → Type 0
IsStack shapes p [] = ⊤
IsStack shapes p (t ∷ ts) = (top t ≡ p) × AllByRecursion (λ s. IsSkewed s × HasShapes shapes s) (t ∷ ts)

-- reading keeps the tokens, the number of trees, the skew and the shapes
record Read (shapes : List Shape) (before : List Token) (stack : List Tree) (g : ℕ) : Type 0 where
  count : length stack ≡ g
  tokens : postfixes stack ≡ before
  good : AllByRecursion (λ s. IsSkewed s × HasShapes shapes s) stack

-- a plan whose last token is no Beside is no Beside
free_right : (r : Tree) (p : Token) → top r ≡ p → same_operator p token.Beside ≡ false → is_beside r ≡ false
free_right (Leaf b s) p e h = refl
free_right (Beside l r) p e h = ap (λ z. same_operator z token.Beside) e ∙ h
free_right (Above l r) p e h = refl

-- a plan whose last token is no Above is no Above
free_upper : (r : Tree) (p : Token) → top r ≡ p → same_operator p token.Above ≡ false → is_above r ≡ false
free_upper (Leaf b s) p e h = refl
free_upper (Beside l r) p e h = refl
free_upper (Above l r) p e h = ap (λ z. same_operator z token.Above) e ∙ h

-- tokens that can be read are parsed to skewed plans whose postfixes they are
reading : (shapes : List Shape) (ts : List Token) (p : Token) (stack : List Tree) (before : List Token) (h g : ℕ) → length stack ≡ h → postfixes stack ≡ before → IsStack shapes p stack → Alternating p ts → Reads h ts g → Read shapes (before ++ ts) (parse shapes stack ts) g
reading shapes [] p [] before h g n e k a r = record { count = n ∙ r; tokens = e ∙ sym (append-nil before); good = tt }
reading shapes [] p (t ∷ stack) before h g n e k a r = record { count = n ∙ r; tokens = e ∙ sym (append-nil before); good = k.1 }
reading shapes (token.Block b ∷ ts) p [] before h g n e k a r =
    subst (λ z. Read shapes z (parse shapes (Leaf b (shape_at shapes b) ∷ []) ts) g) (append_assoc before (token.Block b ∷ []) ts)
    (reading shapes ts (token.Block b) (Leaf b (shape_at shapes b) ∷ []) (before ++ token.Block b ∷ []) (h + 1) g (omega (arith, n)) (ap (λ z. z ++ token.Block b ∷ []) e) (refl, ((tt, (refl, tt)), tt)) a.1 r)
reading shapes (token.Block b ∷ ts) p (t ∷ stack) before h g n e k a r =
    subst (λ z. Read shapes z (parse shapes (Leaf b (shape_at shapes b) ∷ t ∷ stack) ts) g) (append_assoc before (token.Block b ∷ []) ts)
    (reading shapes ts (token.Block b) (Leaf b (shape_at shapes b) ∷ t ∷ stack) (before ++ token.Block b ∷ []) (h + 1) g (omega (arith, n)) (ap (λ z. z ++ token.Block b ∷ []) e) (refl, ((tt, (refl, tt)), k.1)) a.1 r)
reading shapes (token.Beside ∷ ts) p [] before h g n e k a r = absurd (omega (arith, n, r.0))
reading shapes (token.Beside ∷ ts) p (t ∷ []) before h g n e k a r = absurd (omega (arith, n, r.0))
reading shapes (token.Beside ∷ ts) p (t ∷ l ∷ stack) before h g n e k a r =
    subst (λ z. Read shapes z (parse shapes (Beside l t ∷ stack) ts) g) (append_assoc before (token.Beside ∷ []) ts)
    (reading shapes ts token.Beside (Beside l t ∷ stack) (before ++ token.Beside ∷ []) (h - 1) g (omega (arith, n, r.0))
    (sym (append_assoc (postfixes stack) (postfix l ++ postfix t) (token.Beside ∷ [])) ∙ ap (λ z. z ++ token.Beside ∷ []) (sym (append_assoc (postfixes stack) (postfix l) (postfix t)) ∙ e))
    (refl, (((k.1.1.0.0, k.1.0.0, free_right t p k.0 a.0), each-append _ (leaves l) (leaves t) k.1.1.0.1 k.1.0.1), k.1.1.1)) a.1 r.1)
reading shapes (token.Above ∷ ts) p [] before h g n e k a r = absurd (omega (arith, n, r.0))
reading shapes (token.Above ∷ ts) p (t ∷ []) before h g n e k a r = absurd (omega (arith, n, r.0))
reading shapes (token.Above ∷ ts) p (t ∷ l ∷ stack) before h g n e k a r =
    subst (λ z. Read shapes z (parse shapes (Above l t ∷ stack) ts) g) (append_assoc before (token.Above ∷ []) ts)
    (reading shapes ts token.Above (Above l t ∷ stack) (before ++ token.Above ∷ []) (h - 1) g (omega (arith, n, r.0))
    (sym (append_assoc (postfixes stack) (postfix l ++ postfix t) (token.Above ∷ [])) ∙ ap (λ z. z ++ token.Above ∷ []) (sym (append_assoc (postfixes stack) (postfix l) (postfix t)) ∙ e))
    (refl, (((k.1.1.0.0, k.1.0.0, free_upper t p k.0 a.0), each-append _ (leaves l) (leaves t) k.1.1.0.1 k.1.0.1), k.1.1.1)) a.1 r.1)

-- tokens that read to one item and alternate stand for a skewed tree
pub record IsSkewedTreeOf (expr : Expr) (tree : Tree) : Type 0 where
  pub spells : Spells expr tree
  pub skewed : IsSkewed tree
  pub parsed : parse expr.shapes [] expr.tokens ≡ tree ∷ []

-- where the parse leaves one plan, the expression stands for that skewed plan
only-one : (expr : Expr) (stack : List Tree) → parse expr.shapes [] expr.tokens ≡ stack → Read expr.shapes expr.tokens stack 1 → (tree : Tree) × IsSkewedTreeOf expr tree
only-one expr [] p read = absurd (omega (arith, read.count))
only-one expr (t ∷ []) p read = (t, record { spells = record { tokens = read.tokens; shapes = All-from_recursion _ (leaves t) read.good.0.1 }; skewed = read.good.0.0; parsed = p })
only-one expr (t ∷ u ∷ stack) p read = absurd (omega (arith, read.count))

-- an expression that can be read to one plan and alternates stands for a skewed plan
pub spelled-tree : (expr : Expr) → Alternating (token.Block 0) expr.tokens → Reads 0 expr.tokens 1 → (tree : Tree) × IsSkewedTreeOf expr tree
spelled-tree expr a r =
    only-one expr (parse expr.shapes [] expr.tokens) refl (reading expr.shapes expr.tokens (token.Block 0) [] [] 0 1 refl refl tt a r)

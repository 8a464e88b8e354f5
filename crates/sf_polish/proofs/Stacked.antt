-- The steps of reading tokens onto a list of plans, whose last is the top.
use Rattle.std.proofs.Common.{◌≡◌, ℕ, suc, ◌+◌, ◌-◌, ◌<◌, ◌≤◌, List, [], ◌∷◌, ◌++◌, length, drop, get_or, length-append, arith, refl, ap, sym, subst, ◌∙◌}
use Rattle.std.proofs.Math.ListN.{drop_of_length-le}
use Rattle.sf_polish.proofs.Common.{Shape, Tree, Leaf, Beside, Above, tree_of, Token, shape_at, Expr, IsNormal, drop-cons}
use Rattle.sf_model.specs.declared.plan.Plan.{Plan}
use Rattle.sf_polish.specs.declared.expr.Token.TheVariants as token
use Rattle.sf_polish.proofs.Stack.{Reads}
use Rattle.sf_polish.proofs.Spelling.{parse, IsSkewedTreeOf}
use Rattle.sf_polish.proofs.Normality.{normal-spelled}

-- the trees of the plans, the last first, before some trees
abbrev pub trees : List Plan → List Tree → List Tree
trees [] below = below
trees (p ∷ ps) below = trees ps (tree_of p ∷ below)

-- a plan that is pushed is the top of the stack's trees
trees-push : (ps : List Plan) (p : Plan) (below : List Tree) → trees (ps ++ p ∷ []) below ≡ tree_of p ∷ trees ps below
trees-push [] p below = refl
trees-push (x ∷ ps) p below = trees-push ps p (tree_of x ∷ below)

-- what is left to read makes one tree of the stack, and it is the tree of all tokens
pub record IsReading (shapes : List Shape) (tokens : List Token) (stack : List Plan) (i : ℕ) : Type 0 where
  pub reads : Reads (length stack) (drop i tokens) 1
  pub parsed : parse shapes (trees stack []) (drop i tokens) ≡ parse shapes [] tokens

-- what is left from a place on begins with the token there
next : (tokens : List Token) (i : ℕ) (d t : Token) → i < length tokens → get_or tokens i d ≡ t → drop i tokens ≡ t ∷ drop (i + 1) tokens
next tokens i d t h e =
    let n : suc i ≡ i + 1 = omega arith in
    drop-cons tokens i d h ∙ ap (λ x. x ∷ drop (suc i) tokens) e ∙ ap (λ k. t ∷ drop k tokens) n

module _ (shapes : List Shape) (tokens : List Token) (i : ℕ) (h : i < length tokens) (first : Token) where
  -- a block's leaf is pushed, and the reading goes on behind the block
  pub reading-block : (stack : List Plan) (b : ℕ) (p : Plan) → IsReading shapes tokens stack i → get_or tokens i first ≡ token.Block b → tree_of p ≡ Leaf b (shape_at shapes b) → IsReading shapes tokens (stack ++ p ∷ []) (i + 1)
  reading-block stack b p r e q =
      let d = next tokens i first (token.Block b) h e in
      record {
        reads = subst (λ n. Reads n (drop (i + 1) tokens) 1) (sym (length-append stack (p ∷ []))) (subst (λ z. Reads (length stack) z 1) d r.reads);
        parsed = ap (λ z. parse shapes z (drop (i + 1) tokens)) (trees-push stack p [] ∙ ap (λ z. z ∷ trees stack []) q) ∙ sym (ap (parse shapes (trees stack [])) d) ∙ r.parsed;
      }

  -- two items are on top
  pub reading-two : (stack : List Plan) (t : Token) → IsReading shapes tokens stack i → get_or tokens i first ≡ t → (Reads (length stack) (t ∷ drop (i + 1) tokens) 1 → 2 ≤ length stack) → 2 ≤ length stack
  reading-two stack t r e two = two (subst (λ z. Reads (length stack) z 1) (next tokens i first t h e) r.reads)

  -- the plan of the two topmost leaves one fewer on the stack
  one-less : (below : List Plan) (l r p : Plan) → length ((below ++ l ∷ []) ++ r ∷ []) - 1 ≡ length (below ++ p ∷ [])
  one-less below l r p = omega (arith, length-append (below ++ l ∷ []) (r ∷ []), length-append below (l ∷ []), length-append below (p ∷ []))

  -- the trees of a stack begin with those of its two topmost plans
  two-trees : (below : List Plan) (l r : Plan) → trees ((below ++ l ∷ []) ++ r ∷ []) [] ≡ tree_of r ∷ tree_of l ∷ trees below []
  two-trees below l r = trees-push (below ++ l ∷ []) r [] ∙ ap (λ z. tree_of r ∷ z) (trees-push below l [])

  -- the two topmost plans become one plan, where the operator makes it of their trees, and the reading goes on behind the operator
  reading-joined : (below : List Plan) (l r p : Plan) (t : Token) → IsReading shapes tokens ((below ++ l ∷ []) ++ r ∷ []) i → get_or tokens i first ≡ t
      → ((n : ℕ) → Reads n (t ∷ drop (i + 1) tokens) 1 → Reads (n - 1) (drop (i + 1) tokens) 1)
      → parse shapes (tree_of r ∷ tree_of l ∷ trees below []) (t ∷ drop (i + 1) tokens) ≡ parse shapes (tree_of p ∷ trees below []) (drop (i + 1) tokens)
      → IsReading shapes tokens (below ++ p ∷ []) (i + 1)
  reading-joined below l r p t k e taken made =
      let d = next tokens i first t h e in
      let s : Reads (length ((below ++ l ∷ []) ++ r ∷ [])) (t ∷ drop (i + 1) tokens) 1 = subst (λ z. Reads (length ((below ++ l ∷ []) ++ r ∷ [])) z 1) d k.reads in
      record {
        reads = subst (λ n. Reads n (drop (i + 1) tokens) 1) (one-less below l r p) (taken _ s);
        parsed = ap (λ z. parse shapes z (drop (i + 1) tokens)) (trees-push below p []) ∙ sym made
            ∙ sym (ap (λ z. parse shapes z (t ∷ drop (i + 1) tokens)) (two-trees below l r)) ∙ sym (ap (parse shapes (trees ((below ++ l ∷ []) ++ r ∷ []) [])) d) ∙ k.parsed;
      }

  -- the same of a stack that is known by its push
  pub block-step : (stack new : List Plan) (b : ℕ) (p : Plan) → IsReading shapes tokens stack i → get_or tokens i first ≡ token.Block b → new ≡ stack ++ p ∷ [] → tree_of p ≡ Leaf b (shape_at shapes b) → IsReading shapes tokens new (i + 1)
  block-step stack new b p r e n q = subst (λ z. IsReading shapes tokens z (i + 1)) (sym n) (reading-block stack b p r e q)

  -- a stack from which two plans were taken is read as with them on top
  both : (stack mid below : List Plan) (l r : Plan) → IsReading shapes tokens stack i → stack ≡ mid ++ r ∷ [] → mid ≡ below ++ l ∷ [] → IsReading shapes tokens ((below ++ l ∷ []) ++ r ∷ []) i
  both stack mid below l r k u v = subst (λ z. IsReading shapes tokens z i) (u ∙ ap (λ z. z ++ r ∷ []) v) k

  -- the plan side by side of the two that were taken is pushed in their place
  pub beside-step : (stack mid below new : List Plan) (l r p : Plan) → IsReading shapes tokens stack i → get_or tokens i first ≡ token.Beside → stack ≡ mid ++ r ∷ [] → mid ≡ below ++ l ∷ [] → new ≡ below ++ p ∷ [] → tree_of p ≡ Beside (tree_of l) (tree_of r) → IsReading shapes tokens new (i + 1)
  beside-step stack mid below new l r p k e u v n q =
      subst (λ z. IsReading shapes tokens z (i + 1)) (sym n)
      (reading-joined below l r p token.Beside (both stack mid below l r k u v) e (λ n s. s.1) (ap (λ z. parse shapes (z ∷ trees below []) (drop (i + 1) tokens)) (sym q)))

  -- the plan one above the other of the two that were taken is pushed in their place
  pub above-step : (stack mid below new : List Plan) (l r p : Plan) → IsReading shapes tokens stack i → get_or tokens i first ≡ token.Above → stack ≡ mid ++ r ∷ [] → mid ≡ below ++ l ∷ [] → new ≡ below ++ p ∷ [] → tree_of p ≡ Above (tree_of l) (tree_of r) → IsReading shapes tokens new (i + 1)
  above-step stack mid below new l r p k e u v n q =
      subst (λ z. IsReading shapes tokens z (i + 1)) (sym n)
      (reading-joined below l r p token.Above (both stack mid below l r k u v) e (λ n s. s.1) (ap (λ z. parse shapes (z ∷ trees below []) (drop (i + 1) tokens)) (sym q)))

-- from an empty stack tokens that can be read to one plan are read
pub reading-start : (shapes : List Shape) (tokens : List Token) (stack : List Plan) → stack ≡ [] → Reads 0 tokens 1 → IsReading shapes tokens stack 0
reading-start shapes tokens stack e r = subst (λ z. IsReading shapes tokens z 0) (sym e) (record { reads = r; parsed = refl })

-- where all is read, one plan is left
pub reading-end : (shapes : List Shape) (tokens : List Token) (stack : List Plan) (i : ℕ) → length tokens ≤ i → IsReading shapes tokens stack i → (length stack ≡ 1) × (trees stack [] ≡ parse shapes [] tokens)
reading-end shapes tokens stack i h r =
    let e = drop_of_length-le tokens h in
    (subst (λ z. Reads (length stack) z 1) e r.reads, sym (ap (parse shapes (trees stack [])) e) ∙ r.parsed)

-- where a list that begins with a plan is a list of one plan, it is that plan
first-same : (s t : Tree) (ss : List Tree) → ◌≡◌ {A = List Tree} (s ∷ ss) (t ∷ []) → t ≡ s
first-same s t ss e = cc

-- and it is what the expression stands for
pub reading-result : (expr : Expr) (blocks : ℕ) (shapes : List Shape) (tokens : List Token) (stack below : List Plan) (p : Plan) (i : ℕ) → shapes ≡ expr.shapes → tokens ≡ expr.tokens → IsNormal blocks expr.tokens → length tokens ≤ i → IsReading shapes tokens stack i → stack ≡ below ++ p ∷ [] → IsSkewedTreeOf expr (tree_of p)
reading-result expr blocks shapes tokens stack below p i es et normal h r e =
    let found = normal-spelled blocks expr normal in
    let last = reading-end shapes tokens stack i h r in
    let one : tree_of p ∷ trees below [] ≡ found.0 ∷ [] =
    sym (trees-push below p []) ∙ sym (ap (λ z. trees z []) e) ∙ last.1 ∙ ap (λ z. parse z [] tokens) es ∙ ap (λ z. parse expr.shapes [] z) et ∙ found.1.parsed in
    subst (IsSkewedTreeOf expr) (first-same (tree_of p) found.0 (trees below []) one) found.1

-- below the top of a stack of at least two plans there is one more
pub last-left : (stack below : List Plan) (p : Plan) → 2 ≤ length stack → stack ≡ below ++ p ∷ [] → 0 < length below
last-left stack below p h e = omega (arith, ap length e, length-append below (p ∷ []))

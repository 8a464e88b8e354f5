-- The children so far, after the operators and the blocks below k.
use Rattle.std.proofs.Common.{◌≡◌, ℕ, suc, ◌+◌, List, [], ◌∷◌, ◌++◌, map, length, append_assoc, append-nil, arith, refl, ap, sym, ◌∙◌, Bool, true, false, cond}
use Rattle.sf_node.proofs.Common.{zero, filter, range_with_len, map-append, Token, Parts, after, step_of, when, may_join, is_unused, extended}
use Rattle.sf_polish.specs.declared.expr.Token.TheVariants as token

-- the tokens that may come next, of blocks those below k
abbrev pub tokens_below : Parts → ℕ → List Token
tokens_below node k =
    when (may_join token.Beside node.tokens) token.Beside
    ++ when (may_join token.Above node.tokens) token.Above
    ++ map (λ b. token.Block b) (filter (λ b. is_unused b node.tokens) (range_with_len 0 k))

-- these are the children so far
pub record IsGrown (node : Parts) (children : List Parts) (k : ℕ) : Type 0 where
  pub is : children ≡ map (λ t. after node (step_of t)) (tokens_below node k)

-- a choice of a first element and what follows
spread : (b : Bool) (x : ℕ) (xs ys : List ℕ) → cond b (x ∷ (xs ++ ys)) (xs ++ ys) ≡ cond b (x ∷ xs) xs ++ ys
spread true x xs ys = refl
spread false x xs ys = refl

-- what passes a test in a range of one more
pub filter-more : (p : ℕ → Bool) (a n : ℕ) → filter p (range_with_len a (n + 1)) ≡ filter p (range_with_len a n) ++ cond (p (a + n)) ((a + n) ∷ []) []
filter-more p a zero = let e : a + 0 ≡ a = omega arith in ap (λ z. cond (p z) (z ∷ []) []) (sym e)
filter-more p a (suc n) =
    let e : suc n + 1 ≡ suc (n + 1) = omega arith in
    let f : (a + 1) + n ≡ a + suc n = omega arith in
    ap (λ z. filter p (range_with_len a z)) e
    ∙ ap (λ z. cond (p a) (a ∷ z) z) (filter-more p (a + 1) n ∙ ap (λ z. filter p (range_with_len (a + 1) n) ++ cond (p z) (z ∷ []) []) f)
    ∙ spread (p a) a (filter p (range_with_len (a + 1) n)) (cond (p (a + suc n)) ((a + suc n) ∷ []) [])

-- the tokens that may come with one block more
below-more : (node : Parts) (k : ℕ) → tokens_below node (k + 1) ≡ tokens_below node k ++ map (λ b. token.Block b) (cond (is_unused k node.tokens) (k ∷ []) [])
below-more node k =
    let p : ℕ → Bool = λ b. is_unused b node.tokens in
    let ops = when (may_join token.Beside node.tokens) token.Beside ++ when (may_join token.Above node.tokens) token.Above in
    let z : 0 + k ≡ k = omega arith in
    ap (λ xs. ops ++ map (λ b. token.Block b) xs) (filter-more p 0 k ∙ ap (λ n. filter p (range_with_len 0 k) ++ cond (p n) (n ∷ []) []) z)
    ∙ ap (λ xs. ops ++ xs) (map-append (λ (b : ℕ). token.Block b) (filter p (range_with_len 0 k)) (cond (p k) (k ∷ []) []))
    ∙ sym (append_assoc ops (map (λ b. token.Block b) (filter p (range_with_len 0 k))) (map (λ b. token.Block b) (cond (p k) (k ∷ []) [])))

-- a block that isn't there yet brings its child
pub grown-yes : (node : Parts) (children more : List Parts) (child : Parts) (k : ℕ) → is_unused k node.tokens ≡ true → IsGrown node children k → child ≡ after node (step_of (token.Block k)) → more ≡ children ++ child ∷ [] → IsGrown node more (k + 1)
grown-yes node children more child k u g c m = record {
  is = m ∙ ap (λ z. z ++ child ∷ []) g.is ∙ ap (λ z. map (λ t. after node (step_of t)) (tokens_below node k) ++ z ∷ []) c
      ∙ sym (ap (λ ts. map (λ t. after node (step_of t)) ts) (below-more node k ∙ ap (λ b. tokens_below node k ++ map (λ b. token.Block b) (cond b (k ∷ []) [])) u)
      ∙ map-append (λ (t : Token). after node (step_of t)) (tokens_below node k) (token.Block k ∷ []));
}

-- a block that is there brings none
pub grown-no : (node : Parts) (children more : List Parts) (k : ℕ) → is_unused k node.tokens ≡ false → IsGrown node children k → more ≡ children → IsGrown node more (k + 1)
grown-no node children more k u g m = record {
  is = m ∙ g.is ∙ sym (ap (λ ts. map (λ t. after node (step_of t)) ts) (below-more node k ∙ ap (λ b. tokens_below node k ++ map (λ b. token.Block b) (cond b (k ∷ []) [])) u ∙ append-nil (tokens_below node k)));
}

-- after all blocks these are all children
pub grown-all : (node : Parts) (children : List Parts) (k : ℕ) → k ≡ length node.spans → IsGrown node children k → children ≡ extended node
grown-all node children k e g = g.is ∙ ap (λ n. map (λ t. after node (step_of t)) (tokens_below node n)) e

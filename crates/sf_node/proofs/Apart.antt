-- No plan belongs to two children of a subproblem by extending.
use Rattle.std.proofs.Common.{◌≡◌, ℕ, ◌+◌, ◌<◌, ◌≤◌, List, [], ◌∷◌, ◌++◌, length, map, take, length-append, arith, refl, ap, sym, subst, ◌∙◌, Bool, true, false}
use Rattle.sf_node.proofs.Common.{append_cancel_left, filter, AllPairs, AllByRecursion, range_with_len, Design, Tree, block_count, Any-from_recursion, EachPair, EachPair-append, EachPair-map, EachPair-filter, EachPair-range, EachPair-weaker, AllPairs-from_recursion, each-append, each-map, each-filter, each-range, Token, postfix, Parts, Belongs, is_complete, may_join, is_unused, when, next_tokens, step_of, after, extended, BelongsToOne}
use Rattle.sf_polish.specs.declared.expr.Token.TheVariants as token
use Rattle.sf_node.proofs.Cover.{extended-some}

-- a number for each token, no two alike
unfoldable pub rank : Token → ℕ
rank token.Beside = 0
rank token.Above = 1
rank (token.Block b) = b + 2

-- a child by a token has it behind the others
tokens-after : (node : Parts) (t : Token) → (after node (step_of t)).tokens ≡ node.tokens ++ t ∷ []
tokens-after node token.Beside = refl
tokens-after node token.Above = refl
tokens-after node (token.Block b) = refl

-- the one elements of equal lists are the same
head-same : (s t : Token) → ◌≡◌ {A = List Token} (s ∷ []) (t ∷ []) → s ≡ t
head-same s t e = cc

-- children that have a plan in common come by the same token
same-token : (design : Design) (node : Parts) (tree : Tree) (s t : Token) → Belongs design (after node (step_of s)) tree → Belongs design (after node (step_of t)) tree → s ≡ t
same-token design node tree s t a b =
    let p : take (length (node.tokens ++ s ∷ [])) (postfix tree) ≡ node.tokens ++ s ∷ [] = subst (λ z. take (length z) (postfix tree) ≡ z) (tokens-after node s) a.begins in
    let q : take (length (node.tokens ++ t ∷ [])) (postfix tree) ≡ node.tokens ++ t ∷ [] = subst (λ z. take (length z) (postfix tree) ≡ z) (tokens-after node t) b.begins in
    let n : length (node.tokens ++ s ∷ []) ≡ length (node.tokens ++ t ∷ []) = length-append node.tokens (s ∷ []) ∙ sym (length-append node.tokens (t ∷ [])) in
    head-same s t (append_cancel_left node.tokens (s ∷ []) (t ∷ []) (sym p ∙ ap (λ k. take k (postfix tree)) n ∙ q))

-- what holds of a token holds of each of the list of it, if it is there
each-when : (P : Token → Type 0) (b : Bool) (t : Token) → P t → AllByRecursion P (when b t)
each-when P true t p = (p, tt)
each-when P false t p = tt

-- the list of one token has no two
pair-when : (R : Token → Token → Type 0) (b : Bool) (t : Token) → EachPair R (when b t)
pair-when R true t = (tt, tt)
pair-when R false t = tt

-- the tokens that may come next rise by their numbers
pub next-rising : (node : Parts) → EachPair (λ s t. rank s < rank t) (next_tokens node)
unfolding rank
next-rising node =
    let ts = node.tokens in
    EachPair-append (λ s t. rank s < rank t) (λ t. rank t < 2) (λ t. 2 ≤ rank t) (λ s t p q. omega (arith, p, q))
    (when (may_join token.Beside ts) token.Beside ++ when (may_join token.Above ts) token.Above)
    (map (λ b. token.Block b) (filter (λ b. is_unused b ts) (range_with_len 0 (length node.spans))))
    (EachPair-append (λ s t. rank s < rank t) (λ t. rank t < 1) (λ t. 1 ≤ rank t) (λ s t p q. omega (arith, p, q))
    (when (may_join token.Beside ts) token.Beside) (when (may_join token.Above ts) token.Above)
    (pair-when _ (may_join token.Beside ts) token.Beside) (pair-when _ (may_join token.Above ts) token.Above)
    (each-when _ (may_join token.Beside ts) token.Beside (omega arith)) (each-when _ (may_join token.Above ts) token.Above (omega arith)))
    (EachPair-map (λ s t. rank s < rank t) (λ b. token.Block b) (filter (λ b. is_unused b ts) (range_with_len 0 (length node.spans)))
    (EachPair-filter (λ a b. a + 2 < b + 2) (λ b. is_unused b ts) (range_with_len 0 (length node.spans))
    (EachPair-weaker (λ a b. a < b) (λ a b. a + 2 < b + 2) (λ a b h. omega arith) (range_with_len 0 (length node.spans)) (EachPair-range 0 (length node.spans)))))
    (each-append _ (when (may_join token.Beside ts) token.Beside) (when (may_join token.Above ts) token.Above)
    (each-when _ (may_join token.Beside ts) token.Beside (omega arith)) (each-when _ (may_join token.Above ts) token.Above (omega arith)))
    (each-map (λ t. 2 ≤ rank t) (λ b. token.Block b) (filter (λ b. is_unused b ts) (range_with_len 0 (length node.spans)))
    (each-filter (λ b. 2 ≤ b + 2) (λ b. is_unused b ts) (range_with_len 0 (length node.spans)) (each-range (λ b. 2 ≤ b + 2) 0 (length node.spans) (λ i h. omega arith))))

-- no plan belongs to two of the children
extended-no_two : (design : Design) (node : Parts) (tree : Tree) → AllPairs (λ a b. ¬ (Belongs design a tree × Belongs design b tree)) (extended node)
extended-no_two design node tree =
    AllPairs-from_recursion (λ a b. ¬ (Belongs design a tree × Belongs design b tree)) (extended node)
    (EachPair-map (λ a b. ¬ (Belongs design a tree × Belongs design b tree)) (λ t. after node (step_of t)) (next_tokens node)
    (EachPair-weaker (λ s t. rank s < rank t) (λ s t. ¬ (Belongs design (after node (step_of s)) tree × Belongs design (after node (step_of t)) tree)) (λ s t h both. let e = ap rank (same-token design node tree s t both.0 both.1) in absurd (omega arith)) (next_tokens node) (next-rising node)))

-- a plan of an incomplete subproblem belongs to exactly one of its children
pub extended-one : (design : Design) (node : Parts) (tree : Tree) → length node.spans ≡ block_count design → is_complete node ≡ false → Belongs design node tree → BelongsToOne design (extended node) tree
extended-one design node tree spans partly belongs = record {
  some = Any-from_recursion (λ child. Belongs design child tree) (extended node) (extended-some design node tree spans partly belongs);
  no_two = extended-no_two design node tree;
}

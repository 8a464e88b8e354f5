-- Each child of a subproblem of the design is one, and each skewed floorplan belongs to the root.
use Rattle.std.proofs.Common.{◌≡◌, ℕ, suc, ◌+◌, ◌<◌, ◌≤◌, List, [], ◌∷◌, ◌++◌, length, map, length-set, arith, refl, ap, sym, subst, ◌∙◌, Bool, true, false}
use Rattle.sf_node.proofs.Common.{zero, Contains, slice_range, filter, AllByRecursion, range_with_len, get_or-map, length-map, cond_both, recursion_from_All, All-from_recursion, Design, Shape, Tree, leaves, IsLegal, block_count, shapes_of, each-append, each-map, each-weaker, Token, IsSkewed, Step, Beside, Above, Block, Left, Right, Parts, Belongs, root, span_of, may_join, is_unused, when, next_tokens, step_of, after, extended, split, CanSplit, CanStep, CanWalk, walk, IsSubproblem, shapes_in}
use Rattle.sf_polish.specs.declared.expr.Token.TheVariants as token
use Rattle.sf_node.proofs.Halves.{InSpan, from_in_span, each-both}

-- a walk with one step more goes one step further
pub walk-append : (node : Parts) (ss : List Step) (s : Step) → walk node (ss ++ s ∷ []) ≡ after (walk node ss) s
walk-append node [] s = refl
walk-append node (x ∷ ss) s = walk-append (after node x) ss s

-- a walk can go on by a step that can be taken at its end
pub CanWalk-append : (node : Parts) (ss : List Step) (s : Step) → CanWalk node ss → CanStep (walk node ss) s → CanWalk node (ss ++ s ∷ [])
CanWalk-append node [] s w c = (c, tt)
CanWalk-append node (x ∷ ss) s w c = (w.0, CanWalk-append (after node x) ss s w.1 c)

-- a step stands behind those before it
pub steps-after : (node : Parts) (s : Step) → (after node s).steps ≡ node.steps ++ s ∷ []
steps-after node Beside = refl
steps-after node Above = refl
steps-after node (Block b) = refl
steps-after node (Left b) = refl
steps-after node (Right b) = refl

-- a child of a subproblem of the design is one
pub after-subproblem : (design : Design) (node : Parts) (s : Step) → IsSubproblem design node → CanStep node s → IsSubproblem design (after node s)
after-subproblem design node s sub can = record {
  reached = subst (CanWalk (root design)) (sym (steps-after node s)) (CanWalk-append (root design) node.steps s sub.reached (subst (λ n. CanStep n s) sub.is can));
  is = ap (λ n. after n s) sub.is ∙ sym (walk-append (root design) node.steps s) ∙ ap (walk (root design)) (sym (steps-after node s));
}

-- a step keeps the number of spans
pub spans-after : (node : Parts) (s : Step) → length (after node s).spans ≡ length node.spans
spans-after node Beside = refl
spans-after node Above = refl
spans-after node (Block b) = refl
spans-after node (Left b) = length-set node.spans b _
spans-after node (Right b) = length-set node.spans b _

-- a walk keeps the number of spans
spans-walk : (ss : List Step) (node : Parts) → length (walk node ss).spans ≡ length node.spans
spans-walk [] node = refl
spans-walk (s ∷ ss) node = spans-walk ss (after node s) ∙ spans-after node s

-- a subproblem has one span for each block
pub subproblem-spans : (design : Design) (node : Parts) → IsSubproblem design node → length node.spans ≡ block_count design
subproblem-spans design node sub =
    ap (λ n. length n.spans) sub.is ∙ spans-walk node.steps (root design) ∙ length-map design.blocks (λ block. (0, length block.shapes))

-- what holds of a token that may come holds of each of the list of it
each-when : (P : Token → Type 0) (b : Bool) (t : Token) → (b ≡ true → P t) → AllByRecursion P (when b t)
each-when P true t f = (f refl, tt)
each-when P false t f = tt

-- what holds of each that passes a test holds of all that are kept
pub each-passing : (P : ℕ → Type 0) (test : ℕ → Bool) (xs : List ℕ) → AllByRecursion (λ x. test x ≡ true → P x) xs → AllByRecursion P (filter test xs)
each-passing P test [] h = tt
each-passing P test (x ∷ xs) h = cond_both (test x) (x ∷ filter test xs) (filter test xs) (AllByRecursion P) (λ e. (h.0 e, each-passing P test xs h.1)) (λ e. each-passing P test xs h.1)

-- what holds of each number of a range holds of its elements
pub each-below : (P : ℕ → Type 0) (a n : ℕ) → ((i : ℕ) → a ≤ i → i < a + n → P i) → AllByRecursion P (range_with_len a n)
each-below P a zero f = tt
each-below P a (suc n) f = (f a (omega arith) (omega arith), each-below P (a + 1) n (λ i h k. f i (omega arith) (omega arith)))

-- each token that may come next gives a step that can be taken
pub next-can : (node : Parts) → AllByRecursion (λ t. CanStep node (step_of t)) (next_tokens node)
next-can node =
    let ts = node.tokens in
    let P : Token → Type 0 = λ t. CanStep node (step_of t) in
    each-append P (when (may_join token.Beside ts) token.Beside ++ when (may_join token.Above ts) token.Above) (map (λ b. token.Block b) (filter (λ b. is_unused b ts) (range_with_len 0 (length node.spans))))
    (each-append P (when (may_join token.Beside ts) token.Beside) (when (may_join token.Above ts) token.Above)
    (each-when P (may_join token.Beside ts) token.Beside (λ e. e)) (each-when P (may_join token.Above ts) token.Above (λ e. e)))
    (each-map P (λ b. token.Block b) (filter (λ b. is_unused b ts) (range_with_len 0 (length node.spans)))
    (each-passing (λ b. P (token.Block b)) (λ b. is_unused b ts) (range_with_len 0 (length node.spans))
    (each-below (λ b. is_unused b ts ≡ true → P (token.Block b)) 0 (length node.spans) (λ i h k e. (omega arith, e)))))

-- the children by extending are subproblems of the design
pub extended-subproblems : (design : Design) (node : Parts) → IsSubproblem design node → AllByRecursion (IsSubproblem design) (extended node)
extended-subproblems design node sub =
    each-map (IsSubproblem design) (λ t. after node (step_of t)) (next_tokens node)
    (each-weaker (λ t. CanStep node (step_of t)) (λ t. IsSubproblem design (after node (step_of t))) (λ t c. after-subproblem design node (step_of t) sub c) (next_tokens node) (next-can node))

-- the two halves are subproblems of the design
pub split-subproblems : (design : Design) (node : Parts) (b : ℕ) → IsSubproblem design node → CanSplit node b → AllByRecursion (IsSubproblem design) (split node b)
split-subproblems design node b sub can = (after-subproblem design node (Left b) sub can, (after-subproblem design node (Right b) sub can, tt))

-- the root is a subproblem of the design
pub root-subproblem : (design : Design) → IsSubproblem design (root design)
root-subproblem design = record { reached = tt; is = refl }

-- each shape of a block's list is in the span of the root
root-chosen : (design : Design) (leaf : ℕ × Shape) → leaf.0 < block_count design → Contains (shapes_of design leaf.0) leaf.1 → Contains (shapes_in design (root design).spans leaf.0) leaf.1
root-chosen design leaf inside c =
    let e : span_of (root design) leaf.0 ≡ (0, length (shapes_of design leaf.0)) = get_or-map (λ block. (0, length block.shapes)) design.blocks leaf.0 (record { name = []; shapes = [] }) (0, 0) inside in
    let stands : InSpan (shapes_of design leaf.0) 0 (length (shapes_of design leaf.0)) leaf.1 = record { at = c.0; low = omega arith; high = c.1; within = c.1; is = c.2 } in
    subst (λ z. Contains (slice_range (shapes_of design leaf.0) z.0 z.1) leaf.1) (sym e) (from_in_span (shapes_of design leaf.0) 0 (length (shapes_of design leaf.0)) leaf.1 stands)

-- each skewed floorplan belongs to the root
pub root-belongs : (design : Design) (tree : Tree) → IsSkewed tree → IsLegal design tree → Belongs design (root design) tree
root-belongs design tree skewed legal = record {
  skewed = skewed;
  legal = legal;
  begins = refl;
  chosen = All-from_recursion _ (leaves tree)
      (each-both (λ leaf. leaf.0 < block_count design) (λ leaf. Contains (shapes_of design leaf.0) leaf.1) (λ leaf. Contains (shapes_in design (root design).spans leaf.0) leaf.1)
      (root-chosen design) (leaves tree)
      (recursion_from_All (λ leaf. leaf.0 < block_count design) (leaves tree) legal.blocks.no_other)
      (recursion_from_All (λ leaf. Contains (shapes_of design leaf.0) leaf.1) (leaves tree) legal.listed));
}

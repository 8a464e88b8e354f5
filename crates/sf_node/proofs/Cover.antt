-- A plan of an incomplete subproblem belongs to exactly one of its children.
use Rattle.std.proofs.Common.{◌≡◌, ℕ, ◌+◌, ◌*◌, ◌<◌, ◌≤◌, List, [], ◌∷◌, ◌++◌, length, map, take, drop, append_assoc, length-take, length-drop, take-append-drop, cond, arith, refl, ap, sym, subst, ◌∙◌, ◌==◌, Bool, true, false, inl, inr}
use Rattle.sf_node.proofs.Common.{count_by, filter, AllByRecursion, range_with_len, and_from, le-leb, eq-eqb, ne_eqb, eqb-false, not_from_false, cases_lt, recursion_from_All, sum_by-cons, sum_by-append, Design, Tree, leaves, IsLegal, block_count, Some, Some-left, Some-right, Some-map, Some-filter, Some-range, Token, is_block, operands, operators, ends_in, postfix, Parts, Belongs, is_complete, may_join, is_unused, when, next_tokens, step_of, after, extended, length-leaves, two-before, another-before, count_by-postfix, length-postfix}
use Rattle.std.proofs.Math.Seq.{take-append_seam}
use Rattle.sf_polish.specs.declared.expr.Token.TheVariants as token

-- no element has a key that all keys are below
count-none : {X : Type 0} (key : X → ℕ) (n b : ℕ) → n ≤ b → (xs : List X) → AllByRecursion (λ x. key x < n) xs → count_by (λ x. key x == b) xs ≡ 0
count-none key n b h [] a = refl
count-none key n b h (x ∷ xs) a =
    let e : ◌≡◌ {A = ℕ} (cond (key x == b) 1 0) 0 = ap (λ (t : Bool). cond {A = ℕ} t 1 0) (ne_eqb (key x) b (λ k. absurd (omega (arith, a.0)))) in
    omega (arith, e, sum_by-cons (λ y. cond (key y == b) 1 0) x xs, count-none key n b h xs a.1)

-- the tokens, and what comes after them
module _ (design : Design) (node : Parts) (tree : Tree) (belongs : Belongs design node tree) where
  -- the tokens of the plan behind those of the subproblem
  rest_of : List Token
  rest_of = drop (length node.tokens) (postfix tree)

  -- the tokens of the plan are those of the subproblem and the rest
  seam : postfix tree ≡ node.tokens ++ rest_of
  unfolding rest_of
  seam = sym (take-append-drop (length node.tokens) (postfix tree)) ∙ ap (λ z. z ++ drop (length node.tokens) (postfix tree)) belongs.begins

  -- an incomplete subproblem leaves a rest
  some-rest : length node.spans ≡ block_count design → is_complete node ≡ false → 0 < length rest_of
  unfolding rest_of
  some-rest spans partly =
      let e = ap length belongs.begins in
      omega (
        arith,
        e,
        length-take (length node.tokens) (postfix tree),
        length-drop (length node.tokens) (postfix tree),
        length-postfix tree,
        length-leaves design tree belongs.legal,
        spans,
        eqb-false (length node.tokens + 1) (2 * length node.spans) partly,
      )

-- a block in the postfix is a block of the design that isn't there before
block-next : (design : Design) (tree : Tree) (ts rest : List Token) (b : ℕ) → IsLegal design tree → postfix tree ≡ ts ++ token.Block b ∷ rest → (b < block_count design) × (count_by (is_block b) ts ≡ 0)
block-next design tree ts rest b legal e =
    let one : ◌≡◌ {A = ℕ} (cond (b == b) 1 0) 1 = ap (λ (t : Bool). cond {A = ℕ} t 1 0) (eq-eqb b b refl) in
    let whole = ap (count_by (is_block b)) e in
    let parts = sum_by-append (λ x. cond (is_block b x) 1 0) ts (token.Block b ∷ rest) in
    let head = sum_by-cons (λ x. cond (is_block b x) 1 0) (token.Block b) rest in
    let total = count_by-postfix b tree in
    let below : b < block_count design =
    elim (cases_lt b (block_count design)) [
      | inl h ↦ h
      | inr h ↦ absurd (omega (arith, one, whole, parts, head, total, count-none (λ leaf. leaf.0) (block_count design) b h (leaves tree) (recursion_from_All (λ leaf. leaf.0 < block_count design) (leaves tree) legal.blocks.no_other)))
    ] in
    (below, omega (arith, one, whole, parts, head, total, legal.blocks.each_once b below))

-- the child of the next token has the plan
child-has : (design : Design) (node : Parts) (tree : Tree) (rest : List Token) (s : Token) → Belongs design node tree → postfix tree ≡ node.tokens ++ s ∷ rest → Belongs design (after node (step_of s)) tree
child-has design node tree rest s belongs e =
    let longer : take (length (node.tokens ++ s ∷ [])) (postfix tree) ≡ node.tokens ++ s ∷ [] =
    ap (take (length (node.tokens ++ s ∷ []))) (e ∙ sym (append_assoc node.tokens (s ∷ []) rest)) ∙ take-append_seam (node.tokens ++ s ∷ []) rest in
    elim s as (λ v. take (length (node.tokens ++ v ∷ [])) (postfix tree) ≡ node.tokens ++ v ∷ [] → Belongs design (after node (step_of v)) tree) [
      | token.Beside ↦ λ l. record { skewed = belongs.skewed; legal = belongs.legal; begins = l; chosen = belongs.chosen }
      | token.Above ↦ λ l. record { skewed = belongs.skewed; legal = belongs.legal; begins = l; chosen = belongs.chosen }
      | token.Block b ↦ λ l. record { skewed = belongs.skewed; legal = belongs.legal; begins = l; chosen = belongs.chosen }
    ] longer

-- a token that is there is one of the list of it
some-when : (P : Token → Type 0) (b : Bool) (t : Token) → b ≡ true → P t → Some P (when b t)
some-when P b t e p = subst (λ z. Some P (when z t)) (sym e) (inl p)

-- the next token is one of those that may come
next-is : (design : Design) (node : Parts) (tree : Tree) (rest : List Token) (s : Token) (P : Token → Type 0) → length node.spans ≡ block_count design → Belongs design node tree → postfix tree ≡ node.tokens ++ s ∷ rest → P s → Some P (next_tokens node)
next-is design node tree rest token.Beside P spans belongs e p =
    let ts = node.tokens in
    Some-left P (when (may_join token.Beside ts) token.Beside ++ when (may_join token.Above ts) token.Above) (map (λ b. token.Block b) (filter (λ b. is_unused b ts) (range_with_len 0 (length node.spans))))
    (Some-left P (when (may_join token.Beside ts) token.Beside) (when (may_join token.Above ts) token.Above)
    (some-when P (may_join token.Beside ts) token.Beside
    (and_from _ _ (le-leb (operators ts + 2) (operands ts) (two-before tree ts rest token.Beside refl e)) (not_from_false (ends_in token.Beside ts) (another-before tree ts rest token.Beside belongs.skewed e))) p))
next-is design node tree rest token.Above P spans belongs e p =
    let ts = node.tokens in
    Some-left P (when (may_join token.Beside ts) token.Beside ++ when (may_join token.Above ts) token.Above) (map (λ b. token.Block b) (filter (λ b. is_unused b ts) (range_with_len 0 (length node.spans))))
    (Some-right P (when (may_join token.Beside ts) token.Beside) (when (may_join token.Above ts) token.Above)
    (some-when P (may_join token.Above ts) token.Above
    (and_from _ _ (le-leb (operators ts + 2) (operands ts) (two-before tree ts rest token.Above refl e)) (not_from_false (ends_in token.Above ts) (another-before tree ts rest token.Above belongs.skewed e))) p))
next-is design node tree rest (token.Block b) P spans belongs e p =
    let ts = node.tokens in
    let n = block-next design tree ts rest b belongs.legal e in
    Some-right P (when (may_join token.Beside ts) token.Beside ++ when (may_join token.Above ts) token.Above) (map (λ b. token.Block b) (filter (λ b. is_unused b ts) (range_with_len 0 (length node.spans))))
    (Some-map P (λ b. token.Block b) (filter (λ b. is_unused b ts) (range_with_len 0 (length node.spans)))
    (Some-filter (λ b. P (token.Block b)) (λ b. is_unused b ts) (range_with_len 0 (length node.spans))
    (Some-range (λ b. (is_unused b ts ≡ true) × P (token.Block b)) 0 (length node.spans) b (omega arith) (omega (arith, n.0, spans)) (eq-eqb (count_by (is_block b) ts) 0 n.1, p))))

-- a plan of an incomplete subproblem belongs to some child
pub extended-some : (design : Design) (node : Parts) (tree : Tree) → length node.spans ≡ block_count design → is_complete node ≡ false → Belongs design node tree → Some (λ child. Belongs design child tree) (extended node)
extended-some design node tree spans partly belongs =
    let go : (rest : List Token) → postfix tree ≡ node.tokens ++ rest → 0 < length rest → Some (λ child. Belongs design child tree) (extended node) =
    λ rest. elim rest as (λ r. postfix tree ≡ node.tokens ++ r → 0 < length r → Some (λ child. Belongs design child tree) (extended node)) [
      | [] ↦ λ e h. absurd (omega arith)
      | s ∷ more ↦ λ e h. Some-map (λ child. Belongs design child tree) (λ t. after node (step_of t)) (next_tokens node)
          (next-is design node tree more s (λ t. Belongs design (after node (step_of t)) tree) spans belongs e (child-has design node tree more s belongs e))
    ] in
    go (rest_of design node tree belongs) (seam design node tree belongs) (some-rest design node tree belongs spans partly)

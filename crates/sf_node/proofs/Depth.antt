-- No subproblem is deeper than 10 n - 1 steps, where there are n blocks of at most 256 shapes.
use Rattle.std.proofs.Common.{◌≡◌, ℕ, suc, ◌+◌, ◌-◌, ◌*◌, ◌/◌, ◌<◌, ◌≤◌, min, List, [], ◌∷◌, ◌++◌, length, map, get_or, length-set, length-append, arith, refl, ap, sym, subst, ◌∙◌, ◌==◌, Bool, true, false, not, cond, ◌&&◌, inl, inr}
use Rattle.sf_node.proofs.Common.{zero, IsTrue, nat_lt, nat_le, count_by, slice_set, AllByRecursion, range_with_len, length-map, cond_both, sum_by-cons, sum_by-append, recursion_from_All, Design, block_count, Some, Some-range, Token, operands, operators, is_operand, is_block, Step, Beside, Above, Block, Left, Right, Parts, root, span_of, may_join, is_unused, after, with_token, with_span, middle, CanStep, CanWalk, walk, IsSubproblem, IsShapeList}
use Rattle.std.proofs.lemmas.Bool.Decides.{nat_tests}
use Rattle.sf_model.specs.declared.parts.Block.{Block as BlockValue}
use Rattle.sf_polish.specs.declared.expr.Token.TheVariants as token

-- the sum of f over a list
abbrev sum : {X : Type 0} → (X → ℕ) → List X → ℕ
sum f [] = 0
sum f (x ∷ xs) = f x + sum f xs

-- how often a span may be halved
abbrev levels : ℕ → ℕ
levels w =
    cond (nat_le w 1) 0 (cond (nat_le w 2) 1 (cond (nat_le w 4) 2 (cond (nat_le w 8) 3 (cond (nat_le w 16) 4 (cond (nat_le w 32) 5 (cond (nat_le w 64) 6 (cond (nat_le w 128) 7 (cond (nat_le w 256) 8 (8 + w)))))))))

-- how often the span may be halved
abbrev halvings : ℕ × ℕ → ℕ
halvings span = levels (span.1 - span.0)

-- up to 256 places may be halved 8 times at most
levels-few : (w : ℕ) → w ≤ 256 → levels w ≤ 8
levels-few w h = grind (arith, nat_tests)

-- half of a span may be halved once less
levels-half : (w v : ℕ) → 2 ≤ w → 2 * v ≤ w + 1 → levels v + 1 ≤ levels w
levels-half w v h l = grind (arith, nat_tests)

-- with a lesser value at one place the sum is less
sum-set : (f : ℕ × ℕ → ℕ) (xs : List (ℕ × ℕ)) (b : ℕ) (x d : ℕ × ℕ) → b < length xs → f x + 1 ≤ f (get_or xs b d) → sum f (slice_set xs b x) + 1 ≤ sum f xs
sum-set f [] b x d h l = absurd (omega arith)
sum-set f (y ∷ ys) zero x d h l = omega arith
sum-set f (y ∷ ys) (suc b) x d h l = omega (arith, sum-set f ys b x d (omega arith) l)

-- the blocks that are not there yet
abbrev unused : List Token → ℕ → ℕ
unused tokens b = cond (is_unused b tokens) 1 0

-- the sum of lesser values is no greater
sum-less : (f g : ℕ → ℕ) → ((x : ℕ) → f x ≤ g x) → (xs : List ℕ) → sum f xs ≤ sum g xs
sum-less f g h [] = omega arith
sum-less f g h (x ∷ xs) = omega (arith, h x, sum-less f g h xs)

-- the sum of lesser values, one of them truly less, is less
sum-fewer : (f g : ℕ → ℕ) → ((x : ℕ) → f x ≤ g x) → (xs : List ℕ) → Some (λ x. f x + 1 ≤ g x) xs → sum f xs + 1 ≤ sum g xs
sum-fewer f g h [] s = absurd s
sum-fewer f g h (x ∷ xs) s =
    elim s [
      | inl here ↦ omega (arith, here, sum-less f g h xs)
      | inr later ↦ omega (arith, h x, sum-fewer f g h xs later)
    ]

-- the sum of values of at most 1 over a range is at most its length
sum-one : (f : ℕ → ℕ) → ((x : ℕ) → f x ≤ 1) → (a n : ℕ) → sum f (range_with_len a n) ≤ n
sum-one f h a zero = omega arith
sum-one f h a (suc n) = omega (arith, h a, sum-one f h (a + 1) n)

-- a block is at most once unused
unused-one : (tokens : List Token) (b : ℕ) → unused tokens b ≤ 1
unused-one tokens b = cond_both (is_unused b tokens) 1 0 (λ n. n ≤ 1) (λ e. omega arith) (λ e. omega arith)

-- 1 where a number is 0, and 0 elsewhere
cond-zero : (n : ℕ) → ◌≡◌ {A = ℕ} (cond (n == 0) 1 0) (1 - n)
cond-zero n = grind (arith, nat_tests)

-- a number is equal to itself
cond-same : (b : ℕ) → ◌≡◌ {A = ℕ} (cond (b == b) 1 0) 1
cond-same b = grind (arith, nat_tests)

-- a number that is found to be 0 is 0
zero-is : (n : ℕ) → (n == 0) ≡ true → n ≡ 0
zero-is n e = grind (arith, nat_tests)

-- how many pass a test, with one more token
pub count-more : (p : Token → Bool) (tokens : List Token) (t : Token) → count_by p (tokens ++ t ∷ []) ≡ count_by p tokens + cond (p t) 1 0
count-more p tokens t = omega (arith, sum_by-append (λ (x : Token). cond (p x) 1 0) tokens (t ∷ []), sum_by-cons (λ (x : Token). cond (p x) 1 0) t [])

-- one more token leaves no more unused
unused-less : (tokens : List Token) (t : Token) (b : ℕ) → unused (tokens ++ t ∷ []) b ≤ unused tokens b
unused-less tokens t b = omega (arith, cond-zero (count_by (is_block b) (tokens ++ t ∷ [])), cond-zero (count_by (is_block b) tokens), count-more (is_block b) tokens t)

-- a block that comes is no longer unused
unused-block : (tokens : List Token) (b : ℕ) → IsTrue (is_unused b tokens) → unused (tokens ++ token.Block b ∷ []) b + 1 ≤ unused tokens b
unused-block tokens b u = omega (arith, cond-zero (count_by (is_block b) (tokens ++ token.Block b ∷ [])), cond-zero (count_by (is_block b) tokens), count-more (is_block b) tokens (token.Block b), cond-same b, zero-is (count_by (is_block b) tokens) u)

-- each token is an operand or an operator
length-both : (tokens : List Token) → operands tokens + operators tokens ≡ length tokens
length-both [] = refl
length-both (token.Beside ∷ tokens) = omega (arith, length-both tokens, sum_by-cons (λ (x : Token). cond (is_operand x) 1 0) token.Beside tokens, sum_by-cons (λ (x : Token). cond (not (is_operand x)) 1 0) token.Beside tokens)
length-both (token.Above ∷ tokens) = omega (arith, length-both tokens, sum_by-cons (λ (x : Token). cond (is_operand x) 1 0) token.Above tokens, sum_by-cons (λ (x : Token). cond (not (is_operand x)) 1 0) token.Above tokens)
length-both (token.Block b ∷ tokens) = omega (arith, length-both tokens, sum_by-cons (λ (x : Token). cond (is_operand x) 1 0) (token.Block b) tokens, sum_by-cons (λ (x : Token). cond (not (is_operand x)) 1 0) (token.Block b) tokens)

-- spans, tokens and steps of a subproblem of n blocks are few: each step brings a token or halves a span
record IsTame (n : ℕ) (node : Parts) : Type 0 where
  spans : length node.spans ≡ n
  free : operands node.tokens + sum (unused node.tokens) (range_with_len 0 n) ≤ n
  joined : operators node.tokens + min 1 (operands node.tokens) ≤ operands node.tokens
  deep : length node.steps + sum halvings node.spans ≤ length node.tokens + 8 * n

-- a number that is found to be no greater is no greater
le-true : (a b : ℕ) → nat_le a b ≡ true → a ≤ b
le-true a b e = grind (arith, nat_tests)

-- a number that is found to be less is less
lt-true : (a b : ℕ) → nat_lt a b ≡ true → a < b
lt-true a b e = grind (arith, nat_tests)

-- of two conditions that hold together the first holds
and-first : (a b : Bool) → (a && b) ≡ true → a ≡ true
and-first true b e = refl
and-first false b e = absurd (cc)

-- the middle of two numbers, rounded down
half : (a b : ℕ) → (2 * ((a + b) / 2) ≤ a + b) × (a + b ≤ 2 * ((a + b) / 2) + 1)
half a b = (omega arith, omega arith)

-- an operator more
tame-join : (n : ℕ) (node : Parts) (s : Step) (t : Token) → is_operand t ≡ false → IsTrue (may_join t node.tokens) → IsTame n node → IsTame n (with_token node s t)
tame-join n node s t o may h =
    let two = le-true (operators node.tokens + 2) (operands node.tokens) (and-first _ _ may) in
    let a = count-more is_operand node.tokens t in
    let b = count-more (λ x. not (is_operand x)) node.tokens t in
    let c : ◌≡◌ {A = ℕ} (cond (is_operand t) 1 0) 0 = ap (λ z. cond z 1 0) o in
    let d : ◌≡◌ {A = ℕ} (cond (not (is_operand t)) 1 0) 1 = ap (λ z. cond (not z) 1 0) o in
    let fewer = sum-less (unused (node.tokens ++ t ∷ [])) (unused node.tokens) (unused-less node.tokens t) (range_with_len 0 n) in
    record {
      spans = h.spans;
      free = omega (arith, h.free, a, c, fewer);
      joined = omega (arith, a, b, c, d, two);
      deep = omega (arith, h.deep, length-append node.steps (s ∷ []), length-append node.tokens (t ∷ []));
    }

-- a block more
tame-block : (n : ℕ) (node : Parts) (b : ℕ) → b < length node.spans → IsTrue (is_unused b node.tokens) → IsTame n node → IsTame n (with_token node (Block b) (token.Block b))
tame-block n node b l u h =
    let t = token.Block b in
    let a = count-more is_operand node.tokens t in
    let d = count-more (λ x. not (is_operand x)) node.tokens t in
    let fewer = sum-fewer (unused (node.tokens ++ t ∷ [])) (unused node.tokens) (unused-less node.tokens t) (range_with_len 0 n)
    (Some-range (λ c. unused (node.tokens ++ t ∷ []) c + 1 ≤ unused node.tokens c) 0 n b (omega arith) (omega (arith, h.spans)) (unused-block node.tokens b u)) in
    record {
      spans = h.spans;
      free = omega (arith, h.free, a, fewer);
      joined = omega (arith, a, d, h.joined);
      deep = omega (arith, h.deep, length-append node.steps (Block b ∷ []), length-append node.tokens (t ∷ []));
    }

-- half of a span
tame-half : (n : ℕ) (node : Parts) (s : Step) (b : ℕ) (span : ℕ × ℕ) → b < length node.spans → halvings span + 1 ≤ halvings (span_of node b) → IsTame n node → IsTame n (with_span node s b span)
tame-half n node s b span l less h =
    record {
      spans = length-set node.spans b span ∙ h.spans;
      free = h.free;
      joined = h.joined;
      deep = omega (arith, h.deep, length-append node.steps (s ∷ []), sum-set halvings node.spans b span (0, 0) l less);
    }

-- each step keeps it
tame-after : (n : ℕ) (node : Parts) (s : Step) → CanStep node s → IsTame n node → IsTame n (after node s)
tame-after n node Beside can h = tame-join n node Beside token.Beside refl can h
tame-after n node Above can h = tame-join n node Above token.Above refl can h
tame-after n node (Block b) can h = tame-block n node b can.0 can.1 h
tame-after n node (Left b) can h =
    let span = span_of node b in
    let wide = lt-true (span.0 + 1) span.1 can.1 in
    tame-half n node (Left b) b (span.0, middle span) can.0 (levels-half (span.1 - span.0) (middle span - span.0) (omega arith) (omega (arith, half span.0 span.1))) h
tame-after n node (Right b) can h =
    let span = span_of node b in
    let wide = lt-true (span.0 + 1) span.1 can.1 in
    tame-half n node (Right b) b (middle span, span.1) can.0 (levels-half (span.1 - span.0) (span.1 - middle span) (omega arith) (omega (arith, half span.0 span.1))) h

-- all steps keep it
tame-walk : (n : ℕ) (ss : List Step) (node : Parts) → CanWalk node ss → IsTame n node → IsTame n (walk node ss)
tame-walk n [] node can h = h
tame-walk n (s ∷ ss) node can h = tame-walk n ss (after node s) can.1 (tame-after n node s can.0 h)

-- the spans of all shapes may be halved 8 times a block at most
few-halvings : (blocks : List BlockValue) → AllByRecursion (λ b. IsShapeList b.shapes) blocks → sum halvings (map (λ block. (0, length block.shapes)) blocks) ≤ 8 * length blocks
few-halvings [] h = omega arith
few-halvings (b ∷ blocks) h = let few = h.0.choice.few in omega (arith, levels-few (length b.shapes - 0) (omega arith), few-halvings blocks h.1)

-- the root is tame
tame-root : (design : Design) → IsTame (block_count design) (root design)
tame-root design =
    let n = block_count design in
    let few = few-halvings design.blocks (recursion_from_All (λ (b : BlockValue). IsShapeList b.shapes) design.blocks design.limits.shapes) in
    let one = sum-one (unused []) (unused-one []) 0 n in
    record {
      spans = length-map design.blocks (λ block. (0, length block.shapes));
      free = omega (arith, one);
      joined = omega arith;
      deep = omega (arith, few);
    }

-- no subproblem is too deep
pub subproblem-shallow : (design : Design) (node : Parts) → IsSubproblem design node → length node.steps < 3200
subproblem-shallow design node sub =
    let h = subst (IsTame (block_count design)) (sym sub.is) (tame-walk (block_count design) node.steps (root design) sub.reached (tame-root design)) in
    let few = design.limits.few_blocks in
    let some = design.limits.some_block in
    omega (arith, h.free, h.joined, h.deep, length-both node.tokens)

-- Which blocks are there, one step on and one step back.
use Rattle.std.proofs.Common.{◌≡◌, ℕ, ◌+◌, ◌*◌, ◌<◌, ◌≤◌, List, [], ◌∷◌, ◌++◌, length, get_or, set, length-set, length-append, arith, refl, ap, sym, ◌∙◌, Bool, true, false, not, nat_le}
use Rattle.std.proofs.lemmas.Bool.Decides.{nat_tests}
use Rattle.sf_cursor.proofs.Common.{get_or-set_same, get_or-set_other, get_or_default, Design, is_operand, is_block, operands, ends_in, Step, Beside, Above, Block, Left, Right, Parts, root, after, walk, may_join, is_unused, CanStep, IsSubproblem, count-more, subproblem-shallow, spans-after, AreUsed, flags_after, step_blocks, NamesOne}
use Rattle.sf_polish.specs.declared.expr.Token.{Token}
use Rattle.sf_polish.specs.declared.expr.Token.TheVariants as token
use Rattle.sf_polish.proofs.Normality.{both-kinds}

-- another token leaves a block as it was, used or not
unused-more : (b : ℕ) (ts : List Token) (t : Token) → is_block b t ≡ false → is_unused b (ts ++ t ∷ []) ≡ is_unused b ts
unused-more b ts t e = let more = count-more (is_block b) ts t in grind (arith, nat_tests)

-- other flags stay
module _ (node : Parts) (used : List Bool) (c : ℕ) where
  -- the flags after a step that names a block: its flag is set
  pub flags-on : AreUsed node used → c < length used → AreUsed (after node (Block c)) (set used c true)
  flags-on u h = record {
    each = length-set used c true ∙ u.each;
    flags = λ b k. grind (arith, nat_tests, length-set used c true, u.flags b, get_or-set_same used c true true h, get_or-set_other used c b true true, count-more (is_block b) node.tokens (token.Block c));
  }

  -- the flags before a step that names a block: its flag is taken away
  pub flags-off : AreUsed (after node (Block c)) used → c < length used → is_unused c node.tokens ≡ true → AreUsed node (set used c false)
  flags-off u h free = record {
    each = length-set used c false ∙ u.each;
    flags = λ b k. grind (arith, nat_tests, length-set used c false, u.flags b, get_or-set_same used c false true h, get_or-set_other used c b false true, count-more (is_block b) node.tokens (token.Block c));
  }

-- subproblems with the same blocks have the same flags
same-flags : (node other : Parts) (used : List Bool) → length other.spans ≡ length node.spans → ((b : ℕ) → is_unused b other.tokens ≡ is_unused b node.tokens) → AreUsed node used → AreUsed other used
same-flags node other used n f u = record { each = u.each ∙ sym n; flags = λ b k. u.flags b k ∙ sym (ap not (f b)) }

-- the flags after a step are those of the subproblem that it leads to
pub used-on : (node : Parts) (s : Step) (used : List Bool) → CanStep node s → AreUsed node used → AreUsed (after node s) (flags_after used s true)
used-on node Beside used can u = same-flags node (after node Beside) used refl (λ b. unused-more b node.tokens token.Beside refl) u
used-on node Above used can u = same-flags node (after node Above) used refl (λ b. unused-more b node.tokens token.Above refl) u
used-on node (Block c) used can u = flags-on node used c u (omega (arith, can.0, u.each))
used-on node (Left b) used can u = same-flags node (after node (Left b)) used (spans-after node (Left b)) (λ b. refl) u
used-on node (Right b) used can u = same-flags node (after node (Right b)) used (spans-after node (Right b)) (λ b. refl) u

-- the flags after a step is taken back are those of the subproblem before it
pub used-back : (node : Parts) (s : Step) (used : List Bool) → CanStep node s → AreUsed (after node s) used → AreUsed node (flags_after used s false)
used-back node Beside used can u = same-flags (after node Beside) node used refl (λ b. sym (unused-more b node.tokens token.Beside refl)) u
used-back node Above used can u = same-flags (after node Above) node used refl (λ b. sym (unused-more b node.tokens token.Above refl)) u
used-back node (Block c) used can u = flags-off node used c u (omega (arith, can.0, u.each)) can.1
used-back node (Left b) used can u = same-flags (after node (Left b)) node used (sym (spans-after node (Left b))) (λ b. refl) u
used-back node (Right b) used can u = same-flags (after node (Right b)) node used (sym (spans-after node (Right b))) (λ b. refl) u

-- a block that a step names has a flag
pub names-one : (node : Parts) (s : Step) (used : List Bool) → CanStep node s → length used ≡ length node.spans → NamesOne s used
names-one node s used can e = grind (arith, can)

-- a step adds as many operands as it names blocks
pub operands-after : (node : Parts) (s : Step) → operands (after node s).tokens ≡ operands node.tokens + step_blocks s
operands-after node s = grind (arith, λ (t : Token). count-more is_operand node.tokens t)

-- a step adds one token at most
tokens-after : (node : Parts) (s : Step) → length (after node s).tokens ≤ length node.tokens + 1
tokens-after node s = grind (arith, λ (t : Token). length-append node.tokens (t ∷ []))

-- a walk adds no more tokens than steps
tokens-walk : (ss : List Step) (node : Parts) → length (walk node ss).tokens ≤ length node.tokens + length ss
tokens-walk [] node = omega arith
tokens-walk (s ∷ ss) node = omega (arith, tokens-walk ss (after node s), tokens-after node s)

-- there are few tokens
pub few-tokens : (design : Design) (node : Parts) → IsSubproblem design node → length node.tokens < 3200
few-tokens design node sub = omega (arith, ap (λ n. length n.tokens) sub.is, tokens-walk node.steps (root design), subproblem-shallow design node sub)

-- there are few operands
pub few-operands : (design : Design) (node : Parts) → IsSubproblem design node → operands node.tokens < 3200
few-operands design node sub = omega (arith, few-tokens design node sub, both-kinds node.tokens)

-- where the counts leave room, the last token decides whether an operator may come
pub joins-yes : (t : Token) (ts : List Token) (n k : ℕ) → n ≡ length ts → k ≡ operands ts → n + 2 ≤ 2 * k → not (ends_in t ts) ≡ may_join t ts
joins-yes t ts n k e f h = grind (arith, nat_tests, both-kinds ts)

-- where the counts leave no room, no operator may come
pub joins-no : (t : Token) (ts : List Token) (n k : ℕ) → n ≡ length ts → k ≡ operands ts → 2 * k < n + 2 → nat_le (n + 2) (2 * k) ≡ may_join t ts
joins-no t ts n k e f h = grind (arith, nat_tests, both-kinds ts)

-- what is not the other way round is so both ways
not-back : (x r : Bool) → r ≡ not x → x ≡ not r
not-back x r e = grind arith

-- the flag of a block tells whether it is there
pub flag-of : (node : Parts) (used flags : List Bool) (b : ℕ) (r x : Bool) → AreUsed node used → flags ≡ used → b < length used → r ≡ get_or flags b r → r ≡ x → is_unused b node.tokens ≡ not x
flag-of node used flags b r x u same h e is =
    not-back (is_unused b node.tokens) x (sym is ∙ e ∙ ap (λ v. get_or v b r) same ∙ get_or_default used b r true h ∙ u.flags b h)

-- a step names one block at most
pub named-most : (s : Step) → step_blocks s ≤ 1
named-most s = grind arith

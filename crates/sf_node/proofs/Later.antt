-- Moves among the subproblems that are not visited yet.
use Rattle.std.proofs.Common.{◌≡◌, ℕ, suc, ◌+◌, ◌-◌, ◌<◌, List, [], ◌∷◌, ◌++◌, map, length, get_or, set, take, append_assoc, append-nil, length-append, arith, refl, ap, sym, subst, ◌∙◌, Bool, true, false, cond}
use Rattle.sf_node.proofs.Common.{filter, AllByRecursion, range_with_len, map-append, set-set, set-get_or, take_at, cond-true, cond-false, Design, each-append, each-map, Token, Step, Beside, Above, Block, Left, Right, Parts, root, span_of, may_join, is_unused, when, step_of, after, extended, CanStep, CanWalk, walk, with_span, IsSubproblem, when_step, blocks_from, later, extending, behind, pending}
use Rattle.sf_polish.specs.declared.expr.Token.TheVariants as token
use Rattle.sf_node.proofs.Reached.{walk-append, steps-after, each-below, each-passing}

-- ---- the steps by blocks, one number on

module _ (node : Parts) (b : ℕ) where
  -- the blocks from the next number on that aren't there yet
  abbrev rest : List ℕ
  rest = filter (λ c. is_unused c node.tokens) (range_with_len (b + 1) (length node.spans - (b + 1)))

  -- the steps by blocks from a number on: by that block, if it isn't there, and by those behind
  blocks-first : b < length node.spans → blocks_from node b ≡ map (λ c. Block c) (cond (is_unused b node.tokens) (b ∷ rest) rest)
  blocks-first h =
      let e : length node.spans - b ≡ suc (length node.spans - (b + 1)) = omega arith in
      ap (λ k. map (λ (c : ℕ). Block c) (filter (λ c. is_unused c node.tokens) (range_with_len b k))) e

  -- a block that is there gives no step
  pub blocks-used : b < length node.spans → is_unused b node.tokens ≡ false → blocks_from node b ≡ blocks_from node (b + 1)
  blocks-used h u = blocks-first h ∙ ap (map (λ (c : ℕ). Block c)) (cond-false (is_unused b node.tokens) (b ∷ rest) rest u)

  -- a block that isn't there gives the first step
  pub blocks-unused : b < length node.spans → is_unused b node.tokens ≡ true → blocks_from node b ≡ Block b ∷ blocks_from node (b + 1)
  blocks-unused h u = blocks-first h ∙ ap (map (λ (c : ℕ). Block c)) (cond-true (is_unused b node.tokens) (b ∷ rest) rest u)

-- ---- the children by extending, by these steps

-- a step that may be taken leads to the child of its token
when-reached : (node : Parts) (b : Bool) (t : Token) → map (after node) (when_step b (step_of t)) ≡ map (λ t. after node (step_of t)) (when b t)
when-reached node true t = refl
when-reached node false t = refl

-- steps by blocks lead to the children of their tokens
blocks-reached : (node : Parts) (bs : List ℕ) → map (after node) (map (λ c. Block c) bs) ≡ map (λ t. after node (step_of t)) (map (λ c. token.Block c) bs)
blocks-reached node [] = refl
blocks-reached node (b ∷ bs) = ap (λ z. after node (Block b) ∷ z) (blocks-reached node bs)

-- the steps by which a subproblem is extended lead to its children
pub extending-is : (node : Parts) → map (after node) (extending node) ≡ extended node
extending-is node =
    let n = length node.spans in
    let p : ℕ → Bool = λ c. is_unused c node.tokens in
    let bs = filter p (range_with_len 0 n) in
    let g : Step → Parts = after node in
    let h : Token → Parts = λ t. after node (step_of t) in
    let a = when (may_join token.Beside node.tokens) token.Beside in
    let b = when (may_join token.Above node.tokens) token.Above in
    let c = map (λ (c : ℕ). token.Block c) bs in
    let all : n - 0 ≡ n = omega arith in
    let third : map g (blocks_from node 0) ≡ map h c = ap (λ k. map g (map (λ (c : ℕ). Block c) (filter p (range_with_len 0 k)))) all ∙ blocks-reached node bs in
    let second : map g (later node Beside) ≡ map h b ++ map h c =
    map-append g (when_step (may_join token.Above node.tokens) Above) (blocks_from node 0) ∙ ap (λ z. z ++ map g (blocks_from node 0)) (when-reached node (may_join token.Above node.tokens) token.Above) ∙ ap (λ z. map h b ++ z) third in
    let first : map g (extending node) ≡ map h a ++ (map h b ++ map h c) =
    map-append g (when_step (may_join token.Beside node.tokens) Beside) (later node Beside) ∙ ap (λ z. z ++ map g (later node Beside)) (when-reached node (may_join token.Beside node.tokens) token.Beside) ∙ ap (λ z. map h a ++ z) second in
    first ∙ sym (append_assoc (map h a) (map h b) (map h c)) ∙ ap (λ z. z ++ map h c) (sym (map-append h a b)) ∙ sym (map-append h (a ++ b) c)

-- ---- each of these steps can be taken

-- what holds of a step holds of each of the list of it, if it may be taken
each-when_step : (P : Step → Type 0) (b : Bool) (s : Step) → (b ≡ true → P s) → AllByRecursion P (when_step b s)
each-when_step P true s f = (f refl, tt)
each-when_step P false s f = tt

-- each step by a block that isn't there yet can be taken
blocks-can : (node : Parts) (b : ℕ) → AllByRecursion (CanStep node) (blocks_from node b)
blocks-can node b =
    let p : ℕ → Bool = λ c. is_unused c node.tokens in
    let xs = range_with_len b (length node.spans - b) in
    each-map (CanStep node) (λ c. Block c) (filter p xs)
    (each-passing (λ c. CanStep node (Block c)) p xs
    (each-below (λ c. p c ≡ true → CanStep node (Block c)) b (length node.spans - b) (λ i h k e. (omega arith, e))))

-- each step that comes after one that can be taken can be
pub later-can : (node : Parts) (s : Step) → CanStep node s → AllByRecursion (CanStep node) (later node s)
later-can node Beside can =
    each-append (CanStep node) (when_step (may_join token.Above node.tokens) Above) (blocks_from node 0) (each-when_step (CanStep node) (may_join token.Above node.tokens) Above (λ e. e)) (blocks-can node 0)
later-can node Above can = blocks-can node 0
later-can node (Block b) can = blocks-can node (b + 1)
later-can node (Left b) can = (can, tt)
later-can node (Right b) can = tt

-- each step by which a subproblem is extended can be taken
pub extending-can : (node : Parts) → AllByRecursion (CanStep node) (extending node)
extending-can node =
    each-append (CanStep node) (when_step (may_join token.Beside node.tokens) Beside) (later node Beside) (each-when_step (CanStep node) (may_join token.Beside node.tokens) Beside (λ e. e))
    (each-append (CanStep node) (when_step (may_join token.Above node.tokens) Above) (blocks_from node 0) (each-when_step (CanStep node) (may_join token.Above node.tokens) Above (λ e. e)) (blocks-can node 0))

-- ---- the way from the root

-- what is behind a longer way: the later steps at its end, and what was behind before
pub behind-append : (node : Parts) (ss : List Step) (s : Step) → behind node (ss ++ s ∷ []) ≡ map (after (walk node ss)) (later (walk node ss) s) ++ behind node ss
behind-append node [] s = sym (append-nil (map (after node) (later node s)))
behind-append node (x ∷ ss) s =
    ap (λ z. z ++ map (after node) (later node x)) (behind-append (after node x) ss s)
    ∙ append_assoc (map (after (walk (after node x) ss)) (later (walk (after node x) ss) s)) (behind (after node x) ss) (map (after node) (later node x))

-- what is behind a child: its later siblings, and what is behind the subproblem itself
pub behind-after : (design : Design) (node : Parts) (s : Step) → IsSubproblem design node → behind (root design) (after node s).steps ≡ map (after node) (later node s) ++ behind (root design) node.steps
behind-after design node s sub =
    ap (behind (root design)) (steps-after node s) ∙ behind-append (root design) node.steps s
    ∙ ap (λ n. map (after n) (later n s) ++ behind (root design) node.steps) (sym sub.is)

-- entering the first of some steps
pub entered : (design : Design) (node : Parts) (s : Step) (steps : List Step) → IsSubproblem design node → steps ≡ s ∷ later node s → map (after node) steps ++ behind (root design) node.steps ≡ pending design true (after node s)
entered design node s steps sub e =
    ap (λ z. map (after node) z ++ behind (root design) node.steps) e ∙ ap (λ z. after node s ∷ z) (sym (behind-after design node s sub))

-- a walk adds its steps
steps-walk : (ss : List Step) (node : Parts) → (walk node ss).steps ≡ node.steps ++ ss
steps-walk [] node = sym (append-nil node.steps)
steps-walk (s ∷ ss) node = steps-walk ss (after node s) ∙ ap (λ z. z ++ ss) (steps-after node s) ∙ append_assoc node.steps (s ∷ []) ss

-- the steps before the last can be walked
can-front : (node : Parts) (ss : List Step) (s : Step) → CanWalk node (ss ++ s ∷ []) → CanWalk node ss
can-front node [] s can = tt
can-front node (x ∷ ss) s can = (can.0, can-front (after node x) ss s can.1)

-- the last step can be taken where those before it lead
can-last : (node : Parts) (ss : List Step) (s : Step) → CanWalk node (ss ++ s ∷ []) → CanStep (walk node ss) s
can-last node [] s can = can.0
can-last node (x ∷ ss) s can = can-last (after node x) ss s can.1

-- the step leads from a subproblem of the design to its child
pub record IsStep (design : Design) (before : Parts) (s : Step) (node : Parts) : Type 0 where
  pub sub : IsSubproblem design before
  pub can : CanStep before s
  pub is : node ≡ after before s

-- where the last step came from
pub came-from : (design : Design) (node : Parts) (ss : List Step) (s : Step) → IsSubproblem design node → node.steps ≡ ss ++ s ∷ [] → IsStep design (walk (root design) ss) s node
came-from design node ss s sub e =
    let reached = subst (CanWalk (root design)) e sub.reached in
    let steps : (walk (root design) ss).steps ≡ ss = steps-walk ss (root design) in
    record {
      sub = record { reached = subst (CanWalk (root design)) (sym steps) (can-front (root design) ss s reached); is = ap (walk (root design)) (sym steps) };
      can = can-last (root design) ss s reached;
      is = sub.is ∙ ap (walk (root design)) e ∙ walk-append (root design) ss s;
    }

-- ---- leaving a step

-- a list without its last element is what stood before that
popped : {X : Type 0} (old new front : List X) (n : ℕ) (x : X) → n ≡ length old → new ≡ take (n - 1) old → old ≡ front ++ x ∷ [] → new ≡ front
popped old new front n x many e k =
    let fewer : n - 1 ≡ length front = omega (arith, many, ap length k, length-append front (x ∷ [])) in
    e ∙ ap (λ m. take m old) fewer ∙ ap (take (length front)) k ∙ take_at front (x ∷ []) (length front) refl

-- a span that is put back gives the spans as they were
set-back : (spans : List (ℕ × ℕ)) (b : ℕ) (half span : ℕ × ℕ) → span ≡ get_or spans b (0, 0) → set (set spans b half) b span ≡ spans
set-back spans b half span e = set-set spans b half span ∙ ap (set spans b) e ∙ set-get_or spans b (0, 0)

-- the same steps, tokens and spans are the same subproblem
same-parts : (s s2 : List Step) (t t2 : List Token) (p p2 : List (ℕ × ℕ)) → s ≡ s2 → t ≡ t2 → p ≡ p2 → ◌≡◌ {A = Parts} (record { steps = s; tokens = t; spans = p }) (record { steps = s2; tokens = t2; spans = p2 })
same-parts s s2 t t2 p p2 e k l = cc

-- what is left of a subproblem whose last step halved a span, where that span is put back
pub put-back : (old before : Parts) (s : Step) (b n : ℕ) (half span : ℕ × ℕ) (new : List Step) → n ≡ length old.steps → new ≡ take (n - 1) old.steps → old ≡ with_span before s b half → span ≡ span_of before b → ◌≡◌ {A = Parts} (record { steps = new; tokens = old.tokens; spans = set old.spans b span }) before
put-back old before s b n half span new many p e k =
    same-parts new before.steps old.tokens before.tokens (set old.spans b span) before.spans
    (popped old.steps new before.steps n s many p (ap (λ (m : Parts). m.steps) e))
    (ap (λ (m : Parts). m.tokens) e)
    (ap (λ (m : Parts). set m.spans b span) e ∙ set-back before.spans b half span k)

-- The tree of subproblems branches as the laws of lines ask.
use Rattle.std.proofs.Common.{◌≡◌, ℕ, suc, ◌+◌, ◌-◌, ◌<◌, ◌≤◌, List, [], ◌∷◌, ◌++◌, map, length, append_assoc, append-nil, arith, refl, ap, sym, subst, ◌∙◌, true, false, Bool, ◌⊎◌, inl, inr}
use Rattle.sf_pieces.proofs.Common.{zero, filter, AllByRecursion, range_with_len, cases_eq, Design, Step, Parts, root, after, walk, may_join, is_unused, CanStep, IsSubproblem, when_step, blocks_from, later, extending, behind, steps-after, after-subproblem, Tag, Extend, Split, Closed, Open, made, MaySplit, Beside, Above, Block, Left, Right, blocks-used, blocks-unused, later-can, extending-can, extending-is, came-from}
use Rattle.sf_polish.specs.declared.expr.Token.TheVariants as token
use Rattle.sf_pieces.proofs.Preorder as line
use Rattle.sf_pieces.proofs.Preorder.{Begins, IsBranching}

-- the steps to the children that a tag makes
abbrev pub firsts : Tag → Parts → List Step
firsts Extend node = extending node
firsts (Split b) node = Left b ∷ Right b ∷ []
firsts (Closed p) node = []
firsts Open node = []

-- they lead to the children
pub firsts-made : (t : Tag) (node : Parts) → map (after node) (firsts t node) ≡ made t node
firsts-made Extend node = extending-is node
firsts-made (Split b) node = refl
firsts-made (Closed p) node = refl
firsts-made Open node = refl

-- the steps by blocks from a number on are one and those that come after it, or none
blocks-next : (k : ℕ) (node : Parts) (b : ℕ) → length node.spans ≤ b + k → (blocks_from node b ≡ []) ⊎ Begins later node (blocks_from node b)
blocks-next zero node b h =
    let none : length node.spans - b ≡ 0 = omega (arith, h) in
    inl (ap (λ n. map (λ (c : ℕ). Block c) (filter (λ c. is_unused c node.tokens) (range_with_len b n))) none)
blocks-next (suc k) node b h =
    elim (cases_eq (length node.spans - b) 0) [
      | inl none ↦ inl (ap (λ n. map (λ (c : ℕ). Block c) (filter (λ c. is_unused c node.tokens) (range_with_len b n))) none)
      | inr some ↦ (let lt : b < length node.spans = omega (arith, some) in by_flag lt (blocks-next k node (b + 1) (omega (arith, h))) (is_unused b node.tokens) refl)
    ]
  where
    by_flag : b < length node.spans → (blocks_from node (b + 1) ≡ []) ⊎ Begins later node (blocks_from node (b + 1)) → (f : Bool) → is_unused b node.tokens ≡ f → (blocks_from node b ≡ []) ⊎ Begins later node (blocks_from node b)
    by_flag lt more true e = inr (record { step = Block b; is = blocks-unused node b lt e })
    by_flag lt more false e = subst (λ ss. (ss ≡ []) ⊎ Begins later node ss) (sym (blocks-used node b lt e)) more

-- all of them
all-blocks : (node : Parts) (b : ℕ) → (blocks_from node b ≡ []) ⊎ Begins later node (blocks_from node b)
all-blocks node b = blocks-next (length node.spans) node b (omega arith)

-- with an operator before them, where it may come
joined-next : (node : Parts) (s : Step) (may : Bool) (rest : List Step) → later node s ≡ rest → (rest ≡ []) ⊎ Begins later node rest → (when_step may s ++ rest ≡ []) ⊎ Begins later node (when_step may s ++ rest)
joined-next node s true rest e next = inr (record { step = s; is = ap (λ z. s ∷ z) (sym e) })
joined-next node s false rest e next = next

-- the later steps are one and those that come after it, or none
pub later-next : (node : Parts) (s : Step) → (later node s ≡ []) ⊎ Begins later node (later node s)
later-next node Beside = joined-next node Above (may_join token.Above node.tokens) (blocks_from node 0) refl (all-blocks node 0)
later-next node Above = all-blocks node 0
later-next node (Block b) = all-blocks node (b + 1)
later-next node (Left b) = inr (record { step = Right b; is = refl })
later-next node (Right b) = inl refl

-- so are the first ones
pub first-next : (t : Tag) (node : Parts) → (firsts t node ≡ []) ⊎ Begins later node (firsts t node)
first-next Extend node = joined-next node Beside (may_join token.Beside node.tokens) (later node Beside) refl (later-next node Beside)
first-next (Split b) node = inr (record { step = Left b; is = refl })
first-next (Closed p) node = inl refl
first-next Open node = inl refl

-- each of the first steps can be taken
firsts-can : (t : Tag) (node : Parts) → MaySplit t node → AllByRecursion (CanStep node) (firsts t node)
firsts-can Extend node may = extending-can node
firsts-can (Split b) node may = (may, (may, tt))
firsts-can (Closed p) node may = tt
firsts-can Open node may = tt

-- walks of both kinds are the same
same-walk : (node : Parts) (ss : List Step) → line.walk after later firsts node ss ≡ walk node ss
same-walk node [] = refl
same-walk node (s ∷ ss) = same-walk (after node s) ss

-- and what is behind them
pub same-behind : (node : Parts) (ss : List Step) → line.behind after later firsts node ss ≡ behind node ss
same-behind node [] = refl
same-behind node (s ∷ ss) = ap (λ z. z ++ map (after node) (later node s)) (same-behind (after node s) ss)

-- a walk adds its steps
pub steps-walk : (ss : List Step) (node : Parts) → (walk node ss).steps ≡ node.steps ++ ss
steps-walk [] node = sym (append-nil node.steps)
steps-walk (s ∷ ss) node = steps-walk ss (after node s) ∙ ap (λ z. z ++ ss) (steps-after node s) ∙ append_assoc node.steps (s ∷ []) ss

-- the tree of subproblems branches so
pub subproblems-branch : (design : Design) → IsBranching after later firsts (root design) (λ n. n.steps) (IsSubproblem design) CanStep MaySplit
subproblems-branch design = record {
  longer = λ n s. steps-after n s;
  leads = λ ss. ap (λ (n : Parts). n.steps) (same-walk (root design) ss) ∙ steps-walk ss (root design);
  on = λ n s sub can. after-subproblem design n s sub can;
  is = λ n sub. sub.is ∙ sym (same-walk (root design) n.steps);
  from = λ n ss s sub e. (let came = came-from design n ss s sub e in
      record { sub = subst (IsSubproblem design) (sym (same-walk (root design) ss)) came.sub; can = subst (λ m. CanStep m s) (sym (same-walk (root design) ss)) came.can });
  next = later-next;
  begin = first-next;
  later_can = later-can;
  may = firsts-can;
}

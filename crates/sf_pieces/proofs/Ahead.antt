-- What comes next in preorder comes after in the order of steps.
use Rattle.std.proofs.Common.{◌≡◌, ℕ, suc, ◌+◌, ◌-◌, ◌*◌, ◌<◌, ◌≤◌, List, [], ◌∷◌, ◌++◌, map, length, append_assoc, length-append, arith, refl, ap, sym, subst, ◌∙◌, true, false, Bool, inl, inr, Less, Equal}
use Rattle.sf_pieces.proofs.Common.{zero, filter, range_with_len, ordering_then, cases_eq, Design, Step, Parts, root, after, walk, may_join, is_unused, IsSubproblem, when_step, blocks_from, later, behind, rank, step_cmp, steps_cmp, steps-after, Tag, made, nat_tests, Beside, Above, Block, Left, Right, blocks-used, blocks-unused, behind-append, came-from}
use Rattle.sf_polish.specs.declared.expr.Token.TheVariants as token
use Rattle.sf_pieces.proofs.Line.{has-last}
use Rattle.sf_pieces.proofs.Branching.{firsts, firsts-made, first-next, later-next, steps-walk}

-- a step by a block from a number on has no lower number
blocks-least : (k : ℕ) (node : Parts) (b : ℕ) (next : Step) (rest : List Step) → length node.spans ≤ b + k → blocks_from node b ≡ next ∷ rest → 3 * b + 2 ≤ rank next
blocks-least zero node b next rest h e =
    let none : length node.spans - b ≡ 0 = omega (arith, h) in
    let empty : blocks_from node b ≡ [] = ap (λ n. map (λ (c : ℕ). Block c) (filter (λ c. is_unused c node.tokens) (range_with_len b n))) none in
    absurd (cc)
blocks-least (suc k) node b next rest h e =
    elim (cases_eq (length node.spans - b) 0) [
      | inl none ↦ (let empty : blocks_from node b ≡ [] = ap (λ n. map (λ (c : ℕ). Block c) (filter (λ c. is_unused c node.tokens) (range_with_len b n))) none in absurd (cc))
      | inr some ↦ (let lt : b < length node.spans = omega (arith, some) in by_flag lt (λ e2. blocks-least k node (b + 1) next rest (omega (arith, h)) e2) (is_unused b node.tokens) refl)
    ]
  where
    by_flag : b < length node.spans → (blocks_from node (b + 1) ≡ next ∷ rest → 3 * (b + 1) + 2 ≤ rank next) → (f : Bool) → is_unused b node.tokens ≡ f → 3 * b + 2 ≤ rank next
    by_flag lt more true u =
        let first : Block b ∷ blocks_from node (b + 1) ≡ next ∷ rest = sym (blocks-unused node b lt u) ∙ e in
        let same : Block b ≡ next = cc in
        subst (λ s. 3 * b + 2 ≤ rank s) same (omega arith)
    by_flag lt more false u = omega (arith, more (sym (blocks-used node b lt u) ∙ e))

-- later steps have higher numbers
later-higher : (node : Parts) (s next : Step) (rest : List Step) → later node s ≡ next ∷ rest → rank s < rank next
later-higher node Beside next rest e = by_join (may_join token.Above node.tokens) e
  where
    by_join : (may : Bool) → when_step may Above ++ blocks_from node 0 ≡ next ∷ rest → 0 < rank next
    by_join true k = (let same : Above ≡ next = cc in subst (λ s. 0 < rank s) same (omega arith))
    by_join false k = omega (arith, blocks-least (length node.spans) node 0 next rest (omega arith) k)
later-higher node Above next rest e = omega (arith, blocks-least (length node.spans) node 0 next rest (omega arith) e)
later-higher node (Block b) next rest e = omega (arith, blocks-least (length node.spans) node (b + 1) next rest (omega arith) e)
later-higher node (Left b) next rest e = (let same : Right b ≡ next = cc in subst (λ s. rank (Left b) < rank s) same (omega arith))
later-higher node (Right b) next rest e = absurd (cc)

-- a step of a lower number comes before, and a step is equal to itself
less-cmp : (x y : Step) → rank x < rank y → step_cmp x y ≡ Less
less-cmp x y h = grind (arith, nat_tests)

equal-cmp : (x : Step) → step_cmp x x ≡ Equal
equal-cmp x = grind (arith, nat_tests)

-- two paths that part
parted-less : (xs : List Step) (s t : Step) (us vs : List Step) → rank s < rank t → steps_cmp (xs ++ s ∷ us) (xs ++ t ∷ vs) ≡ Less
parted-less [] s t us vs h = ap (λ o. ordering_then o (steps_cmp us vs)) (less-cmp s t h)
parted-less (x ∷ xs) s t us vs h = ap (λ o. ordering_then o (steps_cmp (xs ++ s ∷ us) (xs ++ t ∷ vs))) (equal-cmp x) ∙ parted-less xs s t us vs h

-- a path comes before those that go on from it
longer-less : (xs : List Step) (y : Step) (ys : List Step) → steps_cmp xs (xs ++ y ∷ ys) ≡ Less
longer-less [] y ys = refl
longer-less (x ∷ xs) y ys = ap (λ o. ordering_then o (steps_cmp xs (xs ++ y ∷ ys))) (equal-cmp x) ∙ longer-less xs y ys

-- the way parts from this subproblem's at a step of a lower number
record IsAhead (ss : List Step) (y : Parts) : Type 0 where
  front : List Step
  here : Step
  rest : List Step
  there : Step
  way : ss ≡ front ++ here ∷ rest
  steps : y.steps ≡ front ++ there ∷ []
  higher : rank here < rank there

-- the first that is behind a way is ahead of it
behind-ahead : (design : Design) (k : ℕ) (n : Parts) (ss : List Step) (y : Parts) (rest : List Parts) → IsSubproblem design n → n.steps ≡ ss → length ss ≤ k → behind (root design) ss ≡ y ∷ rest → IsAhead ss y
behind-ahead design k n [] y rest sub e h is = absurd (cc)
behind-ahead design zero n (x ∷ ss) y rest sub e h is = absurd (omega (arith, h))
behind-ahead design (suc k) n (x ∷ ss) y rest sub e h is =
    let l = has-last x ss in
    let before = walk (root design) l.front in
    let came = came-from design n l.front l.last sub (e ∙ l.is) in
    let steps : before.steps ≡ l.front = steps-walk l.front (root design) in
    let longer : behind (root design) (x ∷ ss) ≡ map (after before) (later before l.last) ++ behind (root design) l.front = ap (behind (root design)) l.is ∙ behind-append (root design) l.front l.last in
    elim (later-next before l.last) [
      | inr b ↦ (let first : after before b.step ∷ (map (after before) (later before b.step) ++ behind (root design) l.front) ≡ y ∷ rest =
          ap (λ z. map (after before) z ++ behind (root design) l.front) (sym b.is) ∙ sym longer ∙ is in
          let same : after before b.step ≡ y = cc in
          record { front = l.front; here = l.last; rest = []; there = b.step; way = l.is; steps = ap (λ (m : Parts). m.steps) (sym same) ∙ steps-after before b.step ∙ ap (λ z. z ++ b.step ∷ []) steps; higher = later-higher before l.last b.step (later before b.step) b.is })
      | inl none ↦ (let there = behind-ahead design k before l.front y rest came.sub steps (omega (arith, h, ap length l.is, length-append l.front (l.last ∷ []))) (ap (λ z. map (after before) z ++ behind (root design) l.front) (sym none) ∙ sym longer ∙ is) in
          record { front = there.front; here = there.here; rest = there.rest ++ l.last ∷ []; there = there.there; way = l.is ∙ ap (λ z. z ++ l.last ∷ []) there.way ∙ append_assoc there.front (there.here ∷ there.rest) (l.last ∷ []); steps = there.steps; higher = there.higher })
    ]

-- what comes next after a tag comes after in the order of steps
pub next-ahead : (design : Design) (t : Tag) (n y : Parts) (rest : List Parts) → IsSubproblem design n → made t n ++ behind (root design) n.steps ≡ y ∷ rest → steps_cmp n.steps y.steps ≡ Less
next-ahead design t n y rest sub is =
    let start : map (after n) (firsts t n) ++ behind (root design) n.steps ≡ y ∷ rest = ap (λ z. z ++ behind (root design) n.steps) (firsts-made t n) ∙ is in
    elim (first-next t n) [
      | inr b ↦ (let first : after n b.step ∷ (map (after n) (later n b.step) ++ behind (root design) n.steps) ≡ y ∷ rest = ap (λ z. map (after n) z ++ behind (root design) n.steps) (sym b.is) ∙ start in
          let same : after n b.step ≡ y = cc in
          subst (λ z. steps_cmp n.steps z ≡ Less) (sym (steps-after n b.step) ∙ ap (λ (m : Parts). m.steps) same) (longer-less n.steps b.step []))
      | inl none ↦ (let a = behind-ahead design (length n.steps) n n.steps y rest sub refl (omega arith) (ap (λ z. map (after n) z ++ behind (root design) n.steps) (sym none) ∙ start) in
          subst (λ z. steps_cmp n.steps z ≡ Less) (sym a.steps) (subst (λ z. steps_cmp z (a.front ++ a.there ∷ []) ≡ Less) (sym a.way) (parted-less a.front a.here a.there a.rest [] a.higher)))
    ]

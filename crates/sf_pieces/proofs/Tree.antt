-- The marks of tags from a subproblem on are a line, and pieces of it are the whole.
use Rattle.std.proofs.Common.{◌≡◌, ℕ, suc, ◌≤◌, List, [], ◌∷◌, ◌++◌, map, length, length-append, arith, refl, ap, sym, subst, ◌∙◌, Bool, true, false, ◌⊎◌, inl, inr}
use Rattle.sf_pieces.proofs.Common.{zero, AllByRecursion, EachPair, total}
use Rattle.sf_pieces.proofs.Preorder.{walk, behind, made, marks, Begins, IsBranching}
use Rattle.sf_pieces.proofs.Line.{has-last, behind-append}
use Rattle.sf_pieces.proofs.Pieces.{Follow, IsLine, laid, IsOrdered, pieces-make}

module _ {N S T : Type 0} (after : N → S → N) (later : N → S → List S) (firsts : T → N → List S) (root : N) (steps : N → List S) (Sub : N → Type 0) (Can : N → S → Type 0) (May : T → N → Type 0)
    (law : IsBranching after later firsts root steps Sub Can May) where
  -- what waits behind a subproblem
  abbrev pub behind_of : N → List N
  behind_of n = behind after later firsts root (steps n)

  -- what waits from a subproblem on
  abbrev pub waits : N → List N
  waits n = n ∷ behind_of n

  -- a subproblem is next, and all that waits is what waits from it on
  pub record IsNext (ns : List N) : Type 0 where
    pub node : N
    pub sub : Sub node
    pub is : ns ≡ waits node

  -- what waits is none, or waits from some subproblem on
  abbrev pub WaitsOn : List N → Type 0
  WaitsOn ns = (ns ≡ []) ⊎ IsNext ns

  -- the first of some children is next
  first-next : (n : N) (ss : List S) → Sub n → AllByRecursion (Can n) ss → Begins later n ss → IsNext (map (after n) ss ++ behind_of n)
  first-next n ss sub can b =
      let s = b.step in
      let here : Can n s = (subst (AllByRecursion (Can n)) b.is can).0 in
      let longer : behind_of (after n s) ≡ map (after n) (later n s) ++ behind_of n =
      ap (behind after later firsts root) (law.longer n s) ∙ behind-append after later firsts root (steps n) s
      ∙ ap (λ m. map (after m) (later m s) ++ behind_of n) (sym (law.is n sub)) in
      record {
        node = after n s;
        sub = law.on n s sub here;
        is = ap (λ z. map (after n) z ++ behind_of n) b.is ∙ ap (λ z. after n s ∷ z) (sym longer);
      }

  -- what is behind a way waits on
  behind-next : (k : ℕ) (n : N) (ss : List S) → Sub n → steps n ≡ ss → length ss ≤ k → WaitsOn (behind after later firsts root ss)
  behind-next k n [] sub e h = inl refl
  behind-next zero n (x ∷ ss) sub e h = absurd (omega (arith, h))
  behind-next (suc k) n (x ∷ ss) sub e h =
      let l = has-last x ss in
      let before = walk after later firsts root l.front in
      let came = law.from n l.front l.last sub (e ∙ l.is) in
      let longer : behind after later firsts root (x ∷ ss) ≡ map (after before) (later before l.last) ++ behind after later firsts root l.front =
      ap (behind after later firsts root) l.is ∙ behind-append after later firsts root l.front l.last in
      let front : steps before ≡ l.front = law.leads l.front in
      let whole : behind after later firsts root (x ∷ ss) ≡ map (after before) (later before l.last) ++ behind_of before = longer ∙ ap (λ z. map (after before) (later before l.last) ++ behind after later firsts root z) (sym front) in
      elim (law.next before l.last) [
        | inr b ↦ (let next = first-next before (later before l.last) came.sub (law.later_can before l.last came.can) b in
            inr (record { node = next.node; sub = next.sub; is = whole ∙ next.is }))
        | inl none ↦ (let fewer : length l.front ≤ k = omega (arith, h, ap length l.is, length-append l.front (l.last ∷ [])) in
            let here : behind after later firsts root (x ∷ ss) ≡ behind after later firsts root l.front = longer ∙ ap (λ z. map (after before) z ++ behind after later firsts root l.front) none in
            subst WaitsOn (sym here) (behind-next k before l.front came.sub front fewer))
      ]

  -- after a tag what waits waits on
  pub then-next : (t : T) (n : N) → Sub n → May t n → WaitsOn (made after later firsts t n ++ behind_of n)
  then-next t n sub may =
      elim (law.begin t n) [
        | inr b ↦ inr (first-next n (firsts t n) sub (law.may t n may) b)
        | inl none ↦ subst WaitsOn (sym (ap (λ z. map (after n) z ++ behind_of n) none)) (behind-next (length (steps n)) n (steps n) sub refl (omega arith))
      ]

  -- one mark is followed by the other
  pub record Next (a b : N × T) : Type 0 where
    pub rest : List N
    pub is : made after later firsts a.1 a.0 ++ behind_of a.0 ≡ b.0 ∷ rest

  -- a mark of a subproblem, by a tag that may stand there
  abbrev pub Good : N × T → Type 0
  Good m = Sub m.0 × May m.1 m.0

  -- the marks of tags against what waits on are a line
  pub marks-follow : (n : N) (t : T) (ts : List T) → Sub n → AllByRecursion Good ((n, t) ∷ marks after later firsts (made after later firsts t n ++ behind_of n) ts) → Follow Next (n, t) (marks after later firsts (made after later firsts t n ++ behind_of n) ts)
  marks-follow n t [] sub good =
      elim (then-next t n sub good.0.1) [
        | inl none ↦ subst (λ ns. Follow Next (n, t) (marks after later firsts ns [])) (sym none) tt
        | inr next ↦ subst (λ ns. Follow Next (n, t) (marks after later firsts ns [])) (sym next.is) tt
      ]
  marks-follow n t (u ∷ ts) sub good =
      elim (then-next t n sub good.0.1) [
        | inl none ↦ subst (λ ns. Follow Next (n, t) (marks after later firsts ns (u ∷ ts))) (sym none) tt
        | inr next ↦ (let goods = subst (λ ns. AllByRecursion Good (marks after later firsts ns (u ∷ ts))) next.is good.1 in
            subst (λ ns. Follow Next (n, t) (marks after later firsts ns (u ∷ ts))) (sym next.is)
            (record { rest = behind_of next.node; is = next.is }, marks-follow next.node u ts next.sub goods))
      ]

  -- a piece: its first subproblem and tag, and the other tags
  abbrev pub Run : Type 0
  Run = N × T × List T

  -- its marks
  abbrev pub marked : Run → (N × T) × List (N × T)
  marked p = ((p.0, p.1), marks after later firsts (made after later firsts p.1 p.0 ++ behind_of p.0) p.2)

  -- each piece is a line
  pieces-follow : (ps : List Run) → AllByRecursion Good (laid (map marked ps)) → AllByRecursion (λ p. Follow Next p.0 p.1) (map marked ps)
  pieces-follow [] good = tt
  pieces-follow (p ∷ ps) good =
      let here : AllByRecursion Good ((marked p).0 ∷ (marked p).1) = (good.0, left (marked p).1 (laid (map marked ps)) good.1) in
      (marks-follow p.0 p.1 p.2 good.0.0 here, pieces-follow ps (right (marked p).1 (laid (map marked ps)) good.1))
    where
      left : (xs ys : List (N × T)) → AllByRecursion Good (xs ++ ys) → AllByRecursion Good xs
      left [] ys h = tt
      left (x ∷ xs) ys h = (h.0, left xs ys h.1)

      right : (xs ys : List (N × T)) → AllByRecursion Good (xs ++ ys) → AllByRecursion Good ys
      right [] ys h = h
      right (x ∷ xs) ys h = right xs ys h.1

  -- the order of subproblems, and a test of equality of marks
  pub record IsOrder (less : N → N → Bool) (alike : N × T → N × T → ℕ) : Type 0 where
    pub apart : (a b : N) → less a b ≡ true → less b a ≡ false
    pub never : (a : N) → less a a ≡ false
    pub ahead : (n : N) (t : T) (y : N) (rest : List N) → Sub n → May t n → made after later firsts t n ++ behind_of n ≡ y ∷ rest → less n y ≡ true
    pub self : (a : N × T) → alike a a ≡ 1
    pub same : (a b : N × T) → Good a → Good b → 1 ≤ alike a b → a ≡ b

  -- the marks in their order
  ordered : (less : N → N → Bool) (alike : N × T → N × T → ℕ) → IsOrder less alike → IsOrdered Good (λ a b. less a.0 b.0) alike Next
  ordered less alike o = record {
    apart = λ a b h. o.apart a.0 b.0 h;
    rises = λ a b g x. o.ahead a.0 a.1 b.0 x.rest g.0 g.1 x.is;
    tied = λ a b c x y. (let e : b.0 ≡ c.0 = heads b.0 c.0 x.rest y.rest (sym x.is ∙ y.is) in subst (λ z. less b.0 z ≡ false) e (o.never b.0));
    self = o.self;
    same = o.same;
  }
    where
      heads : (b c : N) (xs ys : List N) → b ∷ xs ≡ c ∷ ys → b ≡ c
      heads b c xs ys e = cc

  -- pieces with just the marks of a tree, in the order of their first subproblems, are the tree in preorder
  pub pieces-assemble : (less : N → N → Bool) (alike : N × T → N × T → ℕ) → IsOrder less alike → (tag : T) (tags : List T) (pieces : List Run) → steps root ≡ [] → Sub root
      → AllByRecursion Good (marks after later firsts (root ∷ []) (tag ∷ tags)) → AllByRecursion Good (laid (map marked pieces))
      → EachPair (λ a b. less a.0 b.0 ≡ true) (marks after later firsts (root ∷ []) (tag ∷ tags))
      → EachPair (λ p q. less q.0.0 p.0.0 ≡ false) (map marked pieces)
      → ((f : N × T → ℕ) → total f (marks after later firsts (root ∷ []) (tag ∷ tags)) ≡ total f (laid (map marked pieces)))
      → laid (map marked pieces) ≡ marks after later firsts (root ∷ []) (tag ∷ tags)
  pieces-assemble less alike o tag tags pieces start sub good goods rising sorted same =
      let none : behind_of root ≡ [] = ap (behind after later firsts root) start in
      let line : IsLine Next (marks after later firsts (root ∷ []) (tag ∷ tags)) =
      subst (λ z. IsLine Next (marks after later firsts (root ∷ z) (tag ∷ tags))) none
      (marks-follow root tag tags sub (subst (λ z. AllByRecursion Good (marks after later firsts (root ∷ z) (tag ∷ tags))) (sym none) good)) in
      pieces-make Good (λ a b. less a.0 b.0) alike Next (ordered less alike o) (marks after later firsts (root ∷ []) (tag ∷ tags)) (map marked pieces) good goods rising line (pieces-follow pieces goods) sorted same

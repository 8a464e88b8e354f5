-- Pieces of a line in the order of their heads: each goes on as the line does.
use Rattle.std.proofs.Common.{◌≡◌, ℕ, ◌≤◌, List, [], ◌∷◌, ◌++◌, arith, refl, ap, sym, subst, ◌∙◌, Bool, true, false, cond, ◌⊎◌, inl, inr}
use Rattle.sf_pieces.proofs.Common.{⊤, AllByRecursion, cases_eq, EachPair, Some, each-left, each-right, each-weaker, total}

-- each element is followed by one that may come next
abbrev pub Follow : {X : Type 0} → (X → X → Type 0) → X → List X → Type 0
Follow Next x [] = ⊤
Follow Next x (y ∷ ys) = Next x y × Follow Next y ys

-- so in a list
abbrev pub IsLine : {X : Type 0} → (X → X → Type 0) → List X → Type 0
IsLine Next [] = ⊤
IsLine Next (x ∷ xs) = Follow Next x xs

-- the elements of pieces, each of which is its head and the others
abbrev pub laid : {X : Type 0} → List (X × List X) → List X
laid [] = []
laid (p ∷ ps) = p.0 ∷ (p.1 ++ laid ps)

-- what must hold of the order, of what comes next, and of a test of equality
pub record IsOrdered {X : Type 0} (Good : X → Type 0) (less : X → X → Bool) (alike : X → X → ℕ) (Next : X → X → Type 0) : Type 0 where
  pub apart : (a b : X) → less a b ≡ true → less b a ≡ false
  pub rises : (a b : X) → Good a → Next a b → less a b ≡ true
  pub tied : (a b c : X) → Next a b → Next a c → less b c ≡ false
  pub self : (a : X) → alike a a ≡ 1
  pub same : (a b : X) → Good a → Good b → 1 ≤ alike a b → a ≡ b

-- some element of two lists is one of the first or of the second
some-append : {X : Type 0} (P : X → Type 0) (xs ys : List X) → Some P (xs ++ ys) → Some P xs ⊎ Some P ys
some-append P [] ys h = inr h
some-append P (x ∷ xs) ys h =
    elim h [
      | inl here ↦ inl (inl here)
      | inr there ↦ elim (some-append P xs ys there) [ inl a ↦ inl (inr a) | inr b ↦ inr b ]
    ]

-- no weight at a test that fails
test-zero : {X : Type 0} (p : X → Bool) (xs : List X) → AllByRecursion (λ x. p x ≡ false) xs → total (λ x. cond (p x) 1 0) xs ≡ 0
test-zero p [] h = refl
test-zero p (x ∷ xs) h =
    let here : ◌≡◌ {A = ℕ} (cond (p x) 1 0) 0 = ap (λ (t : Bool). cond {A = ℕ} t 1 0) h.0 in
    omega (arith, here, test-zero p xs h.1)

-- where the weights of a test are nothing it fails everywhere
zero-test : {X : Type 0} (p : X → Bool) (xs : List X) → total (λ x. cond (p x) 1 0) xs ≡ 0 → AllByRecursion (λ x. p x ≡ false) xs
zero-test p [] h = tt
zero-test p (x ∷ xs) h =
    let here : p x ≡ false = elim (cases_eq (cond {A = ℕ} (p x) 1 0) 0) [
      | inl e ↦ grind (arith, e)
      | inr e ↦ absurd (omega (arith, h, e))
    ] in
    (here, zero-test p xs (omega (arith, h)))

-- a weight that some good element has
heavy-good : {X : Type 0} (Good : X → Type 0) (f : X → ℕ) (P : X → Type 0) (xs : List X) → ((x : X) → Good x → 1 ≤ f x → P x) → AllByRecursion Good xs → 1 ≤ total f xs → Some P xs
heavy-good Good f P [] use_it good h = absurd (omega (arith, h))
heavy-good Good f P (x ∷ xs) use_it good h =
    elim (cases_eq (f x) 0) [
      | inl e ↦ inr (heavy-good Good f P xs use_it good.1 (omega (arith, h, e)))
      | inr e ↦ inl (use_it x good.0 (omega (arith, e)))
    ]

module _ {X : Type 0} (Good : X → Type 0) (less : X → X → Bool) (alike : X → X → ℕ) (Next : X → X → Type 0) (law : IsOrdered Good less alike Next) where
  -- nothing comes before itself
  never : (a : X) → less a a ≡ false
  never a =
      elim (cases_eq (cond {A = ℕ} (less a a) 1 0) 0) [
        | inl e ↦ grind (arith, e)
        | inr e ↦ (let yes : less a a ≡ true = grind (arith, e) in law.apart a a yes)
      ]

  -- an element that no element of two lists of the same weights comes before
  clear-in : (m : X) (xs ys : List X) → ((f : X → ℕ) → total f xs ≡ total f ys) → AllByRecursion (λ z. less z m ≡ false) xs → AllByRecursion (λ z. less z m ≡ false) ys
  clear-in m xs ys same clear =
      zero-test (λ z. less z m) ys (omega (arith, same (λ z. cond (less z m) 1 0), test-zero (λ z. less z m) xs clear))

  -- the first element of a rising list is before none of it
  clear-first : (m : X) (ms : List X) → AllByRecursion (λ z. less m z ≡ true) ms → AllByRecursion (λ z. less z m ≡ false) (m ∷ ms)
  clear-first m ms rising = (never m, each-weaker (λ z. less m z ≡ true) (λ z. less z m ≡ false) (λ z h. law.apart m z h) ms rising)

  -- what follows in a line isn't its least
  no-later : (m x : X) (xs : List X) → Good x → AllByRecursion Good xs → Follow Next x xs → AllByRecursion (λ z. less z m ≡ false) (x ∷ xs) → Some (λ z. z ≡ m) xs → ⊥
  no-later m x [] good goods line clear h = absurd h
  no-later m x (y ∷ ys) good goods line clear h =
      elim h [
        | inl e ↦ (let yes : less x m ≡ true = subst (λ z. less x z ≡ true) e (law.rises x y good line.0) in
            let no : less x m ≡ false = clear.0 in
            absurd (cc))
        | inr there ↦ no-later m y ys goods.0 goods.1 line.1 clear.1 there
      ]

  -- so the least of a line is its head
  at-head : (m x : X) (xs : List X) → Good x → AllByRecursion Good xs → Follow Next x xs → AllByRecursion (λ z. less z m ≡ false) (x ∷ xs) → Some (λ z. z ≡ m) (x ∷ xs) → x ≡ m
  at-head m x xs good goods line clear h =
      elim h [
        | inl e ↦ e
        | inr there ↦ absurd (no-later m x xs good goods line clear there)
      ]

  -- and the least of all pieces is the head of one
  some-head : (m : X) (ps : List (X × List X)) → AllByRecursion Good (laid ps) → AllByRecursion (λ p. Follow Next p.0 p.1) ps → AllByRecursion (λ z. less z m ≡ false) (laid ps) → Some (λ z. z ≡ m) (laid ps) → Some (λ p. p.0 ≡ m) ps
  some-head m [] good lines clear h = absurd h
  some-head m (p ∷ ps) good lines clear h =
      elim (some-append (λ z. z ≡ m) (p.0 ∷ p.1) (laid ps) h) [
        | inl here ↦ inl (at-head m p.0 p.1 good.0 (each-left Good p.1 (laid ps) good.1) lines.0 (clear.0, each-left (λ z. less z m ≡ false) p.1 (laid ps) clear.1) here)
        | inr there ↦ inr (some-head m ps (each-right Good p.1 (laid ps) good.1) lines.1 (each-right (λ z. less z m ≡ false) p.1 (laid ps) clear.1) there)
      ]

  -- a head that is not before the first one
  not-before : (m x : X) (qs : List (X × List X)) → AllByRecursion (λ q. less q.0 x ≡ false) qs → Some (λ p. p.0 ≡ m) qs → less m x ≡ false
  not-before m x [] sorted h = absurd h
  not-before m x (q ∷ qs) sorted h =
      elim h [
        | inl e ↦ subst (λ z. less z x ≡ false) e sorted.0
        | inr there ↦ not-before m x qs sorted.1 there
      ]

  -- an element behind the first of a rising list comes after it
  in-rest : (m x : X) (zs : List X) → AllByRecursion (λ z. less m z ≡ true) zs → less m x ≡ false → Some (λ z. z ≡ x) zs → ⊥
  in-rest m x [] r off k = absurd k
  in-rest m x (z ∷ zs) r off k =
      elim k [
        | inl e ↦ (let yes : less m x ≡ true = subst (λ y. less m y ≡ true) e r.0 in absurd (cc))
        | inr more ↦ in-rest m x zs r.1 off more
      ]

  -- an element of a rising list that its first doesn't come before is the first
  is-first : (m x : X) (ms : List X) → AllByRecursion (λ z. less m z ≡ true) ms → less m x ≡ false → Some (λ z. z ≡ x) (m ∷ ms) → x ≡ m
  is-first m x ms rising off h =
      elim h [
        | inl e ↦ sym e
        | inr there ↦ absurd (in-rest m x ms rising off there)
      ]

  -- an element of one of two lists of the same weights is one of the other
  in-other : (x : X) (xs ys : List X) → Good x → AllByRecursion Good ys → 1 ≤ total (alike x) xs → ((f : X → ℕ) → total f xs ≡ total f ys) → Some (λ z. z ≡ x) ys
  in-other x xs ys good goods h same =
      heavy-good Good (alike x) (λ z. z ≡ x) ys (λ z g k. sym (law.same x z good g k)) goods (omega (arith, h, same (alike x)))

  -- the head of the first piece is the least of all
  first-head : (m x : X) (ms xs : List X) (qs : List (X × List X)) → AllByRecursion Good (m ∷ ms) → AllByRecursion Good (laid ((x, xs) ∷ qs)) → AllByRecursion (λ z. less m z ≡ true) ms
      → Follow Next x xs → AllByRecursion (λ p. Follow Next p.0 p.1) qs → AllByRecursion (λ q. less q.0 x ≡ false) qs
      → ((f : X → ℕ) → total f (m ∷ ms) ≡ total f (laid ((x, xs) ∷ qs))) → x ≡ m
  first-head m x ms xs qs goods good rising line lines sorted same =
      let all = laid ((x, xs) ∷ qs) in
      let clear = clear-in m (m ∷ ms) all same (clear-first m ms rising) in
      let there = in-other m (m ∷ ms) all goods.0 good (omega (arith, law.self m)) same in
      elim (some-head m ((x, xs) ∷ qs) good (line, lines) clear there) [
        | inl e ↦ e
        | inr k ↦ is-first m x ms rising (not-before m x qs sorted k) (in-other x all (m ∷ ms) good.0 goods (omega (arith, law.self x)) (λ f. sym (same f)))
      ]

  -- of the heads of pieces none comes before an element that nothing comes before
  heads-clear : (y : X) (qs : List (X × List X)) → AllByRecursion (λ z. less z y ≡ false) (laid qs) → AllByRecursion (λ q. less q.0 y ≡ false) qs
  heads-clear y [] h = tt
  heads-clear y (q ∷ qs) h = (h.0, heads-clear y qs (each-right (λ z. less z y ≡ false) q.1 (laid qs) h.1))

  -- what comes next in the first piece is what comes next in the line, and no head comes before it
  goes-on : (m y : X) (ms rest : List X) → Good y → AllByRecursion Good ms → EachPair (λ a b. less a b ≡ true) ms → Follow Next m ms → Next m y → Some (λ z. z ≡ y) ms
      → ((f : X → ℕ) → total f ms ≡ total f rest) → AllByRecursion (λ z. less z y ≡ false) rest
  goes-on m y [] rest good goods rising line next there same = absurd there
  goes-on m y (h ∷ hs) rest good goods rising line next there same =
      let e = is-first h y hs rising.0 (law.tied m h y line.0 next) there in
      subst (λ z. AllByRecursion (λ w. less w z ≡ false) rest) (sym e) (clear-in h (h ∷ hs) rest same (clear-first h hs rising.0))

  -- the rest of a line that goes on
  behind-first : (m : X) (ms : List X) → Follow Next m ms → IsLine Next ms
  behind-first m [] line = tt
  behind-first m (h ∷ hs) line = line.1

  -- a rising line, and pieces of such lines with just its elements, in the order of their heads, are the same
  pub pieces-make : (line : List X) (pieces : List (X × List X)) → AllByRecursion Good line → AllByRecursion Good (laid pieces) → EachPair (λ a b. less a b ≡ true) line → IsLine Next line
      → AllByRecursion (λ p. Follow Next p.0 p.1) pieces → EachPair (λ p q. less q.0 p.0 ≡ false) pieces
      → ((f : X → ℕ) → total f line ≡ total f (laid pieces)) → laid pieces ≡ line
  pieces-make [] [] goods good rising line lines sorted same = refl
  pieces-make [] (p ∷ ps) goods good rising line lines sorted same = absurd (omega (arith, same (λ z. 1)))
  pieces-make (m ∷ ms) [] goods good rising line lines sorted same = absurd (omega (arith, same (λ z. 1)))
  pieces-make (m ∷ ms) ((x, []) ∷ qs) goods good rising line lines sorted same =
      let e = first-head m x ms [] qs goods good rising.0 lines.0 lines.1 sorted.0 same in
      let fewer : (f : X → ℕ) → total f ms ≡ total f (laid qs) = λ f. omega (arith, same f, ap f e) in
      let more = pieces-make ms qs goods.1 good.1 rising.1 (behind-first m ms line) lines.1 sorted.1 fewer in
      ap (λ z. z ∷ laid qs) e ∙ ap (λ zs. m ∷ zs) more
  pieces-make (m ∷ ms) ((x, y ∷ ys) ∷ qs) goods good rising line lines sorted same =
      let e = first-head m x ms (y ∷ ys) qs goods good rising.0 lines.0 lines.1 sorted.0 same in
      let rest = laid ((y, ys) ∷ qs) in
      let fewer : (f : X → ℕ) → total f ms ≡ total f rest = λ f. omega (arith, same f, ap f e) in
      let there = in-other y rest ms good.1.0 goods.1 (omega (arith, law.self y)) (λ f. sym (fewer f)) in
      let clear = goes-on m y ms rest good.1.0 goods.1 rising.1 line (subst (λ z. Next z y) e lines.0.0) there fewer in
      let ordered = heads-clear y qs (each-right (λ z. less z y ≡ false) ys (laid qs) clear.1) in
      let more = pieces-make ms ((y, ys) ∷ qs) goods.1 good.1 rising.1 (behind-first m ms line) (lines.0.1, lines.1) (ordered, sorted.1) fewer in
      ap (λ z. z ∷ rest) e ∙ ap (λ zs. m ∷ zs) more

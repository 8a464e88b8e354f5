-- Each step keeps the rule of the word.
use Rattle.std.proofs.Common.{◌≡◌, ◌≢◌, ◌⊎◌, ℕ, zero, suc, ◌+◌, ◌<◌, ◌≤◌, List, [], ◌∷◌, ◌++◌, set, min, refl, sym, ap, ◌∙◌, subst, inl, inr, ⊎_elim, arith, sum_by, slice_index}
use native.Mathlib.Decide.{ℕ_discrete, dec_le}
use Rattle.std.proofs.lemmas.List.Sums.{sum_by-cons}
use mathlib.Core.Option.{some, none, some-ne-none, some-injective}
use lib.ListN.{get_elem?}
use Rattle.atomic_table.specs.Table.{State, Me, step, Allows, Splits, Joins, keeps}
use Rattle.atomic_table.proofs.Lists.{at_set, at_snoc, set_else, at_longer}
use Rattle.sf_incumbent.specs.declared.rule.View.{View}
use Rattle.sf_incumbent.proofs.Common.{most, view, place, split_seat, new_seat, joined_seat, empty_seat, IsLive, IsWord, IsIncumbent, Looks, Offers}

-- the parts of a seat
abbrev parts : View → ℕ
parts v = v.parts

-- the parts of all seats
abbrev total : List View → ℕ
total views = sum_by parts views

-- where the view of one seat changes, the parts of all change by as much as its own
total_set : (views : List View) (seat : ℕ) (v w : View) → get_elem? views seat ≡ some v → total (set views seat w) + parts v ≡ total views + parts w
total_set [] seat v w at = absurd (some-ne-none v (sym at))
total_set (x ∷ xs) zero v w at = omega (arith, sum_by-cons parts x xs, sum_by-cons parts w xs, ap parts (some-injective x v at))
total_set (x ∷ xs) (suc seat) v w at = omega (arith, sum_by-cons parts x xs, sum_by-cons parts x (set xs seat w), total_set xs seat v w at)

-- with one seat more, the parts of all are more by its own
total_snoc : (views : List View) (w : View) → total (views ++ w ∷ []) ≡ total views + parts w
total_snoc [] w = omega (arith, sum_by-cons parts w [])
total_snoc (x ∷ xs) w = omega (arith, sum_by-cons parts x xs, sum_by-cons parts x (xs ++ w ∷ []), total_snoc xs w)

-- a seat has at most the parts of all
total_at : (views : List View) (seat : ℕ) (v : View) → get_elem? views seat ≡ some v → parts v ≤ total views
total_at [] seat v at = absurd (some-ne-none v (sym at))
total_at (x ∷ xs) zero v at = omega (arith, sum_by-cons parts x xs, ap parts (some-injective x v at))
total_at (x ∷ xs) (suc seat) v at = omega (arith, sum_by-cons parts x xs, total_at xs seat v at)

-- of two seats, both have parts of the whole
total_two : (views : List View) (i j : ℕ) (v w : View) → get_elem? views i ≡ some v → get_elem? views j ≡ some w → j ≢ i → parts v + parts w ≤ total views
total_two [] i j v w at at' ne = absurd (some-ne-none v (sym at))
total_two (x ∷ xs) zero zero v w at at' ne = absurd (ne refl)
total_two (x ∷ xs) zero (suc j) v w at at' ne = omega (arith, sum_by-cons parts x xs, ap parts (some-injective x v at), total_at xs j w at')
total_two (x ∷ xs) (suc i) zero v w at at' ne = omega (arith, sum_by-cons parts x xs, ap parts (some-injective x w at'), total_at xs i v at)
total_two (x ∷ xs) (suc i) (suc j) v w at at' ne = omega (arith, sum_by-cons parts x xs, total_two xs i j v w at at' (λ e. ne (ap suc e)))

-- what was put at a seat's number stands there
at_here : (l : List View) (i : ℕ) (a b : View) → get_elem? l i ≡ some a → get_elem? (set l i b) i ≡ some b
at_here [] i a b e = absurd (some-ne-none a (sym e))
at_here (x ∷ xs) zero a b e = refl
at_here (x ∷ xs) (suc i) a b e = at_here xs i a b e

-- at one number stands one view
same_seat : (views : List View) (i j : ℕ) (v u : View) → get_elem? views i ≡ some v → get_elem? views j ≡ some u → j ≡ i → u ≡ v
same_seat views i j v u at at' e = some-injective u v (sym at' ∙ ap (get_elem? views) e ∙ at)

-- the word is the start, or the least offered of a seat that isn't spent
abbrev IsOne : ℕ → ℕ → List View → Type 0
IsOne start word views = (word ≡ start) ⊎ ((seat : ℕ) × (v : View) × IsLive views seat v × (word ≡ v.offered))

-- what one was stays one, where each live view is followed by a live view that has offered the new word
follows : (start word : ℕ) (views views' : List View) → IsOne start word views
    → ((j : ℕ) (u : View) → IsLive views j u → word ≡ u.offered → (i : ℕ) × (w : View) × IsLive views' i w × (word ≡ w.offered)) → IsOne start word views'
follows start word views views' one next = elim one as (λ _. IsOne start word views') [ inl e ↦ inl e | inr x ↦ inr (next x.0 x.1 x.2 x.3) ]

-- one seat's view changes and keeps its parts, and the word falls to `new` or stays
module _ (start seats word new : ℕ) (views : List View) (seat : ℕ) (v w : View) (h : IsWord start seats word views) (at : get_elem? views seat ≡ some v) (some_part : 0 < v.parts)
    (same : w.parts ≡ v.parts) where
  -- the rule of the word holds after the change, where the word fell to no more than the seat has seen and
  -- offered
  after : new ≤ word → new ≤ w.seen → new ≤ w.offered → IsOne start new (set views seat w) → IsWord start seats new (set views seat w)
  after falls seen offered one = record {
    small = h.small;
    below_start = let b = h.below_start in omega arith;
    below_seats = λ j u live. ⊎_elim
        (λ (x : (j ≡ seat) × (w ≡ u)). subst (λ (y : View). (new ≤ y.seen) × (new ≤ y.offered)) x.1 (seen, offered))
        (λ (x : (j ≢ seat) × (get_elem? views j ≡ some u)). let b = h.below_seats j u (x.1, live.1) in (omega arith, omega arith))
        (at_set views seat j w u live.0);
    is_one = one;
    parts_add_up = let t = total_set views seat v w at in let p = h.parts_add_up in omega arith;
    idle = λ j u there none. ⊎_elim
        (λ (x : (j ≡ seat) × (w ≡ u)). let p : parts w ≡ parts u = ap parts x.1 in absurd (omega arith))
        (λ (x : (j ≢ seat) × (get_elem? views j ≡ some u)). h.idle j u x.1 none)
        (at_set views seat j w u there);
  }

  -- the word is one that this seat has offered
  mine : new ≡ w.offered → IsOne start new (set views seat w)
  mine e = inr (seat, w, (at_here views seat v w at, omega arith), e)

  -- where the word is the same, and the seat's least offer is, or was not the word
  others : new ≡ word → (word ≡ v.offered → word ≡ w.offered) → IsOne start word (set views seat w)
  others e still = follows start word views (set views seat w) h.is_one (λ j u live is.
      elim (ℕ_discrete j seat) as (λ _. (i : ℕ) × (y : View) × IsLive (set views seat w) i y × (word ≡ y.offered)) [
        | yes eq ↦ (seat, w, (at_here views seat v w at, omega arith), still (is ∙ ap (λ (y : View). y.offered) (same_seat views seat j v u at live.0 eq)))
        | no ne ↦ (j, u, (set_else views seat j w ne ∙ live.0, live.1), is)
      ])

-- the word in its table and the seats keep the rule of the word
abbrev Holds : ℕ → ℕ → State (Unit {0}) View → Type 0
Holds start seats s = IsIncumbent start seats s.words s.views

-- a word, changed by a function that keeps 0, is what the function makes of it
word_after : (f : ℕ → ℕ) → f 0 ≡ 0 → (i : ℕ) (ws : List ℕ) → slice_index (set ws i (f (slice_index ws i))) i ≡ f (slice_index ws i)
word_after f e i [] = sym e
word_after f e zero (x ∷ xs) = refl
word_after f e (suc i) (x ∷ xs) = word_after f e i xs

-- a seat with a part may load the word: the rule stays kept, and the seat has seen what it found
pub looks : (start seats slots seat : ℕ) (me : Me (Unit {0}) View) → 0 < me.0.parts
    → Allows (Holds start seats) slots seat me place (λ n. n) (Looks (step slots place 0 0 none) me)
looks start seats slots seat me some_part s h homes at fits =
    let v : View = me.0 in
    let word : ℕ = slice_index s.words place in
    let w : View = view word v.offered v.parts in
    let below : (word ≤ v.seen) × (word ≤ v.offered) = h.below_seats seat v (at, some_part) in (
      w,
      keeps,
      tt,
      subst (λ (n : ℕ). IsWord start seats n (set s.views seat w)) (sym (word_after (λ n. n) refl place s.words))
          (after start seats word word s.views seat v w h at some_part refl (omega arith) (omega arith) below.1 (others start seats word word s.views seat v w h at some_part refl refl (λ e. e))),
      (refl, below.0, below.1),
    )

-- a seat with a part may lower the word to its cost: the rule stays kept, and the seat has offered the cost
pub offers : (start seats slots seat cost : ℕ) (me : Me (Unit {0}) View) → 0 < me.0.parts
    → Allows (Holds start seats) slots seat me place (λ n. min n cost) (Offers (step slots place cost 0 none) me)
offers start seats slots seat cost me some_part s h homes at fits =
    let v : View = me.0 in
    let word : ℕ = slice_index s.words place in
    let w : View = view (min word cost) (min v.offered cost) v.parts in
    let below : (word ≤ v.seen) × (word ≤ v.offered) = h.below_seats seat v (at, some_part) in
    let new : ℕ = min word cost in
    let one : IsOne start new (set s.views seat w) = elim (dec_le cost word) as (λ _. IsOne start new (set s.views seat w)) [
      | yes less ↦ mine start seats word new s.views seat v w h at some_part refl (omega arith)
      | no not_less ↦ (let same : new ≡ word = omega arith in subst (λ (n : ℕ). IsOne start n (set s.views seat w)) (sym same)
          (others start seats word new s.views seat v w h at some_part refl same (λ e. omega arith)))
    ] in (
      w,
      keeps,
      tt,
      subst (λ (n : ℕ). IsWord start seats n (set s.views seat w)) (sym (word_after (λ n. min n cost) (omega arith) place s.words))
          (after start seats word new s.views seat v w h at some_part refl (omega arith) (omega arith) (omega arith) one),
      (refl, below.0, below.1),
    )

-- a seat with two parts or more may be split, and the rule stays kept
pub splits : (start seats seat : ℕ) (v : View) → 2 ≤ v.parts → Splits (Holds start seats) seat v (split_seat v) (new_seat v)
splits start seats seat v two s h at =
    let word : ℕ = slice_index s.words place in
    let mid : List View = set s.views seat (split_seat v) in
    let below : (word ≤ v.seen) × (word ≤ v.offered) = h.below_seats seat v (at, omega arith) in
    let low : word ≤ most = let a = h.small in let b = h.below_start in omega arith in
    record {
      small = h.small;
      below_start = h.below_start;
      below_seats = λ j u live. ⊎_elim
          (λ (was : get_elem? mid j ≡ some u). ⊎_elim
          (λ (x : (j ≡ seat) × (split_seat v ≡ u)). subst (λ (y : View). (word ≤ y.seen) × (word ≤ y.offered)) x.1 below)
          (λ (x : (j ≢ seat) × (get_elem? s.views j ≡ some u)). h.below_seats j u (x.1, live.1))
          (at_set s.views seat j (split_seat v) u was))
          (λ (is : new_seat v ≡ u). subst (λ (y : View). (word ≤ y.seen) × (word ≤ y.offered)) is (below.0, low))
          (at_snoc mid (new_seat v) u j live.0);
      is_one = follows start word s.views (mid ++ new_seat v ∷ []) h.is_one (λ j u live is.
          elim (ℕ_discrete j seat) as (λ _. (i : ℕ) × (y : View) × IsLive (mid ++ new_seat v ∷ []) i y × (word ≡ y.offered)) [
            | yes eq ↦ (seat, split_seat v, (at_longer mid (new_seat v ∷ []) seat (split_seat v) (at_here s.views seat v (split_seat v) at), omega arith), is ∙ ap (λ (y : View). y.offered) (same_seat s.views seat j v u at live.0 eq))
            | no ne ↦ (j, u, (at_longer mid (new_seat v ∷ []) j u (set_else s.views seat j (split_seat v) ne ∙ live.0), live.1), is)
          ]);
      parts_add_up = let t = total_set s.views seat v (split_seat v) at in let q = total_snoc mid (new_seat v) in let p = h.parts_add_up in omega arith;
      idle = λ j u there none. ⊎_elim
          (λ (was : get_elem? mid j ≡ some u). ⊎_elim
          (λ (x : (j ≡ seat) × (split_seat v ≡ u)). let p : parts (split_seat v) ≡ parts u = ap parts x.1 in absurd (omega arith))
          (λ (x : (j ≢ seat) × (get_elem? s.views j ≡ some u)). h.idle j u x.1 none)
          (at_set s.views seat j (split_seat v) u was))
          (λ (is : new_seat v ≡ u). let p : parts (new_seat v) ≡ parts u = ap parts is in absurd (omega arith))
          (at_snoc mid (new_seat v) u j there);
    }

-- two seats with parts may be joined, and the rule stays kept
pub joins : (start seats seat : ℕ) (v : View) (other : ℕ) (w : View) → 0 < v.parts → 0 < w.parts → Joins (Holds start seats) seat v other w (joined_seat v w) empty_seat
joins start seats seat v other w vs ws s h at apart at' =
    let word : ℕ = slice_index s.words place in
    let both : View = joined_seat v w in
    let mid : List View = set s.views seat both in
    let end : List View = set mid other empty_seat in
    let was : get_elem? s.views other ≡ some w = sym (set_else s.views seat other both apart) ∙ at' in
    let below : (word ≤ v.seen) × (word ≤ v.offered) = h.below_seats seat v (at, vs) in
    let below' : (word ≤ w.seen) × (word ≤ w.offered) = h.below_seats other w (was, ws) in
    let here : IsLive end seat both = (set_else mid other seat empty_seat (λ e. apart (sym e)) ∙ at_here s.views seat v both at, omega arith) in
    record {
      small = h.small;
      below_start = h.below_start;
      below_seats = λ j u live. ⊎_elim
          (λ (x : (j ≡ other) × (empty_seat ≡ u)). let p : parts empty_seat ≡ parts u = ap parts x.1 in let q = live.1 in absurd (omega arith))
          (λ (x : (j ≢ other) × (get_elem? mid j ≡ some u)). ⊎_elim
          (λ (y : (j ≡ seat) × (both ≡ u)). subst (λ (z : View). (word ≤ z.seen) × (word ≤ z.offered)) y.1 (omega arith, omega arith))
          (λ (y : (j ≢ seat) × (get_elem? s.views j ≡ some u)). h.below_seats j u (y.1, live.1))
          (at_set s.views seat j both u x.1))
          (at_set mid other j empty_seat u live.0);
      is_one = follows start word s.views end h.is_one (λ j u live is.
          elim (ℕ_discrete j seat) as (λ _. (i : ℕ) × (y : View) × IsLive end i y × (word ≡ y.offered)) [
            | yes eq ↦ (seat, both, here, (let e : word ≡ v.offered = is ∙ ap (λ (y : View). y.offered) (same_seat s.views seat j v u at live.0 eq) in omega arith))
            | no ne ↦ elim (ℕ_discrete j other) as (λ _. (i : ℕ) × (y : View) × IsLive end i y × (word ≡ y.offered)) [
              | yes eq ↦ (seat, both, here, (let e : word ≡ w.offered = is ∙ ap (λ (y : View). y.offered) (same_seat s.views other j w u was live.0 eq) in omega arith))
              | no ne' ↦ (j, u, (set_else mid other j empty_seat ne' ∙ (set_else s.views seat j both ne ∙ live.0), live.1), is)
            ]
          ]);
      parts_add_up = let t = total_set s.views seat v both at in let q = total_set mid other w empty_seat at' in let p = h.parts_add_up in omega arith;
      idle = λ j u there none. ⊎_elim
          (λ (x : (j ≡ other) × (empty_seat ≡ u)). ap (λ (y : View). y.offered) (sym x.1))
          (λ (x : (j ≢ other) × (get_elem? mid j ≡ some u)). ⊎_elim
          (λ (y : (j ≡ seat) × (both ≡ u)). let p : parts both ≡ parts u = ap parts y.1 in absurd (omega arith))
          (λ (y : (j ≢ seat) × (get_elem? s.views j ≡ some u)). h.idle j u y.1 none)
          (at_set s.views seat j both u x.1))
          (at_set mid other j empty_seat u there);
    }

-- who has all parts knows the word
pub least : (start seats seat word : ℕ) (views : List View) (v : View) → IsWord start seats word views → get_elem? views seat ≡ some v → 0 < v.parts → v.parts ≡ seats
    → (word ≡ min start v.offered) × (word ≤ v.seen)
least start seats seat word views v h at some_part all =
    let below : (word ≤ v.seen) × (word ≤ v.offered) = h.below_seats seat v (at, some_part) in
    let low = h.below_start in
    let sums = h.parts_add_up in (
      elim h.is_one as (λ _. word ≡ min start v.offered) [
        | inl e ↦ omega arith
        | inr x ↦ elim (ℕ_discrete x.0 seat) as (λ _. word ≡ min start v.offered) [
          | yes eq ↦ (let e : word ≡ v.offered = x.3 ∙ ap (λ (y : View). y.offered) (same_seat views seat x.0 v x.1 at x.2.0 eq) in omega arith)
          | no ne ↦ (let t = total_two views seat x.0 v x.1 at x.2.0 ne in let q = x.2.1 in absurd (omega arith))
        ]
      ],
      below.0,
    )

-- a word that is found at a place is the word there
pub word_at : (i : ℕ) (ws : List ℕ) (n : ℕ) → get_elem? ws i ≡ some n → slice_index ws i ≡ n
word_at i [] n e = absurd (some-ne-none n (sym e))
word_at zero (x ∷ xs) n e = some-injective x n e
word_at (suc i) (x ∷ xs) n e = word_at i xs n e

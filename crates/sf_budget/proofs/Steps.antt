-- Each step keeps the rule of the word.
use Rattle.std.proofs.Common.{◌≡◌, ℕ, zero, suc, ◌+◌, ◌-◌, ◌≤◌, ◌==◌, List, [], ◌∷◌, ◌++◌, set, refl, sym, ap, arith, inl, inr, sum_by, slice_index}
use Rattle.std.proofs.lemmas.List.Sums.{sum_by-cons}
use Rattle.std.proofs.lemmas.Bool.Decides.{eqb_tells}
use mathlib.Core.Option.{some, none, some-ne-none, some-injective}
use lib.ListN.{get_elem?}
use prog.Atomic.{either}
use Rattle.atomic_table.specs.Table.{State, Me, step, Allows, Splits, Joins, Seen, keeps}
use Rattle.sf_budget.specs.declared.rule.View.{View}
use Rattle.sf_budget.proofs.Common.{Draws, IsBudget, place, taken, view}

-- what an account has drawn
abbrev drawn_by : View → ℕ
drawn_by v = v.drawn

-- what all accounts have drawn
abbrev total : List View → ℕ
total views = sum_by drawn_by views

-- where one account changes, the sum changes by as much
total_set : (views : List View) (i : ℕ) (v w : View) → get_elem? views i ≡ some v → total (set views i w) + v.drawn ≡ total views + w.drawn
total_set [] i v w at = absurd (some-ne-none v (sym at))
total_set (x ∷ xs) zero v w at = omega (arith, sum_by-cons drawn_by x xs, sum_by-cons drawn_by w xs, ap drawn_by (some-injective x v at))
total_set (x ∷ xs) (suc i) v w at = omega (arith, sum_by-cons drawn_by x xs, sum_by-cons drawn_by x (set xs i w), total_set xs i v w at)

-- one account more adds what it has drawn
total_snoc : (views : List View) (w : View) → total (views ++ w ∷ []) ≡ total views + w.drawn
total_snoc [] w = omega (arith, sum_by-cons drawn_by w [])
total_snoc (x ∷ xs) w = omega (arith, sum_by-cons drawn_by x xs, sum_by-cons drawn_by x (xs ++ w ∷ []), total_snoc xs w)

-- an account has drawn no more than all have
total_at : (views : List View) (i : ℕ) (v : View) → get_elem? views i ≡ some v → v.drawn ≤ total views
total_at [] i v at = absurd (some-ne-none v (sym at))
total_at (x ∷ xs) zero v at = omega (arith, sum_by-cons drawn_by x xs, ap drawn_by (some-injective x v at))
total_at (x ∷ xs) (suc i) v at = omega (arith, sum_by-cons drawn_by x xs, total_at xs i v at)

-- a word, changed by a function that keeps 0, is what the function makes of it
word_after : (f : ℕ → ℕ) → f 0 ≡ 0 → (i : ℕ) (ws : List ℕ) → slice_index (set ws i (f (slice_index ws i))) i ≡ f (slice_index ws i)
word_after f e i [] = sym e
word_after f e zero (x ∷ xs) = refl
word_after f e (suc i) (x ∷ xs) = word_after f e i xs

-- what is found is what is left after a draw and what the draw took
left_and_taken : (old new found : ℕ) → new ≤ old → either (found == old) new found + taken old new found ≡ found
left_and_taken old new found low =
    elim (eqb_tells found old) [
      | inl p ↦ (let a : either (found == old) new found ≡ new = ap (λ b. either b new found) p.0 in let c : taken old new found ≡ old - new = ap (λ b. either b (old - new) 0) p.0 in let e = p.1 in omega (arith, a, c, e, low))
      | inr p ↦ (let a : either (found == old) new found ≡ found = ap (λ b. either b new found) p.0 in let c : taken old new found ≡ 0 = ap (λ b. either b (old - new) 0) p.0 in omega (arith, a, c))
    ]

-- a draw keeps the rule
pub draws : (amount slots account old new : ℕ) (me : Me (Unit {0}) View) → new ≤ old
    → Allows (λ (s : State (Unit {0}) View). IsBudget amount s.words s.views) slots account me place (λ n. either (n == old) new n) (Draws (step slots place old new none) me)
draws amount slots account old new me low s h homes at fits =
    let f : ℕ → ℕ = λ n. either (n == old) new n in
    let word : ℕ = slice_index s.words place in
    let w : View = view (me.0.drawn + taken old new word) in (
      w,
      keeps,
      tt,
      (let none_left = left_and_taken old new 0 low in
          let a = word_after f (omega (arith, none_left)) place s.words in
          let b = left_and_taken old new word low in
          let c = total_set s.views account me.0 w at in omega (arith, a, b, c, h)),
      refl,
    )

-- a new account keeps the rule
pub splits : (amount account : ℕ) (v : View) → Splits (λ (s : State (Unit {0}) View). IsBudget amount s.words s.views) account v v (view 0)
splits amount account v s h at =
    let a = total_set s.views account v v at in
    let b = total_snoc (set s.views account v) (view 0) in omega (arith, a, b, h)

-- joined accounts keep the rule
pub joins : (amount account : ℕ) (v : View) (other : ℕ) (w : View) → Joins (λ (s : State (Unit {0}) View). IsBudget amount s.words s.views) account v other w (view (v.drawn + w.drawn)) (view 0)
joins amount account v other w s h at apart at' =
    let both : View = view (v.drawn + w.drawn) in
    let a = total_set s.views account v both at in
    let b = total_set (set s.views account both) other w (view 0) at' in omega (arith, a, b, h)

-- no account has drawn more than the amount
pub at_most : (amount account : ℕ) (s : State (Unit {0}) View) (v : View) → Seen (λ (t : State (Unit {0}) View). IsBudget amount t.words t.views) account v s → v.drawn ≤ amount
at_most amount account s v h = omega (arith, h.0, total_at s.views account v h.1)

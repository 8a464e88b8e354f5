-- Splits that lead to a size, and the plans that they lead to.
use Rattle.std.proofs.Common.{◌≡◌, ◌≢◌, ℕ, zero, suc, ◌-◌, ◌^◌, ◌<◌, ◌≤◌, inl, inr, List, length, arith, refl, sym, subst}
use Rattle.sf_subsets.proofs.Common.{All, All-contains, AreMade, Contains, Design, Direction, IsJoined, IsPart, IsPlanOfSize, Leaf, Shape, Tree, bit_and, cases_lt, curve_at, plan_in, size_in, IsMade, IsSplitJoin, IsSplitOf}
use Rattle.sf_subsets.specs.declared.splitting.Split.{Split}
use Rattle.sf_subsets.proofs.Bits.{next-part}
use Rattle.sf_subsets.proofs.Plans.{leaf_alone_plan, parts-joined}

-- each point of the curves is the size of a plan of its set
pub made-plan : (design : Design) (curves : List (List Shape)) → AreMade design curves → (n set : ℕ) → set ≤ n → set < length curves → (p : Shape) → Contains (curve_at curves set) p → (tree : Tree) × IsPlanOfSize design set p tree
made-plan design curves made zero set le lt p c =
    elim (made set lt p c) [
      | inl e ↦ (Leaf e.0 p, record { plan = leaf_alone_plan design e.0 set p e.1 e.2; is = refl })
      | inr e ↦ absurd (omega (arith, e.less, le))
    ]
made-plan design curves made (suc n) set le lt p c =
    elim (made set lt p c) [
      | inl e ↦ (Leaf e.0 p, record { plan = leaf_alone_plan design e.0 set p e.1 e.2; is = refl })
      | inr e ↦ (
          let j = e.joined.1 in
          let x = made-plan design curves made n (set - e.part) (omega (arith, e.some, e.less, le)) (omega (arith, lt)) j.0 j.2 in
          let y = made-plan design curves made n e.part (omega (arith, e.less, le)) (omega (arith, e.less, lt)) j.1 j.3 in
          (plan_in e.joined.0 x.0 y.0, parts-joined design e.joined.0 e.part set j.0 j.1 p x.0 y.0 (plan_in e.joined.0 x.0 y.0) e.is_part x.1 y.1 (sym j.4) refl))
    ]

-- where no two points have the size together, none is joined to it
pub none-joined : (left right : List Shape) (size : Shape) → All (λ p. All (λ q. (d : Direction) → size_in d p q ≢ size) right) left → ¬ IsJoined left right size
none-joined left right size none h =
    let j = h.1 in
    All-contains (λ q. (d : Direction) → size_in d j.0 q ≢ size) right j.1
    (All-contains (λ p. All (λ q. (d : Direction) → size_in d p q ≢ size) right) left j.0 none j.2) j.3 h.0 (sym j.4)

-- no split whose part is above this one leads to the size
abbrev pub IsPassed : List (List Shape) → ℕ → Shape → ℕ → Type 0
IsPassed curves set size part =
    (b : ℕ) → IsPart b set → part < b → b < set → ¬ IsJoined (curve_at curves (set - b)) (curve_at curves b) size

-- no part is above the first
pub passed-begin : (curves : List (List Shape)) (set : ℕ) (size : Shape) → 0 < set → IsPassed curves set size (bit_and (set - 1) set)
passed-begin curves set size some b is_part above less =
    absurd (omega (arith, next-part set set b (λ i. omega arith) is_part less, above))

-- one more part is passed
pub passed-next : (curves : List (List Shape)) (set part : ℕ) (size : Shape) → IsPart part set → ¬ IsJoined (curve_at curves (set - part)) (curve_at curves part) size → IsPassed curves set size part → IsPassed curves set size (bit_and (part - 1) set)
passed-next curves set part size here none passed b is_part above less =
    elim (cases_lt part b) [
      | inl before ↦ passed b is_part before less
      | inr ge ↦ elim (cases_lt b part) [
        | inl later ↦ absurd (omega (arith, next-part part set b here is_part later, above))
        | inr le ↦ (let e : part ≡ b = omega arith in
            subst (λ v. ¬ IsJoined (curve_at curves (set - v)) (curve_at curves v) size) e none)
      ]
    ]

-- where no split leads to a point, it is a shape of the set's only block
pub leaf-found : (design : Design) (curves : List (List Shape)) (set low : ℕ) (p : Shape) → IsMade design curves set p → ¬ IsSplitJoin curves set p → ((b : ℕ) → set ≡ 2 ^ b → low ≡ b) → IsPlanOfSize design set p (Leaf low p)
leaf-found design curves set low p made none only =
    elim made [
      | inl e ↦ subst (λ v. IsPlanOfSize design set p (Leaf v p)) (sym (only e.0 e.1)) record { plan = leaf_alone_plan design e.0 set p e.1 e.2; is = refl }
      | inr e ↦ absurd (none e)
    ]

-- plans of the two points of a split, joined, have the size that it leads to
pub split-found : (design : Design) (curves : List (List Shape)) (set : ℕ) (size : Shape) (split : Split) (x y tree : Tree) → IsSplitOf curves set size split → IsPlanOfSize design (set - split.part) split.first x → IsPlanOfSize design split.part split.second y → tree ≡ plan_in split.direction x y → IsPlanOfSize design set size tree
split-found design curves set size split x y tree h px py is =
    parts-joined design split.direction split.part set split.first split.second size x y tree h.is_part px py h.is is

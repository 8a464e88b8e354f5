-- A plan of a subproblem belongs to exactly one half of a span that is split.
use Rattle.std.proofs.Common.{◌≡◌, ℕ, ◌+◌, ◌-◌, ◌<◌, ◌≤◌, min, List, [], ◌∷◌, length, drop, get_or, All, AllPairs, cond, length-take, length-drop, get_or-take, get_or-drop, arith, refl, ap, sym, subst, ◌∙◌, ◌==◌, Bool, ◌⊎◌, inl, inr, get_or-set_same, get_or-set_other}
use Rattle.sf_node.proofs.Common.{count_by, Contains, slice_range, slice_set, AllByRecursion, cases_eq, cases_lt, eq-eqb, ne_eqb, recursion_from_All, All-from_recursion, sum_by-cons, Design, Shape, Tree, leaves, block_count, shapes_of, Some, Any-from_recursion, AllPairs-from_recursion, each-weaker, Parts, Belongs, span_of, middle, split, CanSplit, IsBefore, span_in, shapes_in, BelongsToOne}

-- x stands at a place of xs from one number on and before another
pub record InSpan {X : Type 0} (xs : List X) (from to : ℕ) (x : X) : Type 0 where
  pub at : ℕ
  pub low : from ≤ at
  pub high : at < to
  pub within : at < length xs
  pub is : get_or xs at x ≡ x

-- a shape that the span contains stands at a place of it
pub in_span : {X : Type 0} (xs : List X) (from to : ℕ) (x : X) → Contains (slice_range xs from to) x → InSpan xs from to x
in_span xs from to x h =
    let k = h.0 in
    let n : k < min (to - from) (length xs - from) = omega (arith, h.1, length-take (to - from) (drop from xs), length-drop from xs) in
    record {
      at = from + k;
      low = omega arith;
      high = omega arith;
      within = omega arith;
      is = sym (get_or-drop from xs k x) ∙ sym (get_or-take (to - from) (drop from xs) k x (omega arith)) ∙ h.2;
    }

-- a shape at a place of the span is one that it contains
pub from_in_span : {X : Type 0} (xs : List X) (from to : ℕ) (x : X) → InSpan xs from to x → Contains (slice_range xs from to) x
from_in_span xs from to x s =
    let e : from + (s.at - from) ≡ s.at = omega (arith, s.low) in (
      s.at - from,
      omega (arith, s.low, s.high, s.within, length-take (to - from) (drop from xs), length-drop from xs),
      get_or-take (to - from) (drop from xs) (s.at - from) x (omega (arith, s.low, s.high)) ∙ get_or-drop from xs (s.at - from) x ∙ ap (λ n. get_or xs n x) e ∙ s.is,
    )

module _ {X : Type 0} (key : X → ℕ) (b : ℕ) where
  -- an element with the key counts once more
  count-here : (x : X) (xs : List X) → key x ≡ b → count_by (λ y. key y == b) (x ∷ xs) ≡ 1 + count_by (λ y. key y == b) xs
  count-here x xs h =
      let e : ◌≡◌ {A = ℕ} (cond (key x == b) 1 0) 1 = ap (λ (t : Bool). cond {A = ℕ} t 1 0) (eq-eqb (key x) b h) in
      omega (arith, e, sum_by-cons (λ y. cond (key y == b) 1 0) x xs)

  -- an element with another key doesn't count
  count-other : (x : X) (xs : List X) → (key x ≡ b → ⊥) → count_by (λ y. key y == b) (x ∷ xs) ≡ count_by (λ y. key y == b) xs
  count-other x xs h =
      let e : ◌≡◌ {A = ℕ} (cond (key x == b) 1 0) 0 = ap (λ (t : Bool). cond {A = ℕ} t 1 0) (ne_eqb (key x) b h) in
      omega (arith, e, sum_by-cons (λ y. cond (key y == b) 1 0) x xs)

  -- where no element has the key, anything holds of those that do
  none-has : (P : X → Type 0) (xs : List X) → count_by (λ y. key y == b) xs ≡ 0 → AllByRecursion (λ x. key x ≡ b → P x) xs
  none-has P [] h = tt
  none-has P (x ∷ xs) h =
      elim (cases_eq (key x) b) [
        | inl e ↦ absurd (omega (arith, count-here x xs e))
        | inr e ↦ (λ k. absurd (e k), none-has P xs (sym (count-other x xs e) ∙ h))
      ]

  -- where one element at most has the key, a choice for each that has it is one choice for all
  one-choice : (P Q : X → Type 0) (xs : List X) → count_by (λ y. key y == b) xs ≤ 1 → AllByRecursion (λ x. key x ≡ b → P x ⊎ Q x) xs → AllByRecursion (λ x. key x ≡ b → P x) xs ⊎ AllByRecursion (λ x. key x ≡ b → Q x) xs
  one-choice P Q [] h a = inl tt
  one-choice P Q (x ∷ xs) h a =
      elim (cases_eq (key x) b) [
        | inl e ↦ elim (a.0 e) [
          | inl p ↦ inl (λ k. p, none-has P xs (omega (arith, h, count-here x xs e)))
          | inr q ↦ inr (λ k. q, none-has Q xs (omega (arith, h, count-here x xs e)))
        ]
        | inr e ↦ elim (one-choice P Q xs (omega (arith, h, count-other x xs e)) a.1) [
          | inl p ↦ inl (λ k. absurd (e k), p)
          | inr q ↦ inr (λ k. absurd (e k), q)
        ]
      ]

  -- an element has the key
  pub one-has : (P : X → Type 0) (xs : List X) → 1 ≤ count_by (λ y. key y == b) xs → AllByRecursion P xs → (x : X) × (key x ≡ b) × P x
  one-has P [] h a = absurd (omega arith)
  one-has P (x ∷ xs) h a =
      elim (cases_eq (key x) b) [
        | inl e ↦ (x, e, a.0)
        | inr e ↦ one-has P xs (omega (arith, count-other x xs e)) a.1
      ]

-- what stands in a span stands in one of its halves
halve : {X : Type 0} (xs : List X) (from m to : ℕ) (x : X) → InSpan xs from to x → InSpan xs from m x ⊎ InSpan xs m to x
halve xs from m to x s =
    elim (cases_lt s.at m) [
      | inl h ↦ inl (record { at = s.at; low = s.low; high = h; within = s.within; is = s.is })
      | inr h ↦ inr (record { at = s.at; low = h; high = s.high; within = s.within; is = s.is })
    ]

-- distinct shapes stand in one half only
not-both : (xs : List Shape) (from m to : ℕ) (x : Shape) → AllPairs IsBefore xs → InSpan xs from m x → InSpan xs m to x → ⊥
not-both xs from m to x apart s t =
    let before : IsBefore (get_or xs s.at x) (get_or xs t.at x) = apart s.at t.at x (omega (arith, s.high, t.low)) t.within in
    let same : IsBefore x x = subst (λ z. IsBefore z x) s.is (subst (λ z. IsBefore (get_or xs s.at x) z) t.is before) in
    let below = same.1 refl in
    omega arith

-- what holds of each where two facts do
pub each-both : {X : Type 0} (P Q R : X → Type 0) → ((x : X) → P x → Q x → R x) → (xs : List X) → AllByRecursion P xs → AllByRecursion Q xs → AllByRecursion R xs
each-both P Q R f [] p q = tt
each-both P Q R f (x ∷ xs) p q = (f x p.0 q.0, each-both P Q R f xs p.1 q.1)

-- the leaf's shape stands in this span of its block's list
abbrev StandsIn : Design → ℕ × ℕ → ℕ × Shape → Type 0
StandsIn design span leaf = InSpan (shapes_of design leaf.0) span.0 span.1 leaf.1

-- the leaf's shape is one of those in the span of its block
abbrev ChosenBy : Design → List (ℕ × ℕ) → ℕ × Shape → Type 0
ChosenBy design spans leaf = Contains (shapes_in design spans leaf.0) leaf.1

-- a leaf chosen by the old spans is chosen with one halved, where its shape stands in the half
new-span : (design : Design) (spans : List (ℕ × ℕ)) (b : ℕ) (half : ℕ × ℕ) → b < length spans → (leaf : ℕ × Shape) → (leaf.0 ≡ b → StandsIn design half leaf) → ChosenBy design spans leaf → ChosenBy design (slice_set spans b half) leaf
new-span design spans b half inside leaf here old =
    elim (cases_eq leaf.0 b) [
      | inl e ↦ (let same : half ≡ span_in (slice_set spans b half) leaf.0 = sym (ap (span_in (slice_set spans b half)) e ∙ get_or-set_same spans b half (0, 0) inside) in
          subst (λ z. Contains (slice_range (shapes_of design leaf.0) z.0 z.1) leaf.1) same (from_in_span (shapes_of design leaf.0) half.0 half.1 leaf.1 (here e)))
      | inr e ↦ subst (λ z. Contains (slice_range (shapes_of design leaf.0) z.0 z.1) leaf.1) (sym (get_or-set_other spans b leaf.0 half (0, 0) e)) old
    ]

-- a leaf of the block chosen with one span halved stands in the half
old-span : (design : Design) (spans : List (ℕ × ℕ)) (b : ℕ) (half : ℕ × ℕ) → b < length spans → (leaf : ℕ × Shape) → ChosenBy design (slice_set spans b half) leaf → leaf.0 ≡ b → StandsIn design half leaf
old-span design spans b half inside leaf new e =
    let same : span_in (slice_set spans b half) leaf.0 ≡ half = ap (span_in (slice_set spans b half)) e ∙ get_or-set_same spans b half (0, 0) inside in
    in_span (shapes_of design leaf.0) half.0 half.1 leaf.1 (subst (λ z. Contains (slice_range (shapes_of design leaf.0) z.0 z.1) leaf.1) same new)

-- a plan of a subproblem belongs to one half of a span that is split
pub split-some : (design : Design) (node : Parts) (b : ℕ) (tree : Tree) → length node.spans ≡ block_count design → CanSplit node b → Belongs design node tree → Some (λ node. Belongs design node tree) (split node b)
split-some design node b tree spans can belongs =
    let span = span_of node b in
    let left : ℕ × ℕ = (span.0, middle span) in
    let right : ℕ × ℕ = (middle span, span.1) in
    let old = recursion_from_All (ChosenBy design node.spans) (leaves tree) belongs.chosen in
    let halves : AllByRecursion (λ leaf. leaf.0 ≡ b → StandsIn design left leaf ⊎ StandsIn design right leaf) (leaves tree) =
    each-weaker (ChosenBy design node.spans) (λ leaf. leaf.0 ≡ b → StandsIn design left leaf ⊎ StandsIn design right leaf)
    (λ leaf c e. halve (shapes_of design leaf.0) span.0 (middle span) span.1 leaf.1
    (in_span (shapes_of design leaf.0) span.0 span.1 leaf.1 (subst (λ n. let z = span_of node n in Contains (slice_range (shapes_of design leaf.0) z.0 z.1) leaf.1) e c)))
    (leaves tree) old in
    let once = belongs.legal.blocks.each_once b (omega (arith, can.0, spans)) in
    let child : (half : ℕ × ℕ) → AllByRecursion (λ leaf. leaf.0 ≡ b → StandsIn design half leaf) (leaves tree) → All (ChosenBy design (slice_set node.spans b half)) (leaves tree) =
    λ half here. All-from_recursion (ChosenBy design (slice_set node.spans b half)) (leaves tree)
    (each-both (λ leaf. leaf.0 ≡ b → StandsIn design half leaf) (ChosenBy design node.spans) (ChosenBy design (slice_set node.spans b half)) (new-span design node.spans b half can.0) (leaves tree) here old) in
    elim (one-choice (λ leaf. leaf.0) b (StandsIn design left) (StandsIn design right) (leaves tree) (omega (arith, once)) halves) [
      | inl p ↦ inl (record { skewed = belongs.skewed; legal = belongs.legal; begins = belongs.begins; chosen = child left p })
      | inr q ↦ inr (inl (record { skewed = belongs.skewed; legal = belongs.legal; begins = belongs.begins; chosen = child right q }))
    ]

-- a plan of a subproblem belongs to exactly one half of a span that is split
pub split-one : (design : Design) (node : Parts) (b : ℕ) (tree : Tree) → length node.spans ≡ block_count design → CanSplit node b → Belongs design node tree → BelongsToOne design (split node b) tree
split-one design node b tree spans can belongs =
    let span = span_of node b in
    let left : ℕ × ℕ = (span.0, middle span) in
    let right : ℕ × ℕ = (middle span, span.1) in
    let once = belongs.legal.blocks.each_once b (omega (arith, can.0, spans)) in
    record {
      some = Any-from_recursion (λ node. Belongs design node tree) (split node b)
          (split-some design node b tree spans can belongs);
      no_two = AllPairs-from_recursion (λ x y. ¬ (Belongs design x tree × Belongs design y tree)) (split node b) (
        (
          λ both.
              let l = recursion_from_All (ChosenBy design (slice_set node.spans b left)) (leaves tree) both.0.chosen in
              let r = recursion_from_All (ChosenBy design (slice_set node.spans b right)) (leaves tree) both.1.chosen in
              let two : AllByRecursion (λ leaf. leaf.0 ≡ b → StandsIn design left leaf × StandsIn design right leaf) (leaves tree) =
              each-both (ChosenBy design (slice_set node.spans b left)) (ChosenBy design (slice_set node.spans b right)) (λ leaf. leaf.0 ≡ b → StandsIn design left leaf × StandsIn design right leaf)
              (λ leaf p q e. (old-span design node.spans b left can.0 leaf p e, old-span design node.spans b right can.0 leaf q e)) (leaves tree) l r in
              let found = one-has (λ leaf. leaf.0) b (λ leaf. leaf.0 ≡ b → StandsIn design left leaf × StandsIn design right leaf) (leaves tree) (omega (arith, once)) two in
              let leaf = found.0 in
              let here = found.2 found.1 in
              let block_in : leaf.0 < length design.blocks = omega (arith, found.1, can.0, spans) in
              not-both (shapes_of design leaf.0) span.0 (middle span) span.1 leaf.1 (design.limits.shapes leaf.0 (record { name = []; shapes = [] }) block_in).choice.ordered here.0 here.1,
          tt,
        ),
        (tt, tt),
      );
    }

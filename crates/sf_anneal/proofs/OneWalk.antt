-- Words determine what a walk finds.
use Rattle.std.proofs.Common.{◌≡◌, ℕ, zero, suc, ◌+◌, ◌*◌, ◌-◌, ◌%◌, ◌≤◌, List, [], refl, ap, sym, subst, ◌∙◌, inl, inr, arith, Option, Some, None, slice_index_or}
use Rattle.sf_curves.proofs.OneTrace.{one-curve, one-least, one-trace}
use Rattle.sf_anneal.proofs.Common.{IsNormal, Token, runs, stepped, eqb_tells, ext_get_or, length-swap, Stream, next_u32, Design, cost, block_count, Expr, Spells, spells-one, IsTraceOf, IsLeastArea, not_in_nil, IsCost, IsMeasure, IsTraced, cost_of, whole_spans, IsStarts, first_least, words_of, IsMoveOf, IsStepped, IsWalk, Visit, Walks, chain, cheaper, height, kept, slack, trials}
use Rattle.sf_anneal.proofs.Chains.{chain-normal}
use Rattle.sf_anneal.proofs.Flipping.{flipped-normal}
use Rattle.sf_anneal.proofs.Patterns.{of-length}
use Rattle.sf_anneal.proofs.Places.{normal-operands}
use Rattle.sf_anneal.proofs.Swapping.{swapped-normal}
use Rattle.sf_anneal.proofs.Walks.{cheaper-one, kept-one}

-- tokens have one trace
traced-one : (design : Design) (ts : List Token) (e f : Expr) (y z : ℕ) → IsNormal (block_count design) ts → IsTraced design ts e y → IsTraced design ts f z → (e ≡ f) × (y ≡ z)
traced-one design ts e f y z normal a b =
    let spans = whole_spans design in
    let points = one-curve design ts spans a.points b.points a.curve b.curve in
    let least : IsLeastArea a.points b.point = subst (λ l. IsLeastArea l b.point) (sym points) b.least in
    let point : b.point ≡ a.point = sym (one-least design ts spans a.points a.point b.point a.curve a.least least) in
    let there = subst (λ p. IsTraceOf design ts spans p f) point b.trace in
    let same = one-trace design ts spans a.point e f normal a.one_each b.one_each a.trace there in
    let tree = spells-one f a.trace.tree b.trace.tree (subst (λ x. Spells x a.trace.tree) same a.trace.spells) b.trace.spells in
    (same, a.costs ∙ ap (cost design) tree ∙ sym b.costs)

-- and one measure
pub measure-one : (design : Design) (ts : List Token) (a b : Option (Expr × ℕ)) → IsNormal (block_count design) ts → IsMeasure design ts a → IsMeasure design ts b → a ≡ b
measure-one design ts None None normal h k = refl
measure-one design ts None (Some q) normal h k =
    let points = one-curve design ts (whole_spans design) [] k.points h k.curve in
    let least : IsLeastArea [] k.point = subst (λ l. IsLeastArea l k.point) (sym points) k.least in
    absurd (not_in_nil k.point least.found)
measure-one design ts (Some p) None normal h k =
    let points = one-curve design ts (whole_spans design) [] h.points k h.curve in
    let least : IsLeastArea [] h.point = subst (λ l. IsLeastArea l h.point) (sym points) h.least in
    absurd (not_in_nil h.point least.found)
measure-one design ts (Some p) (Some q) normal h k =
    let both = traced-one design ts p.0 q.0 p.1 q.1 normal h k in
    ap (λ x. Some (x, p.1)) both.0 ∙ ap (λ n. Some (q.0, n)) both.1

-- and one cost
pub cost-one : (design : Design) (ts : List Token) (y z : ℕ) → IsNormal (block_count design) ts → IsCost design ts y → IsCost design ts z → y ≡ z
cost-one design ts y z normal a b = a.2 ∙ ap cost_of (measure-one design ts a.0 b.0 normal a.1 b.1) ∙ sym b.2

-- two words give one move
stepped-one : (ts x y : List Token) (i : ℕ) → IsStepped ts i x → IsStepped ts i y → x ≡ y
stepped-one ts x y i a b = elim a [
  | inl p ↦ elim b [ inl q ↦ p.1 ∙ sym q.1 | inr q ↦ absurd (q.0 p.0) ]
  | inr p ↦ elim b [ inl q ↦ absurd (p.0 q.0) | inr q ↦ p.1 ∙ sym q.1 ]
]

move-one : (kind n word : ℕ) (ts x y : List Token) → IsMoveOf kind n word ts x → IsMoveOf kind n word ts y → x ≡ y
move-one zero n word ts x y a b = a ∙ sym b
move-one (suc zero) n word ts x y a b = a ∙ sym b
move-one (suc (suc k)) n word ts x y a b = stepped-one ts x y (word % (2 * n - 2)) a b

-- a move leaves normal tokens
move-normal : (kind n word : ℕ) (ts x : List Token) → 2 ≤ n → IsNormal n ts → IsMoveOf kind n word ts x → IsNormal n x
move-normal zero n word ts x h normal e =
    subst (IsNormal n) (sym e) (swapped-normal n ts (word % (n - 1)) normal (omega (arith, normal-operands n ts normal, h)))
move-normal (suc zero) n word ts x h normal e = subst (IsNormal n) (sym e) (flipped-normal n ts (word % runs ts) normal)
move-normal (suc (suc k)) n word ts x h normal a =
    let i = word % (2 * n - 2) in
    elim a [
      | inl p ↦ subst (IsNormal n) (sym p.1) (of-length n (stepped ts i) (omega (arith, length-swap ts i (i + 1), normal.whole)) p.0.1)
      | inr p ↦ subst (IsNormal n) (sym p.1) normal
    ]

module _ (design : Design) (c moves : ℕ) where
  abbrev n : ℕ
  n = block_count design

  -- trials that are left determine their end
  walks-one : (left : ℕ) (s : Stream) (now best e f : Visit) → (1 ≤ left → 2 ≤ n) → IsNormal n now.0 → Walks design c moves left s now best e → Walks design c moves left s now best f → e ≡ f
  unfolding Walks
  walks-one zero s now best e f some normal a b = a ∙ sym b
  walks-one (suc left) s now best e f some normal a b =
      let kind = next_u32 s in
      let place = next_u32 kind.1 in
      let two = some (omega arith) in
      let here = move-normal (kind.0 % 3) n place.0 now.0 a.0.0 two normal a.1 in
      let tokens : a.0.0 ≡ b.0.0 = move-one (kind.0 % 3) n place.0 now.0 a.0.0 b.0.0 a.1 b.1 in
      let cost : a.0.1 ≡ b.0.1 = cost-one design a.0.0 a.0.1 b.0.1 here a.2 (subst (λ ts. IsCost design ts b.0.1) (sym tokens) b.2) in
      let same : a.0 ≡ b.0 = ap (λ ts. (ts, a.0.1)) tokens ∙ ap (λ z. (b.0.0, z)) cost in
      walks-one left place.1 (kept (slack c moves (suc left)) now a.0) (cheaper best a.0) e f (λ h. two)
      (kept-one (IsNormal n) (slack c moves (suc left)) now a.0 normal here) a.3
      (subst (λ v. Walks design c moves left place.1 (kept (slack c moves (suc left)) now v) (cheaper best v) f) (sym same) b.3)

  -- and end at normal tokens
  walks-normal : (left : ℕ) (s : Stream) (now best e : Visit) → (1 ≤ left → 2 ≤ n) → IsNormal n now.0 → IsNormal n best.0 → Walks design c moves left s now best e → IsNormal n e.0
  unfolding Walks
  walks-normal zero s now best e some normal first a = subst (λ (v : Visit). IsNormal n v.0) (sym a) first
  walks-normal (suc left) s now best e some normal first a =
      let kind = next_u32 s in
      let place = next_u32 kind.1 in
      let two = some (omega arith) in
      let here = move-normal (kind.0 % 3) n place.0 now.0 a.0.0 two normal a.1 in
      walks-normal left place.1 (kept (slack c moves (suc left)) now a.0) (cheaper best a.0) e (λ h. two)
      (kept-one (IsNormal n) (slack c moves (suc left)) now a.0 normal here) (cheaper-one (IsNormal n) best a.0 first here) a.3

-- where there are trials there are two blocks
two-blocks : (n moves : ℕ) → 1 ≤ n → 1 ≤ trials n moves → 2 ≤ n
two-blocks n moves some h = elim (eqb_tells n 1) [
  | inl p ↦ absurd (omega (arith, subst (λ (m : ℕ). 1 ≤ trials m moves) p.1 h))
  | inr p ↦ two n some p.1
]
  where
    two : (n : ℕ) → 1 ≤ n → (n ≡ 1 → ⊥) → 2 ≤ n
    two n some ne = omega arith

-- words determine what a walk finds
pub walk-one : (design : Design) (s : Stream) (moves : ℕ) (a b : Option (Expr × ℕ)) → IsWalk design s moves a → IsWalk design s moves b → a ≡ b
walk-one design s moves a b x y =
    let n = block_count design in
    let some = design.limits.some_block in
    let normal = chain-normal n some in
    let first : y.first ≡ x.first = cost-one design (chain n) y.first x.first normal y.costs x.costs in
    let all = trials n moves in
    let walked : Walks design (height x.first) moves all s (chain n, x.first) (chain n, x.first) y.end = subst (λ z. Walks design (height z) moves all s (chain n, z) (chain n, z) y.end) first y.walks in
    let end : x.end ≡ y.end = walks-one design (height x.first) moves all s (chain n, x.first) (chain n, x.first) x.end y.end (two-blocks n moves some) normal x.walks walked in
    let last = walks-normal design (height x.first) moves all s (chain n, x.first) (chain n, x.first) x.end (two-blocks n moves some) normal normal x.walks in
    measure-one design x.end.0 a b last x.measure (subst (λ (v : Visit). IsMeasure design v.0 b) (sym end) y.measure)

-- a seed determines what several walks find
pub starts-one : (design : Design) (seed count moves : ℕ) (a b : Option (Expr × ℕ)) → IsStarts design seed count moves a → IsStarts design seed count moves b → a ≡ b
starts-one design seed count moves a b x y =
    let same : x.results ≡ y.results = ext_get_or None x.results y.results (x.many ∙ sym y.many)
    (λ i h. walk-one design (words_of seed i) moves (slice_index_or x.results i None) (slice_index_or y.results i None) (x.walks i None (omega (arith, h, x.many))) (y.walks i None (omega (arith, h, x.many)))) in
    x.least ∙ ap first_least same ∙ sym y.least

-- The steps of a walk.
use Rattle.std.proofs.Common.{◌≡◌, ℕ, suc, ◌+◌, ◌*◌, ◌/◌, List, arith, refl, ap, sym, subst, ◌∙◌, nat_le, nat_lt, if◌then◌else◌}
use Rattle.std.proofs.Common.{Bool, true, false, min}
use native.Mathlib.Nat.{div-div-eq-div-mul}
use Rattle.sf_anneal.proofs.Common.{Token, MAX, Stream, next_u32, Design, block_count, IsMoved, Visit, Walks, cheaper, kept, slack, IsCost}

-- a walk with one trial fewer left, after these words, these moved tokens and what was kept of them
pub walks-on : (design : Design) (c moves less : ℕ) (s : Stream) (now best end next : Visit) (k p : ℕ) (t u : Stream) → (k, t) ≡ next_u32 s → (p, u) ≡ next_u32 t → IsMoved (block_count design) k p now.0 next.0 → IsCost design next.0 next.1
    → Walks design c moves less u (kept (slack c moves (suc less)) now next) (cheaper best next) end → Walks design c moves (suc less) s now best end
unfolding Walks
walks-on design c moves less s now best end next k p t u e f moved cost more =
    let P : ℕ × Stream → Type 0 = λ a. (next : Visit) × IsMoved (block_count design) a.0 (next_u32 a.1).0 now.0 next.0 × IsCost design next.0 next.1
    × Walks design c moves less (next_u32 a.1).1 (kept (slack c moves (suc less)) now next) (cheaper best next) end in
    let Q : ℕ × Stream → Type 0 = λ b. (next : Visit) × IsMoved (block_count design) k b.0 now.0 next.0 × IsCost design next.0 next.1
    × Walks design c moves less b.1 (kept (slack c moves (suc less)) now next) (cheaper best next) end in
    subst P e (subst Q f (next, moved, cost, more))

-- the same with what was computed
pub walks-step : (design : Design) (c moves left less : ℕ) (s : Stream) (now best end next now' best' : Visit) (k p rise : ℕ) (t u : Stream) → left ≡ suc less → (k, t) ≡ next_u32 s → (p, u) ≡ next_u32 t → IsMoved (block_count design) k p now.0 next.0 → IsCost design next.0 next.1
    → rise ≡ slack c moves left → now' ≡ kept rise now next → best' ≡ cheaper best next → Walks design c moves less u now' best' end → Walks design c moves left s now best end
walks-step design c moves left less s now best end next now' best' k p rise t u e kind place moved cost rises keeps lowers more =
    let threshold : rise ≡ slack c moves (suc less) = rises ∙ ap (slack c moves) e in
    let kept-now : now' ≡ kept (slack c moves (suc less)) now next = keeps ∙ ap (λ r. kept r now next) threshold in
    let here = subst (λ v. Walks design c moves less u v (cheaper best next) end) kept-now (subst (λ v. Walks design c moves less u now' v end) lowers more) in
    subst (λ n. Walks design c moves n s now best end) (sym e) (walks-on design c moves less s now best end next k p t u kind place moved cost here)

-- a walk without trials ends where it is
pub walks-end : (design : Design) (c moves left : ℕ) (s : Stream) (now best : Visit) → left ≡ 0 → Walks design c moves left s now best best
unfolding Walks
walks-end design c moves left s now best e = subst (λ n. Walks design c moves n s now best best) (sym e) refl

-- what holds of the present tokens and of the moved ones holds of those that are kept
pub kept-one : (P : List Token → Type 0) (rise : ℕ) (now next : Visit) → P now.0 → P next.0 → P (kept rise now next).0
kept-one P rise now next a b = by_test (nat_le next.1 (min (now.1 + rise) MAX))
  where
    by_test : (x : Bool) → P (if x then next else now).0
    by_test true = b
    by_test false = a

-- the same of tokens with their cost
pub kept-visit : (P : Visit → Type 0) (rise : ℕ) (now next : Visit) → P now → P next → P (kept rise now next)
kept-visit P rise now next a b = by_test (nat_le next.1 (min (now.1 + rise) MAX))
  where
    by_test : (x : Bool) → P (if x then next else now)
    by_test true = b
    by_test false = a

-- and of the cheaper ones
pub cheaper-one : (P : List Token → Type 0) (best next : Visit) → P best.0 → P next.0 → P (cheaper best next).0
cheaper-one P best next a b = by_test (nat_lt next.1 best.1)
  where
    by_test : (x : Bool) → P (if x then next else best).0
    by_test true = b
    by_test false = a

-- a sixteenth of it
pub slack-is : (c m left : ℕ) → c * left / m / 16 ≡ c * left / (16 * m)
slack-is c m left =
    let order : m * 16 ≡ 16 * m = omega arith in
    div-div-eq-div-mul (c * left) m 16 ∙ ap (λ z. c * left / z) order

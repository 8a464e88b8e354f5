-- Spots by number have one verdict.
use Rattle.std.proofs.Common.{◌≡◌, ℕ, ◌<◌, List, All, ap, ◌∙◌, refl, subst, arith}
use Rattle.sf_place.proofs.Common.{Spot, IsByNumber, IsFirstOverlapping, IsFirstWithout, IsLeastPair, IsListed, IsVerdict, LiesIn, Design}
use Rattle.sf_place.specs.declared.verdict.Verdict.{Verdict}
use Rattle.sf_place.specs.declared.verdict.Verdict.TheVariants as verdict
use Rattle.sf_place.proofs.Legality.{none_without, none_over}

-- one block is the first whose spot is not as P says
one-without : (P : Spot → Type 0) (spots : List Spot) (a b : ℕ) → IsFirstWithout P spots a → IsFirstWithout P spots b → a ≡ b
one-without P spots a b f g =
    let above : ¬ (a < b) = λ less. f.without (g.before a less) in
    let below : ¬ (b < a) = λ less. g.without (f.before b less) in
    omega (arith, above, below)

-- one block is the first after a whose spot overlaps that of a
one-over : (spots : List Spot) (a b d : ℕ) → IsFirstOverlapping spots a b → IsFirstOverlapping spots a d → b ≡ d
one-over spots a b d f g =
    let above : ¬ (b < d) = λ less. g.nearer b f.in_order less f.overlap in
    let below : ¬ (d < b) = λ less. f.nearer d g.in_order less g.overlap in
    omega (arith, above, below)

-- the first blocks of two least pairs are the same
one-first : (spots : List Spot) (a b c d : ℕ) → IsLeastPair spots a b → IsLeastPair spots c d → a ≡ c
one-first spots a b c d f g =
    let above : ¬ (a < c) = λ less. g.earlier a less b f.pair.in_order f.pair.in_range f.pair.overlap in
    let below : ¬ (c < a) = λ less. f.earlier c less d g.pair.in_order g.pair.in_range g.pair.overlap in
    omega (arith, above, below)

-- one pair is the first that overlaps
one-pair : (spots : List Spot) (a b c d : ℕ) → IsLeastPair spots a b → IsLeastPair spots c d → verdict.Overlap a b ≡ verdict.Overlap c d
one-pair spots a b c d f g =
    let first = one-first spots a b c d f g in
    let second = one-over spots c b d (subst (λ n. IsFirstOverlapping spots n b) first f.pair) g.pair in
    ap (λ n. verdict.Overlap n b) first ∙ ap (verdict.Overlap c) second

module _ (design : Design) (spots : List Spot) (numbered : IsByNumber spots) where
  -- where all sizes are listed no block is the first whose size is not
  unlisted : (b : ℕ) → All (IsListed design) spots → IsFirstWithout (IsListed design) spots b → ⊥
  unlisted b = none_without (IsListed design) spots b numbered

  -- where all spots lie in the outline no block is the first whose spot does not
  outside : (b : ℕ) → All (LiesIn design.outline) spots → IsFirstWithout (LiesIn design.outline) spots b → ⊥
  outside b = none_without (LiesIn design.outline) spots b numbered

  -- so spots by number have one verdict
  pub one-verdict : (v w : Verdict) → IsVerdict design spots v → IsVerdict design spots w → v ≡ w
  one-verdict verdict.Legal verdict.Legal f g = refl
  one-verdict verdict.Legal (verdict.Unlisted b) f g = absurd (unlisted b f.listed g)
  one-verdict verdict.Legal (verdict.Outside b) f g = absurd (outside b f.inside g.1)
  one-verdict verdict.Legal (verdict.Overlap a b) f g = absurd (none_over spots a b numbered f.apart g.2)
  one-verdict (verdict.Unlisted b) verdict.Legal f g = absurd (unlisted b g.listed f)
  one-verdict (verdict.Unlisted b) (verdict.Unlisted c) f g = ap verdict.Unlisted (one-without (IsListed design) spots b c f g)
  one-verdict (verdict.Unlisted b) (verdict.Outside c) f g = absurd (unlisted b g.0 f)
  one-verdict (verdict.Unlisted b) (verdict.Overlap c d) f g = absurd (unlisted b g.0 f)
  one-verdict (verdict.Outside b) verdict.Legal f g = absurd (outside b g.inside f.1)
  one-verdict (verdict.Outside b) (verdict.Unlisted c) f g = absurd (unlisted c f.0 g)
  one-verdict (verdict.Outside b) (verdict.Outside c) f g = ap verdict.Outside (one-without (LiesIn design.outline) spots b c f.1 g.1)
  one-verdict (verdict.Outside b) (verdict.Overlap c d) f g = absurd (outside b g.1 f.1)
  one-verdict (verdict.Overlap a b) verdict.Legal f g = absurd (none_over spots a b numbered g.apart f.2)
  one-verdict (verdict.Overlap a b) (verdict.Unlisted c) f g = absurd (unlisted c f.0 g)
  one-verdict (verdict.Overlap a b) (verdict.Outside c) f g = absurd (outside c f.1 g.1)
  one-verdict (verdict.Overlap a b) (verdict.Overlap c d) f g = one-pair spots a b c d f.2 g.2

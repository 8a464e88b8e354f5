-- The spot that a list has for a block.
use Rattle.std.proofs.Common.{max, ◌≡◌, ℕ, ◌+◌, ◌≤◌, List, [], ◌∷◌, arith, refl, ◌==◌, cond}
use Rattle.sf_place.proofs.Common.{count_by, AllByRecursion, nat_tests, Spot, spot_of, cond_both, sum_by-cons, EachPair}

-- how many spots of the list are of the block
abbrev pub count : ℕ → List Spot → ℕ
count b ss = count_by (λ s. s.block == b) ss

-- a spot in front counts where it is of the block
pub count-cons : (b : ℕ) (s : Spot) (ss : List Spot) → count b (s ∷ ss) ≡ cond (s.block == b) 1 0 + count b ss
count-cons b s ss = sum_by-cons (λ t. cond (t.block == b) 1 0) s ss

-- the spot of a block bears its number, there or not
pub block-spot_of : (b : ℕ) (ss : List Spot) → (spot_of b ss).block ≡ b
block-spot_of b [] = refl
block-spot_of b (s ∷ ss) = grind (arith, nat_tests, block-spot_of b ss)

-- what holds of all spots holds of that of a block that is there
pub spot_of-all : (P : Spot → Type 0) (b : ℕ) (ss : List Spot) → AllByRecursion P ss → 1 ≤ count b ss → P (spot_of b ss)
spot_of-all P b [] a h = absurd (omega (arith, h))
spot_of-all P b (s ∷ ss) a h =
    cond_both (s.block == b) s (spot_of b ss) P (λ e. a.0) (λ e. spot_of-all P b ss a.1 (grind (arith, nat_tests, count-cons b s ss)))

-- a block that isn't there has the empty spot
pub spot_of-none : (b : ℕ) (ss : List Spot) → count b ss ≡ 0 → spot_of b ss ≡ spot_of b []
spot_of-none b [] h = refl
spot_of-none b (s ∷ ss) h = grind (arith, nat_tests, count-cons b s ss, spot_of-none b ss)

-- what holds of each two spots, in either order, holds of those of two blocks
pub spot_of-pair : (R : Spot → Spot → Type 0) → ((s t : Spot) → R s t → R t s) → (a b : ℕ) → (a ≡ b → ⊥) → (ss : List Spot) → EachPair R ss → 1 ≤ count a ss → 1 ≤ count b ss → R (spot_of a ss) (spot_of b ss)
spot_of-pair R turn a b ne [] e h k = absurd (omega (arith, h))
spot_of-pair R turn a b ne (s ∷ ss) e h k =
    cond_both (s.block == a) s (spot_of a ss) (λ v. R v (spot_of b (s ∷ ss)))
    (λ p. cond_both (s.block == b) s (spot_of b ss) (R s) (λ q. absurd (grind (arith, nat_tests, p, q)))
    (λ q. spot_of-all (R s) b ss e.0 (grind (arith, nat_tests, q, count-cons b s ss))))
    (λ p. cond_both (s.block == b) s (spot_of b ss) (R (spot_of a ss)) (λ q. turn s (spot_of a ss) (spot_of-all (R s) a ss e.0 (grind (arith, nat_tests, p, count-cons a s ss))))
    (λ q. spot_of-pair R turn a b ne ss e.1 (grind (arith, nat_tests, p, count-cons a s ss)) (grind (arith, nat_tests, q, count-cons b s ss))))

-- the greatest of the ends of spots
abbrev pub greatest : (Spot → ℕ) → List Spot → ℕ
greatest end [] = 0
greatest end (s ∷ ss) = max (end s) (greatest end ss)

-- what bounds all ends bounds the greatest
pub greatest-each : (end : Spot → ℕ) (m : ℕ) (ss : List Spot) → AllByRecursion (λ s. end s ≤ m) ss → greatest end ss ≤ m
greatest-each end m [] h = omega arith
greatest-each end m (s ∷ ss) h = omega (arith, h.0, greatest-each end m ss h.1)

module _ (end : Spot → ℕ) (nowhere : (b : ℕ) → end (spot_of b []) ≡ 0) where
  -- the end of the spot of a block is at most the greatest
  pub end-most : (b : ℕ) (ss : List Spot) → end (spot_of b ss) ≤ greatest end ss
  end-most b [] = omega (arith, nowhere b)
  end-most b (s ∷ ss) = cond_both (s.block == b) s (spot_of b ss) (λ t. end t ≤ greatest end (s ∷ ss)) (λ e. omega arith) (λ e. omega (arith, end-most b ss))

  -- what bounds the ends of the spots of all blocks bounds the greatest
  pub greatest-least : (m : ℕ) (ss : List Spot) → ((b : ℕ) → count b ss ≤ 1) → ((b : ℕ) → end (spot_of b ss) ≤ m) → greatest end ss ≤ m
  greatest-least m [] few h = omega arith
  greatest-least m (s ∷ ss) few h =
      let first : end s ≤ m = grind (arith, nat_tests, h s.block) in
      let few_left : (b : ℕ) → count b ss ≤ 1 = λ b. omega (arith, few b, count-cons b s ss) in
      let left : (b : ℕ) → end (spot_of b ss) ≤ m = λ b. grind (arith, nat_tests, nowhere b, few b, h b, count-cons b s ss, spot_of-none b ss) in
      omega (arith, first, greatest-least m ss few_left left)

-- The spots of blocks, listed by block number.
use Rattle.std.specs.Prelude.{◌≡◌, ℕ, List, [], ◌∷◌, length, map, slice_set, pos, neg_ℤ, ◌≤ℤ◌}
use Rattle.std.specs.List.{range_with_len}
use Rattle.sf_model.specs.declared.plan.Spot.{Spot}
use Rattle.sf_model.specs.Wire.{spot_of}

-- the spots are those of blocks 0, 1 and so on, in this order
abbrev pub IsByNumber : List Spot → Type 0
IsByNumber spots = map (λ s. s.block) spots ≡ range_with_len 0 (length spots)

-- the spots of blocks 0, 1 and so on, each looked up by its number
abbrev pub by_number : ℕ → List Spot → List Spot
by_number blocks spots = map (λ b. spot_of b spots) (range_with_len 0 blocks)

-- the lower left corner is at most 9,000,000,000,000,000 away from (0, 0) each way
pub record HasNearCorner (s : Spot) : Type 0 where
  pub left : neg_ℤ (pos 9000000000000000) ≤ℤ s.x
  pub right : s.x ≤ℤ pos 9000000000000000
  pub lower : neg_ℤ (pos 9000000000000000) ≤ℤ s.y
  pub upper : s.y ≤ℤ pos 9000000000000000

-- a list by number once these spots are written into it
abbrev pub with_spots : List Spot → List Spot → List Spot
with_spots old [] = old
with_spots old (s ∷ ss) = with_spots (slice_set old s.block s) ss

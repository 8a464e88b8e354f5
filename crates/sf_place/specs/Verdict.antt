-- When rectangles are a floorplan of a design, and the first fault of those that aren't.
use Rattle.std.specs.Prelude.{◌≡◌, ℕ, ◌<◌, List, length, All, AllPairs, Contains}
use Rattle.sf_model.specs.declared.design.Design.{Design}
use Rattle.sf_model.specs.declared.parts.Outline.{Outline}
use Rattle.sf_model.specs.declared.plan.Spot.{Spot}
use Rattle.sf_model.specs.Tree.{Overlaps, IsInside}
use Rattle.sf_model.specs.Legal.{block_count, shapes_of}
use Rattle.sf_model.specs.Wire.{spot_of}
use Rattle.sf_place.specs.declared.verdict.Verdict.{Verdict}
use Rattle.sf_place.specs.declared.verdict.Verdict.TheVariants as verdict
use Rattle.sf_place.specs.Spots.{IsByNumber}

-- the size of the spot is a shape of its block's list
abbrev pub IsListed : Design → Spot → Type 0
IsListed design s = Contains (shapes_of design s.block) (record { w = s.w; h = s.h })

-- the spot lies in the outline
abbrev pub LiesIn : Outline → Spot → Type 0
LiesIn outline s = IsInside outline.w outline.h s

-- one spot for each block, by number, of a listed size, in the outline, and no two overlap
pub record AreLegal (design : Design) (spots : List Spot) : Type 0 where
  pub one_each : length spots ≡ block_count design
  pub by_number : IsByNumber spots
  pub listed : All (IsListed design) spots
  pub inside : All (LiesIn design.outline) spots
  pub apart : AllPairs (λ s t. ¬ (Overlaps s t)) spots

-- block b is the first whose spot isn't as P says
pub record IsFirstWithout (P : Spot → Type 0) (spots : List Spot) (b : ℕ) : Type 0 where
  pub in_range : b < length spots
  pub without : ¬ (P (spot_of b spots))
  pub before : (a : ℕ) → a < b → P (spot_of a spots)

-- no later block's spot overlaps that of block a
abbrev pub OverlapsNoLater : List Spot → ℕ → Type 0
OverlapsNoLater spots a = (j : ℕ) → a < j → j < length spots → ¬ (Overlaps (spot_of a spots) (spot_of j spots))

-- block b is the first after a whose spot overlaps that of a
pub record IsFirstOverlapping (spots : List Spot) (a b : ℕ) : Type 0 where
  pub in_order : a < b
  pub in_range : b < length spots
  pub overlap : Overlaps (spot_of a spots) (spot_of b spots)
  pub nearer : (j : ℕ) → a < j → j < b → ¬ (Overlaps (spot_of a spots) (spot_of j spots))

-- of all pairs of blocks whose spots overlap, a and b are the first: a is least, then b
pub record IsLeastPair (spots : List Spot) (a b : ℕ) : Type 0 where
  pub pair : IsFirstOverlapping spots a b
  pub earlier : (i : ℕ) → i < a → OverlapsNoLater spots i

-- the verdict names the first fault: a size that isn't listed, else a spot that isn't in the outline, else an overlap
abbrev pub IsVerdict : Design → List Spot → Verdict → Type 0
IsVerdict design spots verdict.Legal = AreLegal design spots
IsVerdict design spots (verdict.Unlisted b) = IsFirstWithout (IsListed design) spots b
IsVerdict design spots (verdict.Outside b) = All (IsListed design) spots × IsFirstWithout (LiesIn design.outline) spots b
IsVerdict design spots (verdict.Overlap a b) =
    All (IsListed design) spots × All (LiesIn design.outline) spots × IsLeastPair spots a b

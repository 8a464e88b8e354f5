-- The shapes that a block may take.
use Rattle.std.specs.Prelude.{◌≡◌, Some, ℕ, ◌+◌, ◌-◌, ◌*◌, ◌/◌, ◌^◌, ◌≤◌, ◌↔◌, min, max, Bool, ◌||◌, ◌==◌, nat_le, List, [], ◌∷◌, length, map, zip, All, if◌then◌else◌}
use Rattle.std.specs.Int.{div_ceil}
use Rattle.std.specs.List.{range_with_len}
use Rattle.std.specs.Option.{option_map}
use Rattle.sf_parts.specs.Built.{first_shapeless}
use Rattle.sf_parts.specs.declared.fault.BuildFault.{BuildFault}
use Rattle.sf_parts.specs.declared.fault.BuildFault.TheVariants.{NoShape}
use Rattle.sf_model.specs.declared.parts.Shape.{Shape}
use Rattle.sf_parts.specs.declared.raw.Kind.{Kind}
use Rattle.sf_parts.specs.declared.raw.Kind.TheVariants as kind
use Rattle.sf_parts.specs.declared.raw.RawBlock.{RawBlock}

-- the shape of these sides
abbrev pub shape : ℕ → ℕ → Shape
shape w h = record { w = w; h = h }

-- a hard block as it stands and turned, by width
abbrev pub hard_list : ℕ → ℕ → Bool → List Shape
hard_list w h fixed = if fixed || w == h then shape w h ∷ [] else shape (min w h) (max w h) ∷ shape (max w h) (min w h) ∷ []

-- a soft block of this width is as high as holds its area
abbrev pub height_at : ℕ → ℕ → ℕ
height_at area w = div_ceil area w

-- a width of a soft block whose height over width, in millionths, lies from least to most
pub record IsAllowed (area least most w : ℕ) : Type 0 where
  pub some : 1 ≤ w
  pub width : w ≤ 2 ^ 20
  pub height : height_at area w ≤ 2 ^ 20
  pub above : w * least ≤ height_at area w * 1000000
  pub below : height_at area w * 1000000 ≤ w * most

-- the number of the widths from lo to hi
abbrev pub width_count : ℕ → ℕ → ℕ
width_count lo hi = hi + 1 - lo

-- the widths from lo to hi, or k of them at equal steps, rounded down, both ends among them
abbrev pub widths : ℕ → ℕ → ℕ → List ℕ
widths k lo hi =
    if nat_le (width_count lo hi) k
    then map (λ j. lo + j) (range_with_len 0 (width_count lo hi))
    else map (λ j. lo + j * (hi - lo) / (k - 1)) (range_with_len 0 k)

-- the allowed widths are those from lo to hi, and these shapes are listed of them
pub record IsSoftList (area least most k : ℕ) (shapes : List Shape) : Type 0 where
  pub lo : ℕ
  pub hi : ℕ
  pub between : (w : ℕ) → IsAllowed area least most w ↔ ((lo ≤ w) × (w ≤ hi))
  pub listed : shapes ≡ map (λ w. shape w (height_at area w)) (widths k lo hi)

-- the list of shapes of a block of this kind: of a hard one as it stands and turned, of a soft one at allowed widths
abbrev pub IsListOf : ℕ → Bool → Kind → List Shape → Type 0
IsListOf k fixed (kind.Hard w h) shapes = shapes ≡ hard_list w h fixed
IsListOf k fixed (kind.Soft area least most) shapes = IsSoftList area least most k shapes

-- each of these lists is that of the block at its place; there may be fewer lists than blocks
abbrev pub AreFirstLists : ℕ → Bool → List RawBlock → List (List Shape) → Type 0
AreFirstLists k fixed blocks lists = All (λ b. IsListOf k fixed b.0.kind b.1) (zip blocks lists)

-- one list for each block, each that of its block
pub record AreListsOf (k : ℕ) (fixed : Bool) (blocks : List RawBlock) (lists : List (List Shape)) : Type 0 where
  pub one_each : length lists ≡ length blocks
  pub each : AreFirstLists k fixed blocks lists

-- the blocks before one have lists of shapes, this one has none, and the fault tells its name
abbrev pub HasNoneFor : ℕ → Bool → List RawBlock → BuildFault → Type 0
HasNoneFor k fixed blocks fault = (lists : List (List Shape)) × AreFirstLists k fixed blocks lists × (option_map NoShape (first_shapeless blocks lists) ≡ Some fault)

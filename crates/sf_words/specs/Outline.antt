-- The outline of a chip in words: `WxH`, two decimals in the unit of the file.
use Rattle.std.specs.Prelude.{◌≡◌, ℕ, ◌^◌, ◌≤◌, ◌==◌, Bool, Option, Some, None, Ok}
use Rattle.std.specs.List.{before_first, after_first}
use Rattle.sf_lex.specs.Number.{decimal_read}
use Rattle.sf_options.specs.Options.{Text}

-- the decimal times the unit is this whole number, from 1 to the greatest side
pub record IsSide (unit : ℕ) (text : Text) (side : ℕ) : Type 0 where
  pub value : decimal_read unit (2 ^ 20) text ≡ Ok side
  pub some : 1 ≤ side

-- the letter `x`
abbrev pub is_cross : ℕ → Bool
is_cross b = b == 120

-- The width stands before the first `x`, and the height after it. No decimal holds an `x`, so there is no other cut; and
-- where there is no `x`, nothing stands after it, which is no decimal.
pub record IsOutline (unit : ℕ) (text : Text) (width height : ℕ) : Type 0 where
  pub width_is : IsSide unit (before_first is_cross text) width
  pub height_is : IsSide unit (after_first is_cross text) height

-- what the option says, and where it isn't given the greatest outline that there may be
abbrev pub OutlineSays : ℕ → Option Text → ℕ → ℕ → Type 0
OutlineSays unit None width height = (width ≡ 2 ^ 20) × (height ≡ 2 ^ 20)
OutlineSays unit (Some text) width height = IsOutline unit text width height

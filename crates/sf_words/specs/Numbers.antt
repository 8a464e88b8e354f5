-- Whole numbers in words, and the ranges and defaults of the options that take them.
use Rattle.std.specs.Prelude.{◌≡◌, ℕ, ◌≤◌, Bool, true, false, Option, Some, None, MatchOption}
use Rattle.sf_lex.specs.Whole.{whole_read}
use Rattle.sf_words.specs.declared.options.Key.{Key}
use Rattle.sf_words.specs.declared.options.Key.TheVariants.{PerUnit, Shapes, AreaWeight, WireWeight, Workers, Starts, Moves, StartSeed, Seed, Count}
use Rattle.sf_options.specs.Options.{Text}
use Rattle.sf_options.specs.Defaults.{default_per_unit, default_shapes, default_area_weight, default_wire_weight, default_workers, default_start_count, default_moves, default_start_seed}

-- the least and the greatest number that an option takes, where it takes a number by itself
unfoldable pub range : Key → Option (ℕ × ℕ)
range PerUnit = Some (1, 1000)
range Shapes = Some (2, 256)
range AreaWeight = Some (0, 65_535)
range WireWeight = Some (0, 65_535)
range Workers = Some (1, 16)
range Starts = Some (0, 64)
range Moves = Some (1, 100_000)
range StartSeed = Some (0, 18_446_744_073_709_551_615)
range Count = Some (1, 320)
range Seed = Some (0, 18_446_744_073_709_551_615)
range key = None

-- the least and the greatest budget of a search, by whether it is a long one
unfoldable pub nodes_range : Bool → ℕ × ℕ
nodes_range false = (1, 4_000_000)
nodes_range true = (1, 1_000_000_000_000)

-- the least and the greatest number of trials that make a start better
unfoldable pub improve_range : ℕ × ℕ
improve_range = (0, 1_000_000_000)

-- the number that an option has where it isn't given
unfoldable pub default_of : Key → Option ℕ
default_of PerUnit = Some default_per_unit
default_of Shapes = Some default_shapes
default_of AreaWeight = Some default_area_weight
default_of WireWeight = Some default_wire_weight
default_of Workers = Some default_workers
default_of Starts = Some default_start_count
default_of Moves = Some default_moves
default_of StartSeed = Some default_start_seed
default_of key = None

-- one to twenty digits are a number in a range
pub record IsWithin (text : Text) (n : ℕ) (range : ℕ × ℕ) : Type 0 where
  pub value : whole_read range.1 text ≡ Some n
  pub low : range.0 ≤ n

-- one to twenty digits are a number that an option takes
abbrev pub IsInRange : Key → Text → ℕ → Type 0
IsInRange key text n = MatchOption (range key) ⊥ (IsWithin text n)

-- the number is in the range of the option
abbrev pub IsAllowed : Key → ℕ → Type 0
IsAllowed key n = MatchOption (range key) ⊥ (λ r. (r.0 ≤ n) × (n ≤ r.1))

-- what an option that takes a number says, given or not
abbrev pub SaysNumber : Key → Option Text → ℕ → Type 0
SaysNumber key None n = default_of key ≡ Some n
SaysNumber key (Some text) n = IsInRange key text n

-- what an option says that takes the numbers of a range and has no default in the table
abbrev pub SaysIfGiven : ℕ × ℕ → Option Text → Option ℕ → Type 0
SaysIfGiven range None None = Unit {0}
SaysIfGiven range (Some text) (Some n) = IsWithin text n range
SaysIfGiven range text n = ⊥

-- what the budget's option says, by whether the search is a long one
abbrev pub SaysNodes : Bool → Option Text → Option ℕ → Type 0
SaysNodes is_long = SaysIfGiven (nodes_range is_long)

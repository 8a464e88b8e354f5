-- What an option is where it isn't given.
use Rattle.std.specs.Prelude.{ℕ, ◌^◌, false, None}
use Rattle.sf_options.specs.Options.{Input, DesignOptions, WeightOptions, StartOptions}
use Rattle.sf_options.specs.declared.command.BoundsChoice.{BoundsChoice}
use Rattle.sf_options.specs.declared.command.BoundsChoice.TheVariants.{Standard}
use Rattle.sf_options.specs.declared.command.Kinds.{Kinds}
use Rattle.sf_options.specs.declared.command.Kinds.TheVariants.{Hard}

-- The numbers.

-- a unit of the file is one scaled unit
abbrev pub default_per_unit : ℕ
default_per_unit = 1

-- the greatest number of shapes of a block
abbrev pub default_shapes : ℕ
default_shapes = 16

-- the area counts once
abbrev pub default_area_weight : ℕ
default_area_weight = 1

-- and the wires don't
abbrev pub default_wire_weight : ℕ
default_wire_weight = 0

-- one worker
abbrev pub default_workers : ℕ
default_workers = 1

-- no walks
abbrev pub default_start_count : ℕ
default_start_count = 0

-- the trials of a walk
abbrev pub default_moves : ℕ
default_moves = 1_000

-- the seed of the first walk
abbrev pub default_start_seed : ℕ
default_start_seed = 0

-- The choices.

-- the bound of `plan`, `check` and `resume`
abbrev pub default_bounds : BoundsChoice
default_bounds = Standard

-- the blocks of `gen`
abbrev pub default_kinds : Kinds
default_kinds = Hard

-- Several together.

-- a design of which the files alone are given: its outline is the greatest that there may be
abbrev pub default_design : Input → DesignOptions
default_design input = record { input = input; per_unit = default_per_unit; is_fixed = false; shapes = default_shapes; width = 2 ^ 20; height = 2 ^ 20 }

-- weights of which that of the wires alone is given
abbrev pub weights_by_wire : ℕ → WeightOptions
weights_by_wire wire = record { area = default_area_weight; wire = wire; net_weights = None }

-- the walks of a search of which nothing is given
abbrev pub default_starts : StartOptions
default_starts = record { count = default_start_count; moves = default_moves; seed = default_start_seed; improve = None }

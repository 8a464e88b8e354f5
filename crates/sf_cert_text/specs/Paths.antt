-- How paths stand in a text, and what their lines are read as.
use Rattle.std.specs.Prelude.{ℕ, ◌<◌, ◌^◌, List, [], ◌∷◌, ◌++◌, length, map, All, codes, Bool, true, false, ◌&&◌}
use Rattle.std.specs.Fmt.{decimal}
use Rattle.std.specs.List.{flat_map}
use Rattle.sf_model.specs.declared.parts.Pin.{Pin}
use Rattle.sf_model.specs.declared.parts.Pin.TheVariants.{Block, Pad}
use Rattle.sf_model.specs.declared.paths.Path.{Path}
use Rattle.sf_model.specs.declared.paths.Paths.{Paths}
use Rattle.sf_model.specs.declared.paths.Step.{Step}

-- the number of a pin among the blocks or among the pads
abbrev pub number_of : Pin → ℕ
number_of (Block b) = b
number_of (Pad p) = p

-- a net and the pin behind it
abbrev pub step_text : Step → List ℕ
step_text s = 32 ∷ (decimal s.net ++ 32 ∷ decimal (number_of s.to))

-- `pad net pin net pin .. net pad`
abbrev pub path_text : Path → List ℕ
path_text path = decimal (number_of path.first) ++ flat_map step_text path.steps

-- how many paths an axis has, and a line for each
abbrev pub axis_lines : List ℕ → List Path → List (List ℕ)
axis_lines label paths = (label ++ 32 ∷ decimal (length paths)) ∷ map path_text paths

-- there is none
abbrev pub is_none : List Path → Bool
is_none [] = true
is_none (path ∷ paths) = false

-- neither axis has paths
abbrev pub has_no_paths : Paths → Bool
has_no_paths paths = is_none paths.across && is_none paths.upward

-- the lines of both axes
abbrev pub path_lines : Paths → List (List ℕ)
path_lines paths = axis_lines (codes "across") paths.across ++ axis_lines (codes "upward") paths.upward

-- the numbers of a step are those of the machine's types
pub record FitsStep (s : Step) : Type 0 where
  pub net : s.net < 2 ^ 32
  pub to : number_of s.to < 2 ^ 16

-- so are those of a path
pub record FitsPath (path : Path) : Type 0 where
  pub first : number_of path.first < 2 ^ 16
  pub steps : All FitsStep path.steps

-- and those of an axis
pub record FitsAxis (paths : List Path) : Type 0 where
  pub count : length paths < 2 ^ 64
  pub each : All FitsPath paths

-- and those of both
pub record FitsPaths (paths : Paths) : Type 0 where
  pub across : FitsAxis paths.across
  pub upward : FitsAxis paths.upward

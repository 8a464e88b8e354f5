-- How the code goes, and nothing that the crate promises: the paths of one axis.
use Rattle.std.specs.Prelude.{ℕ, ◌+◌, List, take, ℤ}
use Rattle.sf_model.specs.Paths.{ArePathsOfAxis, pad_x, pad_y}
use Rattle.sf_model.specs.declared.parts.Net.{Net}
use Rattle.sf_model.specs.declared.parts.Pad.{Pad}
use Rattle.sf_model.specs.declared.parts.Pin.{Pin}
use Rattle.sf_model.specs.declared.paths.Path.{Path}
use Rattle.sf_model.specs.declared.routing.Axis.{Axis}
use Rattle.sf_model.specs.declared.routing.Axis.TheVariants.{Across, Upward}

-- where a pad stands along an axis, doubled
abbrev pub place_on : Axis → List Pad → Pin → ℤ
place_on Across = pad_x
place_on Upward = pad_y

-- the paths before number n are legal, and with it they are not
pub record IsFirstWrongOfAxis (at : Pin → ℤ) (pads : List Pad) (nets : List Net) (paths : List Path) (n : ℕ) : Type 0 where
  pub before : ArePathsOfAxis at pads nets (take n paths)
  pub wrong : ¬ (ArePathsOfAxis at pads nets (take (n + 1) paths))

-- What changes where a design is given paths: nothing else.
use Rattle.std.specs.Prelude.{◌≡◌}
use Rattle.sf_model.specs.declared.design.Design.{Design}
use Rattle.sf_model.specs.declared.paths.Paths.{Paths}

-- the second design is the first with these paths
pub record HasPaths (old : Design) (paths : Paths) (new : Design) : Type 0 where
  pub blocks : new.blocks ≡ old.blocks
  pub pads : new.pads ≡ old.pads
  pub nets : new.nets ≡ old.nets
  pub outline : new.outline ≡ old.outline
  pub weights : new.weights ≡ old.weights
  pub floor : new.area_floor ≡ old.area_floor
  pub paths_are : new.routes.paths ≡ paths

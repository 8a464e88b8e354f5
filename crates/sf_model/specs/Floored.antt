-- What changes where a design learns a floor of its area: nothing else.
use Rattle.std.specs.Prelude.{◌≡◌, ℕ}
use Rattle.sf_model.specs.declared.design.Design.{Design}

-- the second design is the first with this floor of its area
pub record HasFloor (old : Design) (floor : ℕ) (new : Design) : Type 0 where
  pub blocks : new.blocks ≡ old.blocks
  pub pads : new.pads ≡ old.pads
  pub nets : new.nets ≡ old.nets
  pub outline : new.outline ≡ old.outline
  pub weights : new.weights ≡ old.weights
  pub routes : new.routes ≡ old.routes
  pub floor_is : new.area_floor ≡ floor

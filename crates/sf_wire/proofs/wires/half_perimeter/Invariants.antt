use Rattle.std.proofs.Common.{◌≡◌, map, take}
use Rattle.sf_wire.proofs.Common.{fold, int_max, int_min, pin_x, pin_y, IsDoubledCoordinate}
use Rattle.sf_wire.proofs.wires.half_perimeter.Given as goal

abbrev pub invariant-loop-pin : goal.invariant-loop-pin
invariant-loop-pin l = record {
  left : l.across.least ≡ fold int_min l.x (map (pin_x l.design l.spots) (take l.pin-index l.others));
  right : l.across.greatest ≡ fold int_max l.x (map (pin_x l.design l.spots) (take l.pin-index l.others));
  lower : l.upward.least ≡ fold int_min l.y (map (pin_y l.design l.spots) (take l.pin-index l.others));
  upper : l.upward.greatest ≡ fold int_max l.y (map (pin_y l.design l.spots) (take l.pin-index l.others));
  near_left : IsDoubledCoordinate l.across.least;
  near_right : IsDoubledCoordinate l.across.greatest;
  near_lower : IsDoubledCoordinate l.upward.least;
  near_upper : IsDoubledCoordinate l.upward.greatest;
}

-- The imports that the proof files of this crate share.
pub use Rattle.sf_model.specs.Cost.{right_end, upper_end}
pub use Rattle.sf_model.specs.Limits.{IsDoubledCoordinate, IsThere}
pub use Rattle.sf_model.specs.Wire.{pin_x, pin_y, spread, weighed_wire}
pub use Rattle.sf_model.specs.declared.design.Design.{Design}
pub use Rattle.sf_model.specs.declared.parts.Pin.{Pin}
pub use Rattle.sf_model.specs.declared.plan.Spot.{Spot}
pub use Rattle.sf_place.specs.Verdict.{LiesIn}
pub use Rattle.std.proofs.lemmas.Int.{clamps, ints, to_z-of_z}
pub use Rattle.std.proofs.lemmas.List.{map-append, take_all, take_more}
pub use Rattle.std.specs.Int.{int_max, int_min}
pub use Rattle.std.specs.Prelude.{fold, nat_abs, pos, sum_by, ℤ}

-- The imports that the proof files of this crate share.
pub use Rattle.sf_parts.specs.Built.{first_shapeless}
pub use Rattle.sf_model.specs.Limits.{IsShapeChoice, IsSide}
pub use Rattle.sf_parts.specs.declared.fault.BuildFault.TheVariants.{NoShape}
pub use Rattle.sf_model.specs.declared.parts.Shape.{Shape}
pub use Rattle.sf_parts.specs.declared.raw.RawBlock.{RawBlock}
pub use Rattle.sf_soft_shapes.specs.Ends.{IsHighEnough, IsLowEnough}
pub use Rattle.sf_soft_shapes.specs.Listed.{AreFirstLists, AreListsOf, HasNoneFor, IsAllowed, IsListOf, IsSoftList, height_at, shape, width_count, widths}
pub use Rattle.std.proofs.Math.Nat.{div-le_of_le-mul, div-mul-le_self, le-div_iff_mul-le, mul-le-mul_left, mul-le-mul_right, zero-mul}
pub use Rattle.std.proofs.lemmas.Bool.{cases_lt}
pub use Rattle.std.proofs.lemmas.Bool.Decides.{nat_tests}
pub use Rattle.std.proofs.lemmas.Grind.{common_steps, div_ceil_times}
pub use Rattle.std.proofs.lemmas.List.Elements.{All-append, recursion_from_All}
pub use Rattle.std.specs.List.{All, AllByRecursion, range_with_len, zip}

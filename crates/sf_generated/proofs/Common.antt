-- The imports that the proof files of this crate share.
pub use Rattle.sf_designs.specs.Outcome.{Ends}
pub use Rattle.sf_designs.specs.Reading.{DesignMade}
pub use Rattle.sf_designs.specs.Refusals.{gsrc_refusal}
pub use Rattle.sf_designs.specs.Weighed.{WeighedParts}
pub use Rattle.sf_generated.specs.Made.{blocks_said, kinds_of, nets_said, parts_made, places_said}
pub use Rattle.sf_parts.specs.declared.fault.BuildFault.{BuildFault}
pub use Rattle.sf_soft_shapes.specs.Listed.{HasNoneFor}
pub use Rattle.sf_options.specs.Seen.{gen_seen}

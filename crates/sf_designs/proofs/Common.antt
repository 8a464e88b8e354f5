-- The imports that the proof files of this crate share.
pub use Rattle.sf_designs.specs.Loads.{IsCounted, IsNoLoad, Reads, TellsNoLoad}
pub use Rattle.sf_designs.specs.Outcome.{Ends, Refusal, Refuses, Stops, Then, lost, refused}
pub use Rattle.sf_designs.specs.Reading.{BlocksRead, GsrcRead, IfNamed, JoinedRead, NetsRead, PlacesRead, Said, WeightsRead, YalWeighed}
pub use Rattle.sf_designs.specs.Refusals.{yal_refusal}
pub use Rattle.sf_designs.specs.Weighed.{WeighedParts, weighed_in}
pub use Rattle.sf_designs.specs.declared.stop.Stop.{Stop}
pub use Rattle.sf_designs.specs.declared.stop.Stop.TheVariants.{NoMemory, ReadFault, Refused}
pub use Rattle.sf_gsrc.specs.Join.{nets_in}
pub use Rattle.sf_gsrc.specs.declared.output.GsrcBlocks.{GsrcBlocks}
pub use Rattle.sf_gsrc.specs.declared.output.GsrcNets.{GsrcNets}
pub use Rattle.sf_gsrc.specs.declared.output.GsrcPlaces.{GsrcPlaces}
pub use Rattle.sf_io.specs.Outside.{Contents, ShelfSeen}
pub use Rattle.sf_io.specs.declared.status.Status.TheVariants.{BadInput, OverLimit}
pub use Rattle.sf_parts.specs.declared.raw.Parts.{Parts}
pub use Rattle.sf_options.specs.Seen.{text_of}
pub use Rattle.std.proofs.lemmas.Result.{err_from_is_err_and}
pub use Rattle.std.specs.Fmt.{decimal}
pub use Rattle.std.specs.Prelude.{IfErr}

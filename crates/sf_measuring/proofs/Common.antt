-- The imports that the proof files of this crate share.
pub use Rattle.sf_curves.specs.Choices.{AreSpans, IsRootCurve}
pub use Rattle.sf_designs.proofs.Stages.{refused-stops, stops-map, uncounted}
pub use Rattle.sf_designs.specs.Outcome.{Ends, Refusal, Stops}
pub use Rattle.sf_designs.specs.Reading.{PlacesRead}
pub use Rattle.sf_designs.specs.Refusals.{design_fault, line_of}
pub use Rattle.sf_gsrc.specs.Places.{PlacesStandFor, SaysPlace}
pub use Rattle.sf_gsrc.specs.declared.output.GsrcPlaces.{GsrcPlaces}
pub use Rattle.sf_gsrc.specs.declared.output.Place.{Place}
pub use Rattle.sf_io.specs.Outside.{Contents}
pub use Rattle.sf_lex.specs.Results.{◌>>=◌}
pub use Rattle.sf_measuring.specs.Measured.{MeasureRead, SpotsRead, legal_text, lines_named, spots_said, verdict_text}
unfoldable pub use Rattle.sf_measuring.specs.Measured.{spot_said}
pub use Rattle.sf_measuring.specs.PlacedLines.{AreIndexed, AreKept, HasNearPlace, IsIndex, IsOnly, LinesAre, with_line}
pub use Rattle.sf_measuring.specs.Shaped.{IsCurveText, ShapeRead, TokensRead, point_line}
pub use Rattle.sf_measuring.specs.declared.placed_lines.Lines.{Lines}
pub use Rattle.sf_measuring.specs.declared.placed_lines.Lines.TheVariants.{More, One, Without}
pub use Rattle.sf_model.specs.Cost.{right_end, spots_cost, upper_end}
pub use Rattle.sf_model.specs.Legal.{block_count}
pub use Rattle.sf_model.specs.Wire.{wire}
pub use Rattle.sf_model.specs.declared.design.Design.{Design}
pub use Rattle.sf_model.specs.declared.parts.Block.{Block}
pub use Rattle.sf_model.specs.declared.plan.Spot.{Spot}
pub use Rattle.sf_names.specs.Values.{value_in}
pub use Rattle.sf_node.specs.Subproblem.{root}
pub use Rattle.sf_place.specs.Spots.{HasNearCorner}
pub use Rattle.sf_place.specs.Verdict.{AreLegal, IsVerdict, LiesIn}
pub use Rattle.sf_options.specs.Seen.{measure_seen, shape_seen}
pub use Rattle.std.proofs.Math.Seq.{drop-cons, drop-length}
pub use Rattle.std.proofs.lemmas.Bool.Decides.{nat_tests}
pub use Rattle.std.proofs.lemmas.Int.{ints}
pub use Rattle.std.proofs.lemmas.List.{get_or_default, map-append, take_all}
pub use Rattle.std.proofs.lemmas.List.Elements.{All-append, All-cons, All-more, All-nil, All-weaker, recursion_from_All}
pub use Rattle.std.proofs.lemmas.Result.{err_from_is_err_and}
pub use Rattle.std.specs.Fmt.{decimal}
pub use Rattle.std.specs.List.{AllByRecursion, AllZip, flat_map, range_with_len}
pub use Rattle.std.specs.Map.{update}
pub use Rattle.std.specs.Prelude.{All, List, is_some, nat_lt, neg_ℤ, pos, ℤ}

-- The imports that the proof files of this crate share.
pub use Rattle.sf_gsrc.specs.Blocks.{CountIs, Entry, Fails, Gives, ItemIs, Said, block_at, blocks_in, compared, content, content_of, count_at, count_in, entries_from, entry_after, entry_at, entry_by, fault_at, finished, finished_by, is_same, is_soft, is_title, last_of, opened, or_else, out_of, pad_at, pads_in}
unfoldable pub use Rattle.sf_gsrc.specs.Blocks.{blocks_read, count_after, read_from}
pub use Rattle.sf_gsrc.specs.ByName.{IsNameSet, PlacesByName, first_again, pads_once}
pub use Rattle.sf_gsrc.specs.Found.{IsFound, count_kept, with_count}
pub use Rattle.sf_gsrc.specs.Join.{by_number, first_twice, has_like, has_name, has_numbers, is_known, joined, names_of, nets_in, numbered, numbered_net, numbered_nets, numbered_pin, pads_at, place_of, placed_once, placed_parts, strangers_of, unplaced_parts}
pub use Rattle.sf_gsrc.specs.Keywords.{form_of, meaning_in, net_word_by}
pub use Rattle.sf_gsrc.specs.Line.{BlockIs, Item, PadIs, area_in_word, aspect_in_word, box_said, count_in_word, count_said, counted_by, form_said, vertex_fault}
unfoldable pub use Rattle.sf_gsrc.specs.Line.{hard_said, plain_said, soft_said}
pub use Rattle.sf_gsrc.specs.Nets.{DegreeIs, NetEntry, NetSaid, NetsAre, PinIs, PinsAre, degree_kept, degree_said, earlier_nets, last_pins, net_entries_from, net_entry_after, net_entry_at, net_entry_by, nets_counted, nets_finished, nets_of, nets_said, number_of_line, with_last}
unfoldable pub use Rattle.sf_gsrc.specs.Nets.{nets_read}
pub use Rattle.sf_gsrc.specs.NetsStanding.{NetsStandFor, SaysNet, SaysNetBy, net_lines, net_of, net_part, nets_count}
pub use Rattle.sf_gsrc.specs.Owners.{AreOwners, AreOwnersFrom, owner_found, owner_of}
pub use Rattle.sf_gsrc.specs.Places.{PlacesStandFor, SaysPlace, at_number, place_at, places_from}
unfoldable pub use Rattle.sf_gsrc.specs.Places.{places_read}
pub use Rattle.sf_gsrc.specs.Standing.{SaysBy, SaysEntry, StandsFor, StandsOnce, counts_of}
pub use Rattle.sf_gsrc.specs.Weights.{GivesWeights, NetWeight, SaysWeight, WeightsStandFor, net_in_word, new_net, number_on, pair_after, weight_after, weight_in_word, weight_of, weight_said, weights_from, weights_of}
unfoldable pub use Rattle.sf_gsrc.specs.Weights.{two_words, weights_read}
pub use Rattle.sf_gsrc.specs.WeightsKept.{KeepsWeights}
pub use Rattle.sf_gsrc.specs.declared.count.Count.{Count}
pub use Rattle.sf_gsrc.specs.declared.fault.GsrcFault.{GsrcFault}
pub use Rattle.sf_gsrc.specs.declared.fault.JoinFault.{JoinFault}
pub use Rattle.sf_gsrc.specs.declared.fault.LineFault.{LineFault}
pub use Rattle.sf_gsrc.specs.declared.fault.LineFault.TheVariants.{BadLine, BadNumber, ZeroSide}
pub use Rattle.sf_gsrc.specs.declared.fault.WeightFault.{WeightFault}
pub use Rattle.sf_gsrc.specs.declared.keywords.Counted.{Counted}
pub use Rattle.sf_gsrc.specs.declared.output.GsrcBlocks.{GsrcBlocks}
pub use Rattle.sf_gsrc.specs.declared.output.GsrcNets.{GsrcNets}
pub use Rattle.sf_gsrc.specs.declared.output.GsrcPlaces.{GsrcPlaces}
pub use Rattle.sf_gsrc.specs.declared.output.Place.{Place}
pub use Rattle.sf_lex.specs.Gap.{after_word, first_word, is_gap}
pub use Rattle.sf_lex.specs.Results.{map_err, ◌>>=◌}
pub use Rattle.sf_lex.specs.Scan.{Line, line_of, numbered_rest}
pub use Rattle.sf_lex.specs.Text.{words}
pub use Rattle.sf_lex.specs.Vertices.{box_read}
pub use Rattle.sf_lex.specs.declared.field.Gap.TheVariants.{Blanks, Colons, Points}
pub use Rattle.sf_lex.specs.declared.vertices.BoxSize.{BoxSize}
pub use Rattle.sf_parts.proofs.Tables.{bytes_eq_sym, place_within, position_any}
pub use Rattle.sf_parts.specs.Admitted.{HasPinsInRange, HasSizes, IsPinInRange, IsSized, at_pin_name, at_pin_names, block_names, block_of, first, first_refusal, if_both, if_neither, is_block_name, is_index, is_pad_name, is_wired, missing_places, pad_names, pad_of, unplaced_faults}
pub use Rattle.sf_parts.specs.declared.raw.Parts.{Parts}
pub use Rattle.sf_parts.specs.declared.raw.RawBlock.{RawBlock}
pub use Rattle.sf_parts.specs.declared.raw.RawNet.{RawNet}
pub use Rattle.sf_parts.specs.declared.raw.RawPad.{RawPad}
pub use Rattle.sf_parts.specs.declared.raw.RawPin.{RawPin}
pub use Rattle.sf_parts.specs.declared.raw.RawPin.TheVariants.{Named}
pub use Rattle.std.proofs.Math.Bool.{or-true, or_assoc}
pub use Rattle.std.proofs.lemmas.Bool.{eqb-true, le-ltb, ne_eqb, or_parts}
pub use Rattle.std.proofs.lemmas.Bool.Decides.{eqb_tells, nat_tests}
pub use Rattle.std.proofs.lemmas.List.{append-nil, ext_get_or, get_or-replicate, get_or-set_other, get_or-set_same, length-append, length-map, length-replicate, length-set, map-append}
pub use Rattle.std.proofs.lemmas.List.Elements.{All-cons, All-map, All-nil, All-same, All-weaker, filter-append, filter_map-append}
pub use Rattle.std.proofs.lemmas.List.Folds.{list_any-append, list_any_more}
pub use Rattle.std.proofs.lemmas.List.FromFn.{get_or-map-range_with_len, length-map-range_with_len}
pub use Rattle.std.proofs.lemmas.List.Sums.{sum_by-append, sum_by-cons}
pub use Rattle.std.proofs.lemmas.Result.{err_from_is_err_and}
pub use Rattle.std.proofs.lemmas.Slice.Eq.{bytes_eq-Decides}
pub use Rattle.std.specs.List.{All, AllByRecursion, AllZip, cons_option, filter_map, list_any, position_from, range_with_len}
unfoldable pub use Rattle.std.specs.List.{IsDistinct}
pub use Rattle.std.specs.Map.{update}
pub use Rattle.std.specs.Prelude.{IfOk, IfSome, codes, count_by, filter, find, flat_map, is_some, length, not, sum_by}
pub use Rattle.std.specs.Str.{bytes_eq}

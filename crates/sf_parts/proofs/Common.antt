-- The imports that the proof files of this crate share.
pub use Rattle.sf_model.specs.Limits.{IsCoordinate, IsPinSet, IsShapeChoice, IsShapeList, IsThere, IsWithinLimits, pin_number, pin_order}
pub use Rattle.sf_model.specs.Paths.{no_paths}
pub use Rattle.sf_model.specs.declared.design.Design.{Design}
pub use Rattle.sf_model.specs.declared.parts.Block.{Block}
pub use Rattle.sf_model.specs.declared.parts.Net.{Net}
pub use Rattle.sf_model.specs.declared.parts.Outline.{Outline}
pub use Rattle.sf_model.specs.declared.parts.Pad.{Pad}
pub use Rattle.sf_model.specs.declared.parts.Pin.{Pin}
pub use Rattle.sf_model.specs.declared.parts.Shape.{Shape}
pub use Rattle.sf_model.specs.declared.parts.Weights.{Weights}
pub use Rattle.sf_parts.specs.Admitted.{HasPinsInRange, IsAdmitted, IsFirstOf, IsKindWithin, IsPinInRange, IsPlaceWithin, KeepsLimits, at_pin_name, at_placed_name, block_names, block_of, duplicates, first, is_index, is_wired, missing_places, name_faults, no_blocks, over, over_counts, over_kind, over_limits, over_place, over_places, pad_names, pad_of, repeated_names, unknowns, unplaced_faults}
pub use Rattle.sf_parts.specs.Built.{HasShapeChoices, IsDesignOf, IsNetOf, IsOutline, IsWeighted, design_blocks, design_pads, first_shapeless, named_pins, pin_at, pin_of, placed_pad}
pub use Rattle.sf_parts.specs.Numbers.{IsNetMade, same_pin}
pub use Rattle.sf_parts.specs.Rules.{rule_faults}
pub use Rattle.sf_parts.specs.Table.{IsTableOf, place_in}
pub use Rattle.sf_parts.specs.declared.fault.BuildFault.{BuildFault}
pub use Rattle.sf_parts.specs.declared.fault.BuildFault.TheVariants.{MissingPlace, NoMemory}
pub use Rattle.sf_parts.specs.declared.names.NameRule.TheVariants.{Known, NotBoth}
pub use Rattle.sf_parts.specs.declared.raw.Parts.{Parts}
pub use Rattle.sf_parts.specs.declared.raw.RawBlock.{RawBlock}
pub use Rattle.sf_parts.specs.declared.raw.RawNet.{RawNet}
pub use Rattle.sf_parts.specs.declared.raw.RawPad.{RawPad}
pub use Rattle.sf_parts.specs.declared.raw.RawPin.{RawPin}
pub use Rattle.std.proofs.lemmas.Bool.Decides.{nat_tests}
pub use Rattle.std.proofs.lemmas.Grind.{common_steps}
pub use Rattle.std.proofs.lemmas.Int.{ints, to_z-of_z}
pub use Rattle.std.proofs.lemmas.List.{get_or_default, length-map, map-append, reverse-append, take_all, take_more}
pub use Rattle.std.proofs.lemmas.List.Elements.{All-contains, All-from_recursion, All-push, Contains-get_or, filter_map-append, recursion_from_All}
pub use Rattle.std.proofs.lemmas.List.Folds.{Any-from_list_any, list_any-append, list_any_at, list_any_more}
pub use Rattle.std.proofs.lemmas.List.Sorted.{All-permutation, Contains-permutation, IsNonDecreasingBy-from_sort_by_key, IsPermutation-sym, length_permutation}
pub use Rattle.std.proofs.lemmas.List.Sums.{count_by-le-length, count_by_more_yes, sum_by-cons, sum_by-take-le}
pub use Rattle.std.specs.List.{All, AllByRecursion, AllPairs, AllZip, Contains, cons_option, count_by, filter_map, flat_map, list_any, position_from, sum_by, zip}
pub use Rattle.std.specs.List.Sorted.{IsNonDecreasingBy, IsPermutation}

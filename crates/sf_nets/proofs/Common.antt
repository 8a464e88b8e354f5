-- The imports that the proof files of this crate share.
pub use Prim.Native.Nat.{zero}
pub use Rattle.sf_bound.specs.Only.{Tells}
pub use Rattle.sf_curves.proofs.Members.{Contains-cons_cases, Contains-head, Contains-tail, not_in_nil}
pub use Rattle.sf_curves.specs.declared.direction.Direction.{Direction}
pub use Rattle.sf_model.proofs.Counting.{length-at_most_once}
pub use Rattle.sf_model.proofs.Each.{each-append, each-left, each-map, each-weaker}
pub use Rattle.sf_model.proofs.Used.{lefts-count, lefts-most, routes-small}
pub use Rattle.sf_model.specs.Legal.{block_count}
pub use Rattle.sf_model.specs.Limits.{pin_count, pin_number}
pub use Rattle.sf_model.specs.declared.design.Design.{Design}
pub use Rattle.sf_model.specs.declared.parts.Net.{Net}
pub use Rattle.sf_model.specs.declared.parts.Pin.{Pin}
pub use Rattle.sf_model.specs.declared.parts.Shape.{Shape}
pub use Rattle.sf_nets.specs.Ends.{IsFitEnd, IsFitInterval, IsFitReach, anywhere, endless, met, reach_gap, shared}
pub use Rattle.sf_nets.specs.Layout.{AreModest, AreSeated, IsLaid, IsModestExtent, IsModestOffset, JoinsTop, Lays, above_extent, beside_extent, held_of, moved, reseated, seat_at, seats_from, single_extent, with_shape}
pub use Rattle.sf_nets.specs.Pins.{IsLayout, IsNet, IsReadable, IsReady, IsReadyAt, block_range, extent_from, greatest_gap, home_gap, home_in, last_home, narrowed, narrowed_in, no_pair, pad_reach, paired, paired_sides, pairs_pin, pin_home, pin_range, shared_homes, shared_in, shared_ranges, standing_at, standing_by, standing_of}
pub use Rattle.sf_nets.specs.WireParts.{AreAtMost, AreByPart}
pub use Rattle.sf_nets.specs.declared.layout.Home.{Home}
pub use Rattle.sf_nets.specs.declared.layout.Layout.{Layout}
pub use Rattle.sf_nets.specs.declared.layout.Seat.{Seat}
pub use Rattle.sf_nets.specs.declared.layout.Standing.{Standing}
pub use Rattle.sf_nets.specs.declared.reach.Reach.{Reach}
pub use Rattle.sf_nets.specs.declared.wire_parts.WireParts.{WireParts}
pub use Rattle.sf_node.proofs.Normalised.{subproblem-begun}
pub use Rattle.sf_node.specs.Children.{IsSubproblem}
pub use Rattle.sf_node.specs.Parts.{Parts}
pub use Rattle.sf_node.specs.Subproblem.{is_complete}
pub use Rattle.sf_node.specs.declared.part.Part.{Part}
pub use Rattle.sf_node.specs.declared.part.Part.TheVariants.{Full, Hull, Pair, Range}
pub use Rattle.sf_polish.proofs.Normality.{count-numbers, numbers, numbers-below}
pub use Rattle.sf_polish.specs.declared.expr.Token.{Token}
pub use Rattle.sf_standard.proofs.Exact.{whole-item}
pub use Rattle.sf_standard.proofs.Listed.{Contains-from_map, Contains-map, count-cons, count-head, each-contains, each-from, each-joined, sum_by-map}
pub use Rattle.sf_standard.proofs.Operands.{Runs, runs-from}
pub use Rattle.sf_standard.proofs.PathWires.{no-pull}
pub use Rattle.sf_standard.proofs.Sides.{IsSmallExtent, span-small}
pub use Rattle.sf_standard.specs.Hull.{block_pins, contains_pin, extent_in, extent_of, gap, greatest_two, greatest_with, hull_of, hull_part, item_extent, moved_right, moved_up, of_pins, offset_x, offset_y, offsets, pads_x, pads_y, pair_part, point, range_part, range_x, range_y, small_side, to_nat}
pub use Rattle.sf_standard.specs.Items.{Item, item_in, items_of, read}
pub use Rattle.sf_standard.specs.Standard.{greatest, nets_by, pins_by, wires_by}
pub use Rattle.sf_standard.specs.declared.hull.Extent.{Extent}
pub use Rattle.sf_standard.specs.declared.hull.Interval.{Interval}
pub use Rattle.sf_standard.specs.declared.hull.Offset.{Offset}
pub use Rattle.std.proofs.Math.Nat.{mul-le-mul}
pub use Rattle.std.proofs.lemmas.Bool.{cases_eq, cond-false, cond-true, cond_both, eq-eqb, eqb-true, le-ltb, ne_eqb}
pub use Rattle.std.proofs.lemmas.Int.{clamps, ints}
pub use Rattle.std.proofs.lemmas.List.{drop_more, get_or_default, length-map, length-reverse, length_push, map-append, reverse-append, take-append-drop, take_all, take_more}
pub use Rattle.std.proofs.lemmas.List.Elements.{All-contains, All-from_recursion, Contains-append_cases, Contains-append_left, Contains-append_right, Contains-get_or, recursion_from_All}
pub use Rattle.std.proofs.lemmas.List.Sums.{sum_by_more}
pub use Rattle.std.specs.List.{AllByRecursion}
pub use Rattle.std.specs.Prelude.{Contains, IfSome, None, Option, Some, cond, count_by, fold, max, min, nat_abs, nat_lt, neg_ℤ, negsuc, pos, slice_set, sum_by, ℤ}

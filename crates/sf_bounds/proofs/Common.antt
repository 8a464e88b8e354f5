-- The imports that the proof files of this crate share.
pub use Rattle.sf_bounds.specs.Open.{AreWireCosts, IsAreaCost, IsAreaCostOrNone}
pub use Rattle.sf_bounds.specs.Rows.{AreBlockRows, AreKept, AreStored, AreSums, AreTop, AreWires, IsEnding, IsFitCell, IsLonger, IsNetEnd, IsNetFrame, IsRow, IsStart, block_cell, cell_at, cell_of, changed, counted, first_end, framed, joined_cell, joined_reach, lefts_of, of_weight, own_reach, pads_share, part, pins_at, pushed, pushed_reach, row, start_cell, token_of, weighed_cell, weighed_hull, weighed_lefts, weighed_nets, weights_of, whole_extent, with_pad}
pub use Rattle.sf_bounds.specs.declared.net_frame.BlockRow.{BlockRow}
pub use Rattle.sf_bounds.specs.declared.net_frame.Cell.{Cell}
pub use Rattle.sf_bounds.specs.declared.net_frame.NetFrame.{NetFrame}
pub use Rattle.sf_bounds.specs.declared.net_frame.Wires.{Wires}
pub use Rattle.sf_curves.specs.Direction.{token_in}
pub use Rattle.sf_curves.specs.declared.direction.Direction.{Direction}
pub use Rattle.sf_curves.specs.declared.direction.Direction.TheVariants.{Above, Beside}
pub use Rattle.sf_frames.proofs.Switching.{begins-same, items-same}
pub use Rattle.sf_frames.proofs.Topping.{AreThere, LiesOn, block-inside, items-block, items-joined, pair-are, pair-there, some-first, take-next}
pub use Rattle.sf_frames.specs.Kept.{IsNext, items_at, no_token}
pub use Rattle.sf_model.proofs.Each.{each-append, each-map, each-weaker}
pub use Rattle.sf_model.proofs.Used.{lefts-count, lefts-most}
pub use Rattle.sf_model.specs.Legal.{block_count}
pub use Rattle.sf_model.specs.Limits.{pin_count, pin_number}
pub use Rattle.sf_model.specs.Spans.{shapes_in}
pub use Rattle.sf_model.specs.Tree.{width}
pub use Rattle.sf_model.specs.declared.design.Design.{Design}
pub use Rattle.sf_model.specs.declared.parts.Net.{Net}
pub use Rattle.sf_model.specs.declared.parts.Pin.{Pin}
pub use Rattle.sf_nets.proofs.ModestExtents.{IsSmallOffset, item-small, joined-length, offsets-small}
pub use Rattle.sf_nets.specs.Ends.{IsFitInterval, IsFitReach, anywhere, endless, met, reach_gap, shared}
pub use Rattle.sf_nets.specs.Layout.{IsModestExtent, joined_extent}
pub use Rattle.sf_nets.specs.Pins.{IsNet, pad_reach}
pub use Rattle.sf_nets.specs.declared.reach.Reach.{Reach}
pub use Rattle.sf_nets.specs.declared.wire_parts.WireParts.{WireParts}
pub use Rattle.sf_node.proofs.Reached.{steps-after}
pub use Rattle.sf_node.specs.Children.{CanStep, IsSubproblem, after}
pub use Rattle.sf_node.specs.Parts.{Parts}
pub use Rattle.sf_node.specs.Subproblem.{is_complete, root}
pub use Rattle.sf_node.specs.declared.part.Part.TheVariants.{Area, Full, Hull, Pair, Range}
pub use Rattle.sf_polish.proofs.Normality.{numbers}
pub use Rattle.sf_polish.specs.declared.expr.Token.{Token}
pub use Rattle.sf_standard.proofs.Exact.{whole-item}
pub use Rattle.sf_standard.proofs.Sides.{IsSmallExtent, span-small}
pub use Rattle.sf_standard.proofs.Unmoved.{block_keeps, lone-hull, sum_by-same}
pub use Rattle.sf_standard.specs.Hull.{contains_pin, extent_of, gap, hull_of, hull_part, item_extent, moved_right, moved_up, of_pins, offset_x, offset_y, offsets, pads_x, pads_y, pair_part, range_part, to_nat}
pub use Rattle.sf_standard.specs.Items.{Item, item_in, items_of, read}
pub use Rattle.sf_standard.specs.Standard.{area, full_part, greatest, least_of, net_part, open_value, part_value, pins_by, rest_part, standard, weighed_part, wire_part, wires_by}
pub use Rattle.sf_standard.specs.declared.hull.Extent.{Extent}
pub use Rattle.sf_standard.specs.declared.hull.Interval.{Interval}
pub use Rattle.sf_standard.specs.declared.hull.Offset.{Offset}
pub use Rattle.std.proofs.Math.Nat.{mul-le-mul}
pub use Rattle.std.proofs.lemmas.Bool.{cases_lt, cond-false, cond-true, cond_both, le-ltb, lt-ltb, ltb-false}
pub use Rattle.std.proofs.lemmas.Int.{clamps, ints}
pub use Rattle.std.proofs.lemmas.List.{append-nil, get_or-append_right, get_or-map, get_or-take, get_or_append_left, get_or_default, get_or_push, length-map, length-take-le, length_push, map-append, take-append-le, take-map, take-take, take_all, take_more, take_more_same}
pub use Rattle.std.proofs.lemmas.List.Elements.{All-append, All-filter, All-from_recursion, All-push, filter-append, recursion_from_All}
pub use Rattle.std.proofs.lemmas.List.FromFn.{get_or-map-range_with_len, length-map-range_with_len, map-range_with_len_more}
pub use Rattle.std.proofs.lemmas.List.Sums.{sum_by-cons, sum_by_more}
pub use Rattle.std.proofs.lemmas.Slice.Zip.{get_or-zip, length-zip}
pub use Rattle.std.specs.List.{AllByRecursion, range_with_len}
pub use Rattle.std.specs.Prelude.{Some, cond, fold, int_lt, nat_lt, neg_ℤ, pos, slice_get, sum, sum_by, ℤ}

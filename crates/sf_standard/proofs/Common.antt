-- The imports that the proof files of this crate share.
pub use Prim.Native.Nat.{zero}
pub use Rattle.sf_bound.proofs.Whole.{listed-belongs, solved-complete, solved_single}
pub use Rattle.sf_curves.proofs.Members.{Contains-cons_cases, Contains-head, Contains-tail, not_in_nil}
pub use Rattle.sf_model.proofs.Bounded.{cost-below}
pub use Rattle.sf_model.proofs.Each.{EachPair, EachPair-append, EachPair-filter, EachPair-map, EachPair-range, each-append, each-left, each-map, each-right, each-weaker}
pub use Rattle.sf_model.proofs.Floored.{no_floor, own_floor}
pub use Rattle.sf_model.proofs.Used.{Spare, Walks, axis-spare, by_number, exchange, has_pin-Contains, none-routes, paths-nets, pulls-small, steps_of, to_nat-le, unrouted}
pub use Rattle.sf_model.specs.Cost.{cost}
pub use Rattle.sf_model.specs.Legal.{Fits, IsLegal, block_count, shapes_of}
pub use Rattle.sf_model.specs.Limits.{IsCoordinate, IsPinSet, IsSide, IsWithinLimits, pin_count, pin_number, pin_order}
pub use Rattle.sf_model.specs.Paths.{ArePathsOfAxis, AreRoutes, IsHop, IsPath, end_of, hops, is_pad, last_of, left_from, net_in, no_paths, pad_x, pad_y, path_wires, pull, uses}
pub use Rattle.sf_model.specs.Spans.{shapes_in}
pub use Rattle.sf_model.specs.Tree.{Above, Beside, IsInside, Leaf, Tree, height, leaves, spots_at, spots_of, width}
pub use Rattle.sf_model.specs.Wire.{net_wire, pad_at, pin_x, pin_y, spot_of, spread, weighed_wire, wire}
pub use Rattle.sf_model.specs.declared.TheConstants.{MAX}
pub use Rattle.sf_model.specs.declared.design.Design.{Design}
pub use Rattle.sf_model.specs.declared.parts.Block.{Block}
pub use Rattle.sf_model.specs.declared.parts.Net.{Net}
pub use Rattle.sf_model.specs.declared.parts.Outline.{Outline}
pub use Rattle.sf_model.specs.declared.parts.Pad.{Pad}
pub use Rattle.sf_model.specs.declared.parts.Pin.{Pin}
pub use Rattle.sf_model.specs.declared.parts.Shape.{Shape}
pub use Rattle.sf_model.specs.declared.paths.Path.{Path}
pub use Rattle.sf_model.specs.declared.paths.Paths.{Paths}
pub use Rattle.sf_model.specs.declared.plan.Spot.{Spot}
pub use Rattle.sf_node.proofs.Normalised.{complete-normal}
pub use Rattle.sf_node.proofs.Reached.{subproblem-spans}
pub use Rattle.sf_node.specs.Bounds.{IsExactAtEnd, IsSound}
pub use Rattle.sf_node.specs.Children.{CanStep, IsSubproblem, after, extended, is_unused, walk}
pub use Rattle.sf_node.specs.Full.{full}
pub use Rattle.sf_node.specs.Parts.{Parts}
pub use Rattle.sf_node.specs.Subproblem.{Belongs, is_complete, is_solved, is_wide, root, span_of}
pub use Rattle.sf_polish.proofs.Normality.{inside-number, normal-spelled}
pub use Rattle.sf_polish.proofs.Stack.{Reads, count_by-postfix, length-postfix}
pub use Rattle.sf_polish.specs.Normal.{is_block, is_outside}
pub use Rattle.sf_polish.specs.Postfix.{IsSkewed, is_above, is_beside, postfix}
pub use Rattle.sf_polish.specs.declared.expr.Token.{Token}
pub use Rattle.sf_standard.specs.Hull.{block_pins, contains_pin, extent_in, extent_of, gap, greatest_two, greatest_with, hull_of, hull_part, item_extent, moved_right, moved_up, of_pins, offset_x, offset_y, offsets, pads_x, pads_y, pair_part, point, range_part, range_x, range_y, small_side, to_nat}
pub use Rattle.sf_standard.specs.Items.{Item, fits, fitting, item_of, items_of, plans, read, unused}
pub use Rattle.sf_standard.specs.Standard.{AllHavePlans, area, area_part, bounded, full_part, greatest, has_none, has_single_spans, least_cost, least_of, needed_area, net_part, nets_by, open_value, part_value, pins_by, pins_part, plans_of, rest_part, standard, weighed_part, wire_part, wires_by}
pub use Rattle.sf_standard.specs.declared.hull.Extent.{Extent}
pub use Rattle.sf_standard.specs.declared.hull.Interval.{Interval}
pub use Rattle.sf_standard.specs.declared.hull.Offset.{Offset}
pub use Rattle.std.proofs.Math.Nat.{add-mul, mul-add, mul-le-mul, mul-le-mul_left, mul-le-mul_right}
pub use Rattle.std.proofs.lemmas.Bool.{and_from, and_parts, cases_eq, cases_lt, cond-false, cond-true, cond_both, eq-eqb, eqb-true, le-leb, leb-true, ltb-false, ltb-true, ne_eqb, true≢false}
pub use Rattle.std.proofs.lemmas.Int.{clamps, ints}
pub use Rattle.std.proofs.lemmas.List.{get_or_past, map-append, nil_from_length}
pub use Rattle.std.proofs.lemmas.List.Elements.{All-contains, Contains-append_cases, Contains-append_left, Contains-append_right, recursion_from_All}
pub use Rattle.std.proofs.lemmas.List.Sums.{sum-map, sum_by-append, sum_by-cons}
pub use Rattle.std.specs.Int.{int_max, int_min}
pub use Rattle.std.specs.List.{AllByRecursion, flat_map, list_all, list_any, range_with_len}
pub use Rattle.std.specs.Prelude.{Contains, IsFalse, count_by, drop, filter, fold, nat_abs, nat_le, nat_lt, neg_ℤ, negsuc, not, pos, slice_index_or, slice_range, sum, sum_by, zip, ℤ, ⊤}

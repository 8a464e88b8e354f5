-- The imports that the proof files of this crate share.
pub use Prim.Native.Nat.{zero}
pub use Rattle.sf_curves.proofs.Members.{AllPairs-tail, Contains-cons_cases, Contains-head, Contains-tail, not_in_nil}
pub use Rattle.sf_curves.specs.Choices.{size_of}
pub use Rattle.sf_curves.specs.Direction.{plan_in, size_in, token_in}
pub use Rattle.sf_curves.specs.Points.{IsCombination, IsCovered, IsCurveOf, IsLeastArea, IsNoLarger, IsSlimmer, IsWithin, above_size, area_of, beside_size}
pub use Rattle.sf_curves.specs.declared.direction.Direction.{Direction}
pub use Rattle.sf_frames.specs.Anew.{AddsUnused, AreGroupCurves, AreItemCurves, IsJoined, IsStep}
pub use Rattle.sf_frames.specs.AreaPart.{IsAreaPart}
pub use Rattle.sf_frames.specs.Curves.{IsItemCurve}
pub use Rattle.sf_frames.specs.Kept.{AreWhole, IsCommon, IsEndOf, IsFrame, IsKept, IsNext, IsStored, IsStoredIn, IsStoredPath, IsTight, added, at_end, groups_at, items_at, made_for, needed, no_token, path, point_count, points_of, token_of, ways}
pub use Rattle.sf_frames.specs.Least.{AllSmall, IsLeastOf, height_of, least_by, width_of}
pub use Rattle.sf_frames.specs.Room.{Adds, HasFrames, HasRoom, IsTopCurve, IsWithinRoom, NeedsMore}
pub use Rattle.sf_frames.specs.Sums.{AreSums, AreSumsOrNone, AreWithin, IsLeastFor, IsLeastOrNone, joined}
pub use Rattle.sf_frames.specs.declared.frame.Frame.{Frame}
pub use Rattle.sf_frames.specs.declared.frame.Kept.{Kept}
pub use Rattle.sf_frames.specs.declared.least.Least.{Least}
pub use Rattle.sf_frames.specs.declared.stored.Stored.{Stored}
pub use Rattle.sf_frames.specs.declared.sums.Sums.{Sums}
pub use Rattle.sf_model.proofs.Counting.{length-at_most_once}
pub use Rattle.sf_model.proofs.Each.{each-append, each-left, each-right, each-weaker}
pub use Rattle.sf_model.specs.Legal.{block_count, shapes_of}
pub use Rattle.sf_model.specs.Spans.{shapes_in}
pub use Rattle.sf_model.specs.Tree.{Above, Beside, Leaf, Tree, height, width}
pub use Rattle.sf_model.specs.declared.TheConstants.{MAX}
pub use Rattle.sf_model.specs.declared.design.Design.{Design}
pub use Rattle.sf_model.specs.declared.parts.Outline.{Outline}
pub use Rattle.sf_model.specs.declared.parts.Shape.{Shape}
pub use Rattle.sf_node.proofs.Normalised.{complete-normal, subproblem-begun}
pub use Rattle.sf_node.proofs.Reached.{subproblem-spans}
pub use Rattle.sf_node.specs.Children.{CanStep, IsSubproblem, after, is_unused, walk}
pub use Rattle.sf_node.specs.Parts.{Parts}
pub use Rattle.sf_node.specs.Subproblem.{is_complete, root, span_of}
pub use Rattle.sf_polish.proofs.Normality.{count-numbers, length-numbers, numbers, numbers-below}
pub use Rattle.sf_polish.specs.Normal.{is_block, is_operand, operands}
pub use Rattle.sf_polish.specs.declared.expr.Token.{Token}
pub use Rattle.sf_standard.proofs.Appended.{read-append, read-block}
pub use Rattle.sf_standard.proofs.Cutting.{each-below, fits-true, least_of-le}
pub use Rattle.sf_standard.proofs.Exact.{fits-from}
pub use Rattle.sf_standard.proofs.Listed.{Contains-filter, Contains-from_filter, Contains-from_map, Contains-from_pairs, Contains-map, Contains-pairs, sum_by-map}
pub use Rattle.sf_standard.proofs.Operands.{Runs, runs-from}
pub use Rattle.sf_standard.specs.Items.{Block, Item, fits, fitting, item_in, items_of, pairs, plans, read, unused}
pub use Rattle.sf_standard.specs.Standard.{area, greatest, has_none, least_of, needed_area, plans_of}
pub use Rattle.std.proofs.Math.Nat.{mul-le-mul}
pub use Rattle.std.proofs.lemmas.Bool.{cases_eq, cases_lt, cond-false, cond-true, cond_both, eq-eqb, eqb-true, le-ltb, lt-ltb, ne_eqb, not-false, not-true, true≢false}
pub use Rattle.std.proofs.lemmas.List.{drop-append-le, drop-take, drop_all, drop_more, get_or-map, get_or-take, get_or_append_left, get_or_default, get_or_push, length-map, length-reverse, length-take-le, length_push, map-append, map_more, reverse-append, take-append-drop, take-append-le, take-map, take-take, take_all, take_more, take_more_same}
pub use Rattle.std.proofs.lemmas.List.Elements.{All-contains, All-from_recursion, All-head, All-more, All-tail, Contains-get_or, recursion_from_All}
pub use Rattle.std.proofs.lemmas.List.Sums.{sum-map, sum_by-append, sum_by-cons, sum_by_push}
pub use Rattle.std.specs.List.{AllByRecursion, AllZip, list_any, range_with_len}
pub use Rattle.std.specs.Prelude.{All, AllPairs, Any, Bool, Contains, MatchOption, None, Option, Some, cond, count_by, filter, nat_lt, slice_range, sum, sum_by}

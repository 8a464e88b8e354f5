-- The imports that the proof files of this crate share.
pub use Prim.Native.Nat.{zero}
pub use Rattle.sf_model.specs.AreaFloor.{IsAreaFloorIn, shapes_at}
pub use Rattle.sf_model.specs.Axes.{IsFirstWrongOfAxis, place_on}
pub use Rattle.sf_model.specs.Cost.{IsFloor, NoneFits, cost, right_end, upper_end}
pub use Rattle.sf_model.specs.Legal.{Fits, IsAreaFloor, IsLegal, block_count}
pub use Rattle.sf_model.specs.Limits.{IsCoordinate, IsDoubledCoordinate, IsWithinLimits}
pub use Rattle.sf_model.specs.Paths.{AreLegal, ArePathsOfAxis, AreRoutes, IsFirstWrong, IsHop, IsPath, all_lead, end_of, first_paths, has_pin, hops, is_pad, is_pin, last_of, leads, left_from, names_pad, net_in, no_paths, pad_in, pad_x, pad_y, path_wires, pull, reach_pad, to_nat, uses}
pub use Rattle.sf_model.specs.Tree.{Above, Beside, HasBlocksBelow, HasEachOnce, IsInside, Leaf, Overlaps, Tree, height, leaves, spots_at, spots_of, width}
pub use Rattle.sf_model.specs.Wire.{net_wire, pad_at, pin_x, pin_y, spot_of, spread, weighed_wire, wire}
pub use Rattle.sf_model.specs.declared.design.Design.{Design}
pub use Rattle.sf_model.specs.declared.parts.Block.{Block}
pub use Rattle.sf_model.specs.declared.parts.Net.{Net}
pub use Rattle.sf_model.specs.declared.parts.Outline.{Outline}
pub use Rattle.sf_model.specs.declared.parts.Pad.{Pad}
pub use Rattle.sf_model.specs.declared.parts.Pin.{Pin}
pub use Rattle.sf_model.specs.declared.parts.Shape.{Shape}
pub use Rattle.sf_model.specs.declared.parts.Weights.{Weights}
pub use Rattle.sf_model.specs.declared.paths.Path.{Path}
pub use Rattle.sf_model.specs.declared.paths.Paths.{Paths}
pub use Rattle.sf_model.specs.declared.paths.Routes.{Routes}
pub use Rattle.sf_model.specs.declared.paths.Step.{Step}
pub use Rattle.sf_model.specs.declared.plan.Spot.{Spot}
pub use Rattle.std.proofs.Math.Nat.{add-mul, mul-le-mul_left, mul_comm}
pub use Rattle.std.proofs.lemmas.Bool.{and_from, cases_eq, cases_lt, cases_order, cond-true, cond_both, eq-eqb, eqb-true, ne_eqb}
pub use Rattle.std.proofs.lemmas.Bool.Decides.{eqb_tells, nat_tests}
pub use Rattle.std.proofs.lemmas.Grind.{flat_map-append}
pub use Rattle.std.proofs.lemmas.Int.{clamps, ints}
pub use Rattle.std.proofs.lemmas.List.{ext_get_or, get_or-map, get_or-take, get_or_default, length-map, length-take-le, take-append-drop, take_all, take_more}
pub use Rattle.std.proofs.lemmas.List.Elements.{All-from_recursion, All-push, All-take, recursion_from_All}
pub use Rattle.std.proofs.lemmas.List.Sums.{sum_by-append, sum_by-cons, sum_by-take-le, sum_by_more}
pub use Rattle.std.specs.List.{All, AllByRecursion, Contains, count_by, flat_map, list_all, list_any, range_with_len, sum_by}
pub use Rattle.std.specs.Prelude.{Any, filter, fold, nat_abs, neg_ℤ, pos, ℤ, ⊤}

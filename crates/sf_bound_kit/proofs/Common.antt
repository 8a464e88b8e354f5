-- The imports that the proof files of this crate share.
pub use Prim.Native.Nat.{zero}
pub use Rattle.sf_bound_kit.specs.Greater.{greater, greater_part}
pub use Rattle.sf_bound_kit.specs.Keeping.{Keeps, kit_part, kit_value}
pub use Rattle.sf_bound_kit.specs.Pairs.{area_of_two, each_two, first_sides, have_no_room, least_sides, pair_area, pair_fit, sides_in}
pub use Rattle.sf_model.proofs.Each.{EachPair, EachPair-map, each-any, each-append, each-map, each-weaker}
pub use Rattle.sf_model.specs.Cost.{cost}
pub use Rattle.sf_model.specs.Legal.{Fits, block_count}
pub use Rattle.sf_model.specs.Spans.{shapes_in}
pub use Rattle.sf_model.specs.Tree.{Tree, height, spots_of, width}
pub use Rattle.sf_model.specs.Wire.{spot_of, wire}
pub use Rattle.sf_model.specs.declared.TheConstants.{MAX}
pub use Rattle.sf_model.specs.declared.design.Design.{Design}
pub use Rattle.sf_model.specs.declared.parts.Outline.{Outline}
pub use Rattle.sf_model.specs.declared.parts.Shape.{Shape}
pub use Rattle.sf_nets.proofs.PinLoops.{fold_whole}
pub use Rattle.sf_node.proofs.Reached.{subproblem-spans}
pub use Rattle.sf_node.specs.Bounds.{IsBelowAll}
pub use Rattle.sf_node.specs.Children.{IsSubproblem, after, extended, split}
pub use Rattle.sf_node.specs.Parts.{Parts}
pub use Rattle.sf_node.specs.Subproblem.{Belongs, root}
pub use Rattle.sf_node.specs.declared.part.Part.{Part}
pub use Rattle.sf_standard.specs.Hull.{extent_in, extent_of}
pub use Rattle.sf_standard.specs.Standard.{greatest, part_value, standard}
pub use Rattle.std.proofs.Math.Nat.{mul-le-mul, mul-le-mul_left}
pub use Rattle.std.proofs.lemmas.Bool.{and_parts, cond_both, ltb-true, or_cases}
pub use Rattle.std.proofs.lemmas.Int.{ints}
pub use Rattle.std.specs.List.{AllByRecursion, list_any, range_with_len}
pub use Rattle.std.specs.Prelude.{Contains, fold}

-- The imports that the proof files of this crate share.
pub use Prim.Native.Nat.{zero}
pub use Rattle.sf_bound.specs.Cheapest.{IsCheapest, IsPlanOf, NoneOfNode}
pub use Rattle.sf_bound.specs.Only.{Tells, first_shape}
pub use Rattle.sf_curves.specs.Choices.{AreSpans, IsChoice, IsRootCurve, IsTraceOf, size_of}
pub use Rattle.sf_curves.specs.Points.{IsLeastArea, IsWithin, area_of}
pub use Rattle.sf_model.proofs.Counting.{length-leaves}
pub use Rattle.sf_model.proofs.Each.{each-append, each-left, each-right, each-weaker}
pub use Rattle.sf_model.specs.Legal.{Fits, IsLegal, block_count, shapes_of}
pub use Rattle.sf_model.specs.Limits.{IsSide}
pub use Rattle.sf_model.specs.Spans.{shapes_in}
pub use Rattle.sf_model.specs.Tree.{Above, Beside, HasSides, Leaf, Tree, height, leaf_count, leaves, spots_of, tree_of, width}
pub use Rattle.sf_model.specs.declared.design.Design.{Design}
pub use Rattle.sf_model.specs.declared.parts.Shape.{Shape}
pub use Rattle.sf_node.proofs.Halves.{from_in_span, in_span}
pub use Rattle.sf_node.proofs.Normalised.{complete-normal}
pub use Rattle.sf_node.proofs.Reached.{after-subproblem, subproblem-spans}
pub use Rattle.sf_node.proofs.Spanned.{are-spans}
pub use Rattle.sf_node.specs.Children.{IsSubproblem}
pub use Rattle.sf_node.specs.Parts.{Parts}
pub use Rattle.sf_node.specs.Subproblem.{Belongs, is_complete, is_solved, is_wide, span_of}
pub use Rattle.sf_polish.proofs.Normality.{inside-number, normal-spelled}
pub use Rattle.sf_polish.proofs.Stack.{count_by-postfix, length-postfix}
pub use Rattle.sf_polish.specs.Normal.{IsNormal, is_block, is_outside}
pub use Rattle.sf_polish.specs.Postfix.{IsSkewed, Spells, postfix, shape_at}
pub use Rattle.sf_polish.specs.declared.expr.Expr.{Expr}
pub use Rattle.std.proofs.Math.Nat.{mul-le-mul, mul-le-mul_left}
pub use Rattle.std.proofs.lemmas.Bool.{and_parts, cases_eq, eqb-true, ltb-false, ne_eqb}
pub use Rattle.std.proofs.lemmas.List.{get_or_default, take_all}
pub use Rattle.std.proofs.lemmas.List.Elements.{All-contains, All-from_recursion, recursion_from_All}
pub use Rattle.std.proofs.lemmas.List.FromFn.{get_or-map-range_with_len, length-map-range_with_len}
pub use Rattle.std.specs.List.{AllByRecursion, list_all, range_with_len}
pub use Rattle.std.specs.Prelude.{Contains, IsFalse, count_by, nat_lt, slice_index_or}

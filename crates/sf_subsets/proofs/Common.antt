-- The imports that the proof files of this crate share.
pub use Rattle.sf_curves.proofs.Members.{Any-weaker, Contains-head, not_in_nil}
pub use Rattle.sf_curves.specs.Choices.{size_of}
pub use Rattle.sf_curves.specs.Direction.{plan_in, size_in}
pub use Rattle.sf_curves.specs.Points.{IsCombination, IsCovered, IsCurveOf, IsJoinOf, IsLeastArea, IsNoLarger, IsWithin, above_size, area_of, beside_size}
pub use Rattle.sf_curves.specs.declared.direction.Direction.{Direction}
pub use Rattle.sf_model.proofs.Each.{each-left, each-right}
pub use Rattle.sf_model.specs.Cost.{NoneFits}
pub use Rattle.sf_model.specs.Legal.{Fits, IsAreaFloor, IsLegal, block_count, shapes_of}
pub use Rattle.sf_model.specs.Limits.{IsSide}
pub use Rattle.sf_model.specs.Tree.{Above, Beside, HasSides, Leaf, Tree, leaf_count, leaves, tree_of}
pub use Rattle.sf_model.specs.declared.design.Design.{Design}
pub use Rattle.sf_model.specs.declared.parts.Outline.{Outline}
pub use Rattle.sf_model.specs.declared.parts.Shape.{Shape}
pub use Rattle.sf_subsets.specs.Covering.{AreLeasts, Covers, CoversPair, IsCoveredWithin, IsLeastOf}
pub use Rattle.sf_subsets.specs.Floors.{IsAreaOf, IsFitting, IsLeastPlan, KnowsArea}
pub use Rattle.sf_subsets.specs.Gathering.{AddsJoins, AddsPair, AddsSmall, AddsSplits, AreMade, HasFloors, IsFoundBelow, IsJoined, IsMade, IsPlanOfSize, IsSetCurve, IsSplitJoin, IsSplitOf, IsTable, curve_at, limit_of}
pub use Rattle.sf_subsets.specs.Sets.{IsPart, IsPlanOf, IsSplit, times, total}
pub use Rattle.sf_subsets.specs.declared.budget.Budget.{Budget}
pub use Rattle.sf_subsets.specs.declared.least.LeastPlan.{LeastPlan}
pub use Rattle.sf_subsets.specs.declared.table.Table.{Table}
pub use Rattle.std.proofs.Math.Nat.{mul-le-mul, mul-le-mul_left}
pub use Rattle.std.proofs.lemmas.Bool.{cases_lt, ne_eqb}
pub use Rattle.std.proofs.lemmas.Bool.Decides.{eqb_tells}
pub use Rattle.std.proofs.lemmas.List.{drop_more, get_or_append_left, get_or_default, get_or_push, take_all, take_more}
pub use Rattle.std.proofs.lemmas.List.Elements.{All-append, All-cons, All-contains, All-from_recursion, All-head, All-nil, All-weaker, Contains-append_left, Contains-push, Contains-push_cases, recursion_from_All}
pub use Rattle.std.proofs.lemmas.List.Sums.{sum_by-append, sum_by-cons}
pub use Rattle.std.proofs.lemmas.Nat.Bits.{bit_at-lt, bit_at-suc, bit_at-trailing_zeros, bit_at-zero, bit_at_above, bit_at_and, bit_at_cat_high, bit_at_cat_low, bit_at_lowest, bit_at_ones, bit_at_ones_above, same_from_bits}
pub use Rattle.std.proofs.lemmas.Result.{IfOk-weaker, on_ok_weaker}
pub use Rattle.std.specs.Int.{bit_at, trailing_zeros, w64}
pub use Rattle.std.specs.List.{AllByRecursion}
pub use Rattle.std.specs.Prelude.{All, Any, Contains, MatchOption, bit_and, count_by}

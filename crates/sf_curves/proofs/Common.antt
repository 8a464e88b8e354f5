-- The imports that the proof files of this crate share.
pub use Rattle.sf_curves.specs.Choices.{IsChoice, IsLowestOf, IsNarrowestOf, IsRootCurve, IsTraceOf, TakesFrom, size_of}
pub use Rattle.sf_curves.specs.Direction.{size_in}
pub use Rattle.sf_curves.specs.Forms.{IsChosen, IsCurveTree, IsSized, IsTraced, curve_of, form, form_of}
pub use Rattle.sf_curves.specs.Points.{AddsWithin, CoversJoins, IsCombination, IsCovered, IsCurveOf, IsJoinOf, IsLeastArea, IsLowest, IsNarrowest, IsNoLarger, IsNoLater, IsShort, IsSlimmer, IsSmaller, IsWithin, above_size, area_of, beside_size}
pub use Rattle.sf_curves.specs.declared.curve_tree.CurveTree.{CurveTree}
pub use Rattle.sf_curves.specs.declared.direction.Direction.{Direction}
pub use Rattle.sf_model.proofs.Each.{each-append, each-left, each-right}
pub use Rattle.sf_model.specs.Tree.{Above, Beside, HasBlocksBelow, HasEachOnce, Leaf, Tree, leaves, tree_of}
pub use Rattle.sf_model.specs.declared.design.Design.{Design}
pub use Rattle.sf_model.specs.declared.parts.Outline.{Outline}
pub use Rattle.sf_model.specs.declared.parts.Shape.{Shape}
pub use Rattle.sf_polish.proofs.Shaped.{once-of_normal, one-expression, spelled-by}
pub use Rattle.sf_polish.specs.Normal.{IsNormal}
pub use Rattle.sf_polish.specs.Postfix.{IsSkewed, Spells, postfix, shape_at}
pub use Rattle.sf_polish.specs.Shaping.{no_shape, with_leaves}
pub use Rattle.sf_polish.specs.declared.expr.Expr.{Expr}
pub use Rattle.sf_polish.specs.declared.expr.Token.{Token}
pub use Rattle.std.proofs.lemmas.Bool.{cases_lt}
pub use Rattle.std.proofs.lemmas.List.{drop_all, drop_more, get_or-map, get_or-reverse, get_or-take, get_or_append_left, get_or_default, length-map, length-replicate, length-reverse, length-take, map-append, reverse-append, take_all, take_more}
pub use Rattle.std.proofs.lemmas.List.Elements.{All-contains, All-from_recursion, All-push, All-weaker, Contains-append_left, Contains-get_or, Contains-push, Contains-push_cases, recursion_from_All}
pub use Rattle.std.proofs.lemmas.List.Quantifiers.{Any-push, all_pairs_push}
pub use Rattle.std.proofs.lemmas.List.Sorted.{All-permutation, Contains-permutation, IsPermutation-sym, ranks_by, sorted_far}
pub use Rattle.std.specs.List.Sorted.{IsPermutation, IsSortedByKey}
pub use Rattle.std.specs.Prelude.{All, AllPairs, Any, Contains, IfOk, MatchOption, replicate}

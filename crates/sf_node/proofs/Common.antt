-- The imports that the proof files of this crate share.
pub use Prim.Native.Nat.{zero}
pub use Rattle.sf_model.proofs.Counting.{each-once_by_length, length-leaves}
pub use Rattle.sf_model.proofs.Each.{AllPairs-from_recursion, Any-from_recursion, EachPair, EachPair-append, EachPair-filter, EachPair-map, EachPair-range, EachPair-weaker, Some, Some-filter, Some-left, Some-map, Some-range, Some-right, each-append, each-filter, each-map, each-range, each-weaker}
pub use Rattle.sf_model.specs.Legal.{IsLegal, block_count, shapes_of}
pub use Rattle.sf_model.specs.Limits.{IsBefore, IsShapeList}
pub use Rattle.sf_model.specs.Spans.{shapes_in, span_in}
pub use Rattle.sf_model.specs.Tree.{Tree, leaves, tree_of}
pub use Rattle.sf_model.specs.declared.design.Design.{Design}
pub use Rattle.sf_model.specs.declared.parts.Shape.{Shape}
pub use Rattle.sf_node.specs.Children.{CanSplit, CanStep, CanWalk, IsSubproblem, after, extended, is_unused, may_join, middle, next_tokens, split, step_of, walk, when, with_span, with_token}
pub use Rattle.sf_node.specs.Later.{behind, blocks_from, extending, halved, later, pending, when_step}
pub use Rattle.sf_node.specs.Laws.{BelongsToOne}
pub use Rattle.sf_node.specs.Parts.{Parts}
pub use Rattle.sf_node.specs.Spans.{AreInSpans, IsInSpan}
pub use Rattle.sf_node.specs.Subproblem.{BeginsWith, Belongs, is_complete, root, span_of}
pub use Rattle.sf_node.specs.declared.step.Step.{Step}
pub use Rattle.sf_node.specs.declared.step.Step.TheVariants.{Above, Beside, Block, Left, Right}
pub use Rattle.sf_polish.proofs.Stack.{Alternating, Alternating-append, Reads, Reads-append, Reads-counts, another-before, count_by-postfix, length-postfix, two-before}
pub use Rattle.sf_polish.specs.Normal.{IsNormal, ends_in, is_block, is_operand, is_outside, last_or, operands, operators, same_operator}
pub use Rattle.sf_polish.specs.Postfix.{IsSkewed, Spells, postfix, shape_at}
pub use Rattle.sf_polish.specs.declared.expr.Token.{Token}
pub use Rattle.std.proofs.lemmas.Bool.{and_from, and_parts, cases_eq, cases_lt, cond-false, cond-true, cond_both, eq-eqb, eqb-false, eqb-true, le-leb, leb-true, lt-ltb, ltb-true, ne_eqb, not_from_false, not_from_true, true≢false}
pub use Rattle.std.proofs.lemmas.List.{append_cancel_left, get_or-map, get_or_default, length-map, map-append, set-get_or, set-set, take_at}
pub use Rattle.std.proofs.lemmas.List.Elements.{All-from_recursion, recursion_from_All}
pub use Rattle.std.proofs.lemmas.List.Sums.{sum_by-append, sum_by-cons}
pub use Rattle.std.specs.List.{AllByRecursion, range_with_len}
pub use Rattle.std.specs.Prelude.{AllPairs, Contains, IsFalse, IsTrue, count_by, filter, nat_le, nat_lt, not, slice_index_or, slice_range, slice_set}

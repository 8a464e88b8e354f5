-- The imports that the proof files of this crate share.
pub use Rattle.rand_core.specs.Stream.{Stream, next_u32}
pub use Rattle.rayon.specs.Numbers.{nat_range}
pub use Rattle.sf_anneal.specs.Measured.{IsCost, IsFloorplan, IsMeasure, IsTraced, cost_of, whole_spans}
pub use Rattle.sf_anneal.specs.Moves.{AreNormal, MayFollow, MayPrecede, MayStep, begun_by, flipped, flipped_from, is_operand_at, operand_place, runs, runs_from, stepped, swapped, turned}
pub use Rattle.sf_anneal.specs.Parts.{AreBlockCurves, AreKnown, AreMoved, AreParts, AreRenewed, HaveRoom, IsAsKnown, IsBlockCurve, IsBlockPart, IsFound, IsJointPart, IsLaid, IsPart, IsReady, IsTaken, before_in, chosen_curve, curve_by, kept_in, known_curve, level, moved_curve, stretch, token_at}
pub use Rattle.sf_anneal.specs.Starts.{IsImproved, IsImprovedStarts, IsNoDearer, IsOwnWalk, IsStart, IsStarts, begun_plan, first_least, lesser, words_of}
pub use Rattle.sf_anneal.specs.declared.beginning.Beginning.{Beginning}
pub use Rattle.sf_anneal.specs.Visits.{visit_of}
pub use Rattle.sf_anneal.specs.Walk.{IsMoveOf, IsMoved, IsStepped, IsWalk, Visit, chain, cheaper, height, kept, slack, trials}
unfoldable pub use Rattle.sf_anneal.specs.Walk.{Walks}
pub use Rattle.sf_anneal.specs.declared.parts.Moved.{Moved}
pub use Rattle.sf_anneal.specs.declared.parts.Parts.{Parts}
pub use Rattle.sf_curves.proofs.Forms.{form-postfix, one-form, skewed-of_normal}
pub use Rattle.sf_curves.proofs.Joints.{IsFitting, rooms_fit, rooms_small, shared, shared_fit}
pub use Rattle.sf_curves.proofs.Members.{Contains-head, Contains-tail, not_in_nil}
pub use Rattle.sf_curves.specs.Choices.{AreSpans, IsChoice, IsRootCurve, IsTraceOf, TakesFrom, size_of}
pub use Rattle.sf_curves.specs.Direction.{plan_in, size_in, token_in}
pub use Rattle.sf_curves.specs.Points.{IsCombination, IsCovered, IsJoinOf, IsLeastArea, IsLowest, IsNarrowest, IsNoLarger, IsSlimmer, IsWithin, area_of}
pub use Rattle.sf_curves.specs.declared.direction.Direction.{Direction}
pub use Rattle.sf_model.proofs.Each.{each-append, each-left, each-right, each-weaker}
pub use Rattle.sf_model.specs.Cost.{cost}
pub use Rattle.sf_model.specs.Legal.{Fits, IsLegal, block_count, shapes_of}
pub use Rattle.sf_model.specs.Spans.{shapes_in, span_in}
pub use Rattle.sf_model.specs.Tree.{Above, Beside, HasEachOnce, Leaf, Tree, leaves, spots_of, tree_of}
pub use Rattle.sf_model.specs.declared.TheConstants.{MAX}
pub use Rattle.sf_model.specs.declared.design.Design.{Design}
pub use Rattle.sf_model.specs.declared.parts.Outline.{Outline}
pub use Rattle.sf_model.specs.declared.parts.Shape.{Shape}
pub use Rattle.sf_model.specs.declared.plan.Spot.{Spot}
pub use Rattle.sf_polish.proofs.Normality.{Reads-ballot, alternates, both-kinds, first-free, normal-reads, postfix-normal}
pub use Rattle.sf_polish.proofs.Shaped.{length-with_leaves, once-of_normal, spelled-by}
pub use Rattle.sf_polish.proofs.Spelling.{spells-one}
pub use Rattle.sf_polish.proofs.Stack.{Alternating, Alternating-after, Alternating-append, Alternating-before, Reads, Reads-append, Reads-counts, Reads-split}
pub use Rattle.sf_polish.specs.Normal.{IsNormal, ends_in, is_block, is_operand, is_outside, last_or, operands, operators, same_operator}
pub use Rattle.sf_polish.specs.Postfix.{IsSkewed, Spells, postfix}
pub use Rattle.sf_polish.specs.Shaping.{no_shape, with_leaves}
pub use Rattle.sf_polish.specs.declared.expr.Expr.{Expr}
pub use Rattle.sf_polish.specs.declared.expr.Token.{Token}
pub use Rattle.std.proofs.Math.Seq.{drop-cons, drop-nil, get_or-append_seam, map-set_same, take-add, take-append_seam, take-length, take-suc}
pub use Rattle.std.proofs.lemmas.Bool.{OnTrue_at, OnTrue_from, cases_lt, ltb-false, ltb-true}
pub use Rattle.std.proofs.lemmas.Bool.Decides.{eqb_tells, nat_tests}
pub use Rattle.std.proofs.lemmas.Grind.{common_steps, get_or_default_zero}
pub use Rattle.std.proofs.lemmas.List.{drop_all, ext_get_or, get_or-drop, get_or-map, get_or-set_other, get_or-set_same, get_or_append_left, get_or_default, length-drop, length-map, length-replicate, length-take, take-append-drop, take_all}
pub use Rattle.std.proofs.lemmas.List.Edits.{length-swap, swap_is, swapped_from_swap}
pub use Rattle.std.proofs.lemmas.List.Elements.{All-contains, All-from_recursion, Contains-get_or, recursion_from_All}
pub use Rattle.std.proofs.lemmas.List.Sorted.{All-permutation, IsPermutation-swap, length_permutation, sum_by-IsPermutation}
pub use Rattle.std.proofs.lemmas.List.Sums.{count_by_more_no, count_by_more_yes, sum_by-append, sum_by-cons}
pub use Rattle.std.specs.List.{AllByRecursion, AllZip, range_with_len, swap}
pub use Rattle.std.specs.List.Sorted.{IsPermutation}
pub use Rattle.std.specs.Prelude.{All, IsFalse, count_by, map, nat_lt}
pub use Rattle.std.specs.declared.alloc.AllocError.{AllocError}

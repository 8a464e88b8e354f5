-- The imports that the proof files of this crate share.
pub use Rattle.sf_model.proofs.BlocksBelow.{once-below}
pub use Rattle.sf_model.proofs.Counting.{length-each_once, length-leaves_once}
pub use Rattle.sf_model.proofs.Each.{each-append, each-left, each-right}
pub use Rattle.sf_model.specs.Cost.{cost, weighed}
pub use Rattle.sf_model.specs.Legal.{Fits, IsLegal, block_count, shapes_of}
pub use Rattle.sf_model.specs.Tree.{Above, Beside, HasBlocksBelow, HasEachOnce, Leaf, Tree, height, leaves, spots_at, spots_of, tree_of, width}
pub use Rattle.sf_model.specs.declared.parts.Shape.{Shape}
pub use Rattle.sf_polish.specs.Normal.{Alternates, IsBallot, IsNormal, ends_in, is_block, is_operand, is_outside, last_or, operands, operators, same_operator}
pub use Rattle.sf_polish.specs.Postfix.{IsSkewed, Spells, is_above, is_beside, postfix, shape_at}
pub use Rattle.sf_polish.specs.Shaping.{no_shape, with_leaves}
pub use Rattle.sf_polish.specs.Skewing.{IsSamePlace, above, beside, skewed_plan}
pub use Rattle.sf_polish.specs.declared.expr.Expr.{Expr}
pub use Rattle.sf_polish.specs.declared.expr.Token.{Token}
pub use Rattle.std.proofs.Math.Seq.{drop-cons}
pub use Rattle.std.proofs.lemmas.Bool.{cases_lt, lt-ltb, ltb-true, not_from_true, true_from_ne_false, true≢false}
pub use Rattle.std.proofs.lemmas.Bool.Decides.{eqb_tells}
pub use Rattle.std.proofs.lemmas.List.{ext_get_or, get_or-set_other, get_or-set_same, length-replicate, length-set}
pub use Rattle.std.proofs.lemmas.List.Elements.{All-from_recursion, recursion_from_All}
pub use Rattle.std.proofs.lemmas.List.Sums.{sum_by-append, sum_by-cons}
pub use Rattle.std.proofs.lemmas.Result.{IfOk-weaker}
pub use Rattle.std.specs.List.{AllByRecursion}
pub use Rattle.std.specs.Prelude.{Contains, IsFalse, count_by, nat_lt, ⊤}

-- The imports that the proof files of this crate share.
pub use Rattle.sf_count.specs.Few.{AllBranchFirst, BranchesFirst}
pub use Rattle.sf_count.specs.Given.{full_of}
pub use Rattle.sf_model.proofs.Each.{Some, Some-left, each-map, each-weaker}
pub use Rattle.sf_model.specs.declared.design.Design.{Design}
pub use Rattle.sf_node.specs.Children.{CanSplit, CanStep, CanWalk, IsSubproblem, after, extended, is_unused, middle, next_tokens, split, step_of, walk}
pub use Rattle.sf_node.specs.Full.{branches, first_wide_from, full, full_below}
pub use Rattle.sf_node.specs.Parts.{Parts}
pub use Rattle.sf_node.specs.Subproblem.{is_complete, is_solved, is_wide, root, span_of}
pub use Rattle.sf_node.specs.declared.step.Step.{Step}
pub use Rattle.sf_search_core.specs.declared.entry.Entry.{Entry}
pub use Rattle.std.proofs.lemmas.Bool.{and_parts, cases_Bool, cases_eq, cond-false, cond-true, eqb-true, leb-true, ltb-true}
pub use Rattle.std.proofs.lemmas.List.Sums.{sum_by-append, sum_by-cons, sum_by-set}
pub use Rattle.std.specs.List.{AllByRecursion, list_all}

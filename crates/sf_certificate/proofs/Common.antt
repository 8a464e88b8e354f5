-- The imports that the proof files of this crate share.
pub use Rattle.sf_certificate.specs.Form.{IsFormed, no_plan}
pub use Rattle.sf_certificate.specs.Marks.{IsFair, given_marks, made, marks, tag_of, waiting_after}
pub use Rattle.sf_certificate.specs.Places.{after_block, after_operator, ending_of, ending_or, extended_places, first_place, is_above, is_beside, is_full, may_above, may_beside, one_deeper, place_of, places_under, spell_tree, spell_trees, when_so}
pub use Rattle.sf_certificate.specs.Said.{Said, said_by}
pub use Rattle.sf_certificate.specs.Valid.{AreTrees, HasCost, IsValid, decided, least, left_open, one_decided}
pub use Rattle.sf_certificate.specs.declared.cert.Cert.{Cert}
pub use Rattle.sf_certificate.specs.declared.mark.Mark.{Mark}
pub use Rattle.sf_certificate.specs.declared.place.Place.{Place}
pub use Rattle.sf_certificate.specs.declared.tag.Tag.{Tag}
pub use Rattle.sf_certificate.specs.declared.tag.Tag.TheVariants.{Closed, Extend, Open, Split}
pub use Rattle.sf_model.proofs.Each.{EachPair, EachPair-append, EachPair-map, EachPair-weaker, Some, Some-left, Some-right, each-any, each-append, each-map, each-weaker}
pub use Rattle.sf_model.specs.Cost.{IsFloor, cost}
pub use Rattle.sf_model.specs.Legal.{Fits, block_count}
pub use Rattle.sf_model.specs.declared.design.Design.{Design}
pub use Rattle.sf_model.specs.declared.paths.Paths.{Paths}
pub use Rattle.sf_node.proofs.Halves.{each-both, split-some}
pub use Rattle.sf_node.proofs.Reached.{extended-subproblems, root-belongs, root-subproblem, split-subproblems, steps-after, subproblem-spans}
pub use Rattle.sf_node.specs.ByPart.{ArePartsOf, first_part}
pub use Rattle.sf_node.specs.Children.{IsSubproblem, after, extended, is_unused, may_join, next_tokens, split, step_of, walk, when}
pub use Rattle.sf_node.specs.Order.{rank, step_cmp, steps_cmp}
pub use Rattle.sf_node.specs.Parts.{Parts}
pub use Rattle.sf_node.specs.Subproblem.{Belongs, is_complete, root}
pub use Rattle.sf_node.specs.declared.part.Part.{Part}
pub use Rattle.sf_node.specs.declared.part.Part.TheVariants.{Area, Full, Hull, Pair, Range}
pub use Rattle.sf_node.specs.declared.step.Step.{Step}
pub use Rattle.sf_node.specs.declared.task.Task.{Task}
pub use Rattle.sf_polish.specs.Writable.{IsWritable}
pub use Rattle.sf_polish.specs.declared.expr.Expr.{Expr}
pub use Rattle.sf_polish.specs.declared.expr.Token.{Token}
pub use Rattle.sf_search_core.specs.declared.entry.Entry.{Entry}
pub use Rattle.std.proofs.lemmas.Bool.{and_from, cases_eq, cond-false, cond_both, eq-eqb, ne_eqb}
pub use Rattle.std.proofs.lemmas.Bool.Decides.{nat_tests}
pub use Rattle.std.proofs.lemmas.Cmp.{lists_total, nat_cmp_total, on_total, tied_itself}
pub use Rattle.std.proofs.lemmas.List.{map-append, reverse-append}
pub use Rattle.std.proofs.lemmas.List.Elements.{recursion_from_All}
pub use Rattle.std.proofs.lemmas.List.Sorted.{IsPermutation-append_right, IsPermutation-reverse, sum_by-IsPermutation}
pub use Rattle.std.proofs.lemmas.List.Sums.{sum_by-cons}
pub use Rattle.std.specs.List.{AllByRecursion, flat_map, range_with_len}
pub use Rattle.std.specs.Ordering.{is_lt, ordering_reverse, ordering_then}
pub use Rattle.std.specs.Prelude.{IsFalse, MatchOption, filter, nat_le, nat_lt, not, replicate, ⊤}

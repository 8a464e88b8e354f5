-- The imports that the proof files of this crate share.
pub use Prim.Native.Nat.{zero}
pub use Rattle.sf_model.specs.declared.TheConstants.{MAX}
pub use Rattle.sf_model.specs.declared.design.Design.{Design}
pub use Rattle.sf_node.proofs.Reached.{extended-subproblems, root-belongs, root-subproblem, split-subproblems, subproblem-spans}
pub use Rattle.sf_node.specs.Children.{IsSubproblem, after, next_tokens, step_of}
pub use Rattle.sf_node.specs.Parts.{Parts}
pub use Rattle.sf_node.specs.Subproblem.{Belongs, is_complete, is_solved, is_wide, root, span_of}
pub use Rattle.sf_node.specs.declared.task.Task.{Task}
pub use Rattle.sf_search_core.specs.Conserved.{IsConserved, IsDecided, branched, children}
pub use Rattle.sf_search_core.specs.Core.{IsCoreState, held_tasks, undecided}
pub use Rattle.sf_search_core.specs.Events.{AreBounds, CanCome, applied, close, held_by, held_in, kind_of, may_branch, offer, replace, take, tasks}
pub use Rattle.sf_search_core.specs.Least.{least}
pub use Rattle.sf_search_core.specs.State.{State}
pub use Rattle.sf_search_core.specs.declared.entry.Entry.{Entry}
pub use Rattle.sf_search_core.specs.declared.entry.Kind.{Kind}
pub use Rattle.sf_search_core.specs.declared.event.Event.{Event}
pub use Rattle.sf_search_core.specs.declared.event.Event.TheVariants.{Close, Offer, Replace, Take}
pub use Rattle.sf_search_core.specs.declared.event.How.{How}
pub use Rattle.sf_search_core.specs.declared.refusal.Refusal.{Refusal}
pub use Rattle.std.proofs.lemmas.Bool.{and_parts, cases_lt, cond-false, eqb-true, lt-ltb, ltb-true, true≢false}
pub use Rattle.std.proofs.lemmas.List.{map-append}
pub use Rattle.std.proofs.lemmas.List.Elements.{All-append, All-from_recursion, All-head, All-nil, All-push, All-tail, All-weaker, recursion_from_All}
pub use Rattle.std.proofs.lemmas.List.Sorted.{All-permutation, Contains-permutation, IsPermutation-append_comm, IsPermutation-append_left, IsPermutation-append_right, IsPermutation-cons, IsPermutation-map, IsPermutation-middle, IsPermutation-refl, IsPermutation-remove, IsPermutation-reverse, IsPermutation-sym, IsPermutation-trans}
pub use Rattle.std.specs.List.{AllByRecursion, filter_map, flat_map}
pub use Rattle.std.specs.Prelude.{Any, IfOk, IsTrue, nat_lt, remove, slice_get, slice_set}

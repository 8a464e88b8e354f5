-- The imports that the proof files of this crate share.
pub use Prim.Native.Nat.{zero}
pub use Rattle.sf_model.specs.declared.design.Design.{Design}
pub use Rattle.sf_node.specs.Children.{IsSubproblem}
pub use Rattle.sf_node.specs.Parts.{Parts}
pub use Rattle.sf_node.specs.declared.task.Task.{Task}
pub use Rattle.sf_pool.specs.Calls.{Answers, AreChildren, IsBranching}
pub use Rattle.sf_search_core.specs.Conserved.{branched}
pub use Rattle.sf_search_core.specs.Core.{IsCoreState}
pub use Rattle.sf_search_core.specs.Events.{AreBounds, CanCome, applied, held_by, held_in, kind_of, may_branch, replace, tasks}
pub use Rattle.sf_search_core.specs.State.{State}
pub use Rattle.sf_search_core.specs.declared.entry.Entry.{Entry}
pub use Rattle.sf_search_core.specs.declared.event.Event.{Event}
pub use Rattle.sf_search_core.specs.declared.event.Event.TheVariants.{Close, Offer, Replace, Take}
pub use Rattle.sf_search_core.specs.declared.event.How.{How}
pub use Rattle.sf_search_core.specs.declared.refusal.Refusal.{Refusal}
pub use Rattle.std.proofs.lemmas.Bool.{cond-true}
pub use Rattle.std.proofs.lemmas.List.{length-map, reverse-append}
pub use Rattle.std.specs.Prelude.{IfOk, nat_lt, slice_get, slice_set, zip}

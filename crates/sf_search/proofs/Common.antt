-- The imports that the proof files of this crate share.
pub use Rattle.sf_bound.specs.Cheapest.{IsLeastTrace, IsPlanOf}
pub use Rattle.sf_certificate.proofs.AfterTags.{marks-more, marks-then, open-all, opens, waiting-more}
pub use Rattle.sf_certificate.proofs.Merged.{least-same, marks-good}
pub use Rattle.sf_certificate.proofs.MergedCert.{merged-formed, plan-cost, task-bounds, turned}
pub use Rattle.sf_certificate.proofs.MergedTree.{IsMerged, all-fair, each-unmap}
pub use Rattle.sf_certificate.proofs.Named.{first-close, unnamed-decided, unnamed-marks, unnamed-open, unnamed-tree, unnamed-waiting}
pub use Rattle.sf_certificate.specs.Form.{IsFormed, no_plan}
pub use Rattle.sf_certificate.specs.Marks.{IsFair, given_marks, made, marks, tag_of, waiting_after}
pub use Rattle.sf_certificate.specs.Named.{AllNameFirst, unnamed, unnamed_mark}
pub use Rattle.sf_certificate.specs.Valid.{AreTrees, HasCost, IsValid, decided, least, left_open}
pub use Rattle.sf_certificate.specs.declared.cert.Cert.{Cert}
pub use Rattle.sf_certificate.specs.declared.mark.Mark.{Mark}
pub use Rattle.sf_certificate.specs.declared.tag.Tag.{Tag}
pub use Rattle.sf_certificate.specs.declared.tag.Tag.TheVariants.{Closed, Extend, Open, Split}
pub use Rattle.sf_count.proofs.FewEntries.{entries-few}
pub use Rattle.sf_count.specs.Few.{AllBranchFirst, BranchesFirst}
pub use Rattle.sf_cursor.specs.Path.{beyond, waiting}
pub use Rattle.sf_cursor.specs.Stretches.{IsStretch, waits}
pub use Rattle.sf_cursor.specs.declared.stretch.Stretch.{Stretch}
pub use Rattle.sf_model.proofs.Each.{each-append, each-left, each-map, each-right, each-weaker}
pub use Rattle.sf_model.specs.Legal.{block_count}
pub use Rattle.sf_model.specs.declared.TheConstants.{MAX}
pub use Rattle.sf_model.specs.declared.design.Design.{Design}
pub use Rattle.sf_node.proofs.Reached.{root-subproblem}
pub use Rattle.sf_node.specs.ByPart.{ArePartsOf}
pub use Rattle.sf_node.specs.Children.{CanSplit, IsSubproblem, extended, split}
pub use Rattle.sf_node.specs.Full.{full}
pub use Rattle.sf_node.specs.Later.{behind}
pub use Rattle.sf_node.specs.Parts.{Parts}
pub use Rattle.sf_node.specs.Subproblem.{is_complete, is_solved, is_wide, root, span_of}
pub use Rattle.sf_node.specs.declared.part.Part.{Part}
pub use Rattle.sf_node.specs.declared.part.Part.TheVariants.{Full}
pub use Rattle.sf_node.specs.declared.part.PartValues.{PartValues}
pub use Rattle.sf_node.specs.declared.task.Task.{Task}
pub use Rattle.sf_pieces.proofs.Names.{kept-more, kept-open, name-first, named-alike, renamed-alike}
pub use Rattle.sf_pieces.specs.Naming.{AreKept, kept_for, renamed}
pub use Rattle.sf_pieces.specs.Told.{AreTold, mark_of, open_mark}
pub use Rattle.sf_polish.specs.Writable.{IsWritable}
pub use Rattle.sf_polish.specs.declared.expr.Expr.{Expr}
pub use Rattle.sf_rounds.specs.Legs.{AreLeftOpen, IsLeg, tags_in}
pub use Rattle.sf_rounds.specs.Rounds.{all_waits}
pub use Rattle.sf_rounds.specs.Run.{IsBest}
pub use Rattle.sf_search.specs.Found.{AllSplitFirst, IsCertOf, IsFirst, IsFound, IsOfFirst, SplitsFirst}
pub use Rattle.sf_search.specs.Stage.{IsBeside, IsLeftOpen, IsMove, IsRun, IsStage, IsWhole, WalkView, task_at}
pub use Rattle.sf_search.specs.Turns.{AreAccepted, Decides, IsIdle, IsSettled, IsTurned, TurnsAreAccepted, best_after, first_wide, settling, turn, turn_events, turn_of, turns}
pub use Rattle.sf_search_core.proofs.Replaced.{not-lt, replace-done, replaced}
pub use Rattle.sf_search_core.specs.Conserved.{IsConserved, branched}
pub use Rattle.sf_search_core.specs.Core.{IsCoreState, held_tasks}
pub use Rattle.sf_search_core.specs.Outcome.{after_event, after_events, next_of, opening}
pub use Rattle.sf_search_core.specs.State.{State}
pub use Rattle.sf_search_core.specs.declared.entry.Entry.{Entry}
pub use Rattle.sf_search_core.specs.declared.entry.Kind.{Kind}
pub use Rattle.sf_search_core.specs.declared.event.Event.TheVariants.{Close, Offer, Replace, Take}
pub use Rattle.sf_worker.proofs.Visited.{IsPlain, plain-of}
pub use Rattle.sf_worker.specs.Decided.{IsSolvedBy, IsVisit, cost_at, kind_of, tag_after, tag_at}
pub use Rattle.sf_worker.specs.InHand.{HandView, IsFollowed, IsHand, left_of, marks_of}
pub use Rattle.sf_worker.specs.declared.visit.Visit.{Visit}
pub use Rattle.sf_worker.specs.declared.visit.Visit.TheVariants.{Extended, Solved}
pub use Rattle.std.proofs.lemmas.Bool.{cases_lt, cond-false, cond-true, lt-ltb}
pub use Rattle.std.proofs.lemmas.List.{drop_all, length-map, length-reverse, map-append, nil_from_length, reverse-append, reverse-reverse, take_at}
pub use Rattle.std.proofs.lemmas.List.Elements.{All-cons, All-from_recursion, All-nil, All-push, All-weaker, recursion_from_All}
pub use Rattle.std.proofs.lemmas.List.Sorted.{All-permutation, IsPermutation-reverse, IsPermutation-sym, IsPermutation-trans}
pub use Rattle.std.proofs.lemmas.List.Sums.{sum_by-cons}
pub use Rattle.std.specs.List.{AllByRecursion, list_all}
pub use Rattle.std.specs.Prelude.{IfOk, IsOk, IsPermutation, IsTrue, MatchOption, Some, nat_le, remove, slice_get, slice_set}

-- The imports that the proof files of this crate share.
pub use Rattle.sf_bound.specs.Cheapest.{IsPlanOf}
pub use Rattle.sf_certificate.proofs.AfterTags.{least-min}
pub use Rattle.sf_certificate.specs.Marks.{marks}
pub use Rattle.sf_certificate.specs.Named.{unnamed_mark}
pub use Rattle.sf_certificate.specs.Valid.{HasCost, least}
pub use Rattle.sf_certificate.specs.declared.mark.Mark.{Mark}
pub use Rattle.sf_count.specs.Few.{BranchesFirst}
pub use Rattle.sf_cursor.specs.Stretches.{IsStretch, waits}
pub use Rattle.sf_cursor.specs.declared.stretch.Stretch.{Stretch}
pub use Rattle.sf_frontier.proofs.Teams.{all_front, all_last}
pub use Rattle.sf_frontier.specs.Ends.{Deque, ThiefView}
pub use Rattle.sf_frontier.specs.Team.{IsFinished, IsNewPlace, IsNewThief, IsTeam, deques_of, preys_of, stolen_by, thief_deques_of, turned}
pub use Rattle.sf_frontier.specs.declared.place.Place.{Place}
pub use Rattle.sf_incumbent.specs.Seen.{Knows, Word}
pub use Rattle.sf_model.specs.Legal.{IsLegal, block_count, shapes_of}
pub use Rattle.sf_model.specs.declared.TheConstants.{MAX}
pub use Rattle.sf_model.specs.declared.design.Design.{Design}
pub use Rattle.sf_node.specs.Parts.{Parts}
pub use Rattle.sf_node.specs.Subproblem.{is_solved, root}
pub use Rattle.sf_node.specs.declared.part.Part.{Part}
pub use Rattle.sf_pieces.proofs.Names.{kept-lower, kept-open}
pub use Rattle.sf_pieces.proofs.Weights.{nodes-permute}
pub use Rattle.sf_pieces.specs.Naming.{AreKept}
pub use Rattle.sf_pieces.specs.Told.{AreTold, IsRead, mark_of, marks_in, open_mark}
pub use Rattle.sf_pieces.specs.declared.piece.Piece.{Piece}
pub use Rattle.sf_polish.specs.Writable.{IsWritable}
pub use Rattle.sf_polish.specs.declared.expr.Expr.{Expr}
pub use Rattle.sf_rounds.specs.Accounts.{AreFirst, Begins, IsNew}
pub use Rattle.sf_rounds.specs.Jobs.{Adds, CanPass, CanStart, Dealt, EachTwo, FirstsAre, Gathers, Handed, IsDone, IsFresh, IsLarger, IsLast, IsPooled, IsRefilled, IsSameBut, IsSeated, Passes, Ran, Worked, as_list, has_weight, log_of, open_of, place_of, with_more, with_put}
pub use Rattle.sf_rounds.specs.Legs.{AreLeftOpen, IsAbsorbed, IsGone, IsLeg, IsStep, newer, tags_in}
pub use Rattle.sf_rounds.specs.Parting.{AddsParts, AreParts, IsCut}
pub use Rattle.sf_rounds.specs.Rounds.{IsRound, all_waits}
pub use Rattle.sf_rounds.specs.declared.job.Job.{Job}
pub use Rattle.sf_rounds.specs.declared.job.Member.{Member}
pub use Rattle.sf_rounds.specs.declared.job.RoundOut.{RoundOut}
pub use Rattle.sf_search_core.specs.Conserved.{IsDecided, children}
pub use Rattle.sf_search_core.specs.declared.entry.Entry.{Entry}
pub use Rattle.sf_search_core.specs.declared.entry.Kind.{Kind}
pub use Rattle.sf_worker.proofs.Doing.{any-left, any-right}
pub use Rattle.sf_worker.specs.Tasks.{IsBest, IsEntry, IsPlan, Solves}
pub use Rattle.sf_worker.specs.Took.{IsDecidedFirst, IsReady, PassEnds, Passed, children_weigh, first_of, maybe_weighs, nodes_weigh, on_stretch, put_of, stretches_weigh, taken_of, thieves_weigh}
pub use Rattle.sf_worker.specs.declared.state.PassEnd.{PassEnd}
pub use Rattle.std.proofs.lemmas.Bool.{cases_lt}
pub use Rattle.std.proofs.lemmas.Bool.Decides.{eqb_tells, nat_tests}
pub use Rattle.std.proofs.lemmas.List.{drop_all, flat_map_more, get_or_default, length-map, map-append, nil_from_length, reverse-append, reverse-reverse, take_all, take_more}
pub use Rattle.std.proofs.lemmas.List.Concat.{flat_map-append}
pub use Rattle.std.proofs.lemmas.List.Elements.{All-append, All-cons, All-contains, All-drop, All-head, All-nil, All-push, All-tail, All-weaker, recursion_from_All}
pub use Rattle.std.proofs.lemmas.List.Sorted.{All-permutation, IsPermutation-append, IsPermutation-append_comm, IsPermutation-append_left, IsPermutation-append_right, IsPermutation-refl, IsPermutation-reverse, IsPermutation-sym, IsPermutation-trans, length_permutation, sum_by-IsPermutation}
pub use Rattle.std.proofs.lemmas.List.Sums.{sum_by-append, sum_by-cons, sum_by-drop_more, sum_by-set, sum_by_push}
pub use Rattle.std.proofs.lemmas.Result.{IfOk-at_ok, IfOk-weaker}
pub use Rattle.std.specs.List.{AllByRecursion, flat_map}
pub use Rattle.std.specs.Prelude.{Any, Contains, IfOk, IfSome, IsOk, IsPermutation, IsTrue, MatchOption, None, Option, Some, count_by, reverse, slice_get, slice_index, slice_index_or, sum, sum_by}

-- The imports that the proof files of this crate share.
pub use Rattle.sf_certificate.specs.Marks.{made, marks, tag_of, waiting_after}
pub use Rattle.sf_certificate.specs.Named.{unnamed, unnamed_mark}
pub use Rattle.sf_certificate.specs.Valid.{least}
pub use Rattle.sf_certificate.specs.declared.mark.Mark.{Mark}
pub use Rattle.sf_certificate.specs.declared.tag.Tag.{Tag}
pub use Rattle.sf_cursor.specs.Path.{Path, beyond, waiting}
pub use Rattle.sf_cursor.specs.Stretches.{IsStretch, waits}
pub use Rattle.sf_cursor.specs.declared.stretch.Stretch.{Stretch}
pub use Rattle.sf_frontier.specs.Ends.{OwnerView, ThiefView, one_more, with_put}
pub use Rattle.sf_frontier.specs.Team.{thief_deques_of}
pub use Rattle.sf_incumbent.specs.Seen.{Knows}
pub use Rattle.sf_model.specs.declared.design.Design.{Design}
pub use Rattle.sf_node.specs.Children.{IsSubproblem, walk}
pub use Rattle.sf_node.specs.Later.{behind, pending}
pub use Rattle.sf_node.specs.Parts.{Parts}
pub use Rattle.sf_node.specs.Subproblem.{is_complete, is_solved, is_wide, root}
pub use Rattle.sf_node.specs.declared.part.Part.{Part}
pub use Rattle.sf_pieces.proofs.Names.{kept-lower, kept-more, named-alike}
pub use Rattle.sf_pieces.specs.Naming.{AreKept, kept_for}
pub use Rattle.sf_pieces.specs.Told.{mark_of, marks_in, open_mark}
pub use Rattle.sf_worker.specs.Decided.{IsVisit, cost_at, kind_of, tag_after, tag_at}
pub use Rattle.sf_worker.specs.InHand.{HandView, IsFollowed, IsHand, IsLeftOpen, IsParted, IsStart, IsVisited, left_of, marks_of, whole_of}
pub use Rattle.sf_worker.specs.Takes.{IsFirst, IsFound, IsStolen, PutsAll, SamePuts}
pub use Rattle.sf_worker.specs.Tasks.{IsBest, IsEntry, Solves}
pub use Rattle.sf_worker.specs.Took.{Did, IsDecidedFirst, IsOver, IsPutDown, IsReady, IsShared, IsWalkedInto, IsWalkedOver, Logs, NeverFell, PassEnds, Passed, Rose, Serves, ThievesNeverFell, ThievesRose, Walking, first_of, maybe_weighs, on_stretch, put_of, rest_at, rest_waits, stretches_weigh, taken_of, thieves_weigh}
pub use Rattle.sf_worker.specs.declared.state.WorkerState.{WorkerState}
pub use Rattle.std.proofs.lemmas.Bool.{cases_Bool, cases_lt, cond-false, cond-true}
pub use Rattle.std.proofs.lemmas.List.{length-map, map-append}
pub use Rattle.std.proofs.lemmas.List.Elements.{All-append, All-cons, All-nil, All-weaker}
pub use Rattle.std.proofs.lemmas.List.Sums.{sum_by-append, sum_by-cons, sum_by-set}

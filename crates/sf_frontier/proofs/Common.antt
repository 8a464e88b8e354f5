-- The imports that the proof files of this crate share.
pub use Rattle.sf_cursor.specs.declared.stretch.Stretch.{Stretch}
pub use Rattle.sf_frontier.specs.Ends.{Deque, IsDrained, OwnerView, ThiefView, with_stolen}
pub use Rattle.sf_frontier.specs.Fair.{Balanced, IdleIsEmpty, IsAllTaken, IsOrdered, Put, SameTasks, Stolen, Taken, back_alone, both_ends, ends, front_alone, no_end, view, weight_put, weight_taken}
pub use Rattle.sf_frontier.specs.Team.{AreSettled, HasSlots, IsFinished, IsNewOwner, IsNewPlace, IsNewThief, IsTeam, deques_of, owners_of, preys_of, stolen_by, thief_deques_of, turned}
pub use Rattle.sf_frontier.specs.declared.place.Place.{Place}
pub use Rattle.std.proofs.lemmas.List.Elements.{All-append, All-cons, All-drop, All-head, All-nil, All-push, All-take}
pub use Rattle.std.proofs.lemmas.List.Sums.{sum_by-append, sum_by-cons, sum_by_push}

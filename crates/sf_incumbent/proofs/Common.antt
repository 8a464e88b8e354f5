-- The imports that the proof files of this crate share.
pub use Rattle.sf_incumbent.specs.Rule.{IsIncumbent, IsLive, IsWord, Looks, Offers, empty_seat, joined_seat, most, new_seat, place, split_seat, view}
pub use Rattle.sf_incumbent.specs.Seen.{Knows, Word}

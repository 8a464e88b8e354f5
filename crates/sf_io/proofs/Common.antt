-- The imports that the proof files of this crate share.
pub use Rattle.sf_io.specs.Outside.{Held, Took}
pub use Rattle.std.proofs.lemmas.List.{take-append-drop}
pub use Rattle.std.specs.Io.KnownBytes.{Appends}

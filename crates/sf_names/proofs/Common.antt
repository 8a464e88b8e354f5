-- The imports that the proof files of this crate share.
pub use Rattle.sf_names.specs.Names.{bytes_of, index_of, noted}
pub use Rattle.sf_names.specs.Values.{entries_of, value_in}
pub use Rattle.std.specs.Str.{bytes_eq}

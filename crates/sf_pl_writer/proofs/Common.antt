-- The imports that the proof files of this crate share.
pub use Rattle.sf_pl_writer.specs.PlText.{block_line, is_pad, pad_line, pad_lines_of, place_text, size_text, stands_in}
pub use Rattle.std.proofs.lemmas.Int.{to_z-of_z}
pub use Rattle.std.proofs.lemmas.List.{append-nil, flat_map_more, get_or_default, take_all, take_more}
pub use Rattle.std.specs.List.{flat_map, list_any, range_with_len, zip}
pub use mir.Syntax.{w32, w64}
pub use mir.Val.{SFits, of_z, to_z}

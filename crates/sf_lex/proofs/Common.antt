-- The imports that the proof files of this crate share.
pub use Rattle.sf_lex.specs.Corners.{corner, corners_of, corners_read, grow, grown, size_of_corners}
pub use Rattle.sf_lex.specs.Gap.{is_gap}
pub use Rattle.sf_lex.specs.Number.{Decimal, decimal_of, is_digit, is_point, number_of, scaled, unit}
unfoldable pub use Rattle.sf_lex.specs.Number.{decimal_read}
pub use Rattle.sf_lex.specs.Scan.{Line, LineWord, last_line_of, last_word_line, numbered, numbered_words, words_of_line, words_of_lines}
pub use Rattle.sf_lex.specs.Text.{has_none, is_blank_byte, is_line_feed, is_not_empty, line_at, lines, words}
pub use Rattle.sf_lex.specs.Vertices.{box_of, vertex_of}
unfoldable pub use Rattle.sf_lex.specs.Vertices.{vertices_of}
pub use Rattle.sf_lex.specs.declared.vertices.Corners.{Corners}
pub use Rattle.sf_lex.specs.declared.vertices.VertexFault.{VertexFault}
pub use Rattle.std.proofs.Math.Nat.{mul-add-div_right, mul-add-mod_self_right, mul-le-mul_left, mul-le-mul_right, one-le-pow, pow-le-pow_right, pow-suc}
pub use Rattle.std.proofs.Math.Numerals.{one-add}
pub use Rattle.std.proofs.lemmas.Bool.{and_parts, cases_lt, not-true, true≢false}
pub use Rattle.std.proofs.lemmas.Bool.Decides.{nat_tests}
pub use Rattle.std.proofs.lemmas.List.{append-nil, drop-drop, drop_all, length-drop, length-take, take-append-drop, take_all}
pub use Rattle.std.proofs.lemmas.List.Sums.{AllPass-from_list_all, count_by-le-length, fold-append, length-filter, list_all-from_AllPass, prefix_len-le-length, sum_by-append, sum_by-cons}
pub use Rattle.std.specs.List.{after_first, before_first, count_by, list_all, onto_first, position_or_len, prefix_len, slice_split}
pub use Rattle.std.specs.Prelude.{filter, fold, map, min, nat_le, nat_lt, not}

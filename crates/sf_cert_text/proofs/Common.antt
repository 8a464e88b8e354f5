-- The imports that the proof files of this crate share.
pub use Rattle.sf_cert_text.specs.Bytes.{Bytewise, IsHeader, IsOther, IsPart, IsTree, begun_word, bytes_on, ended_from, first_byte, open_from, past_blank, said_with, words_on}
pub use Rattle.sf_cert_text.specs.Paths.{FitsAxis, FitsPath, FitsPaths, FitsStep, axis_lines, has_no_paths, is_none, number_of, path_lines, path_text, step_text}
pub use Rattle.sf_cert_text.specs.Reader.{Reader, read_on, with_some, with_tags}
pub use Rattle.sf_cert_text.specs.Reading.{Header, agreeing, axis_read, both_read, by_letter, closed_by, cost_in, cost_of_word, count_in, exactly, letter_of, line_by, line_read, number_in, only_word, part_of, path_by, path_in, path_said, pin_before, plan_in, plan_of_rest, plan_or, plan_read, second_by, split_by, step_by, step_in, steps_said, tag_at, tag_by, tree_read, value_after, value_in, version_in, version_of, version_of_word, with_step, with_tag, word_in}
unfoldable pub use Rattle.sf_cert_text.specs.Reading.{cert_read, header_read, paths_read, tags_said, tree_from}
pub use Rattle.sf_cert_text.specs.Text.{FitsTag, cert_text, header_lines, labelled, paths_if_any, plan_lines, plan_text, tag_text, tags_text, text_of_lines, version_text}
pub use Rattle.sf_cert_text.specs.declared.fault.CertFault.{CertFault}
pub use Rattle.sf_cert_text.specs.declared.fault.CertFault.TheVariants.{BadHeader, BadTag, NoMemory, TooDeep, Trailing, Truncated}
pub use Rattle.sf_cert_text.specs.declared.letter.HalfTag.{HalfTag}
pub use Rattle.sf_cert_text.specs.declared.letter.Letter.{Letter}
pub use Rattle.sf_cert_text.specs.declared.letter.Letter.TheVariants.{First, Whole}
pub use Rattle.sf_cert_text.specs.declared.letter.Second.{Second}
pub use Rattle.sf_cert_text.specs.declared.letter.TagSaid.{TagSaid}
pub use Rattle.sf_cert_text.specs.declared.version.Version.{Version}
pub use Rattle.sf_cert_text.specs.declared.version.Version.TheVariants.{One, Three, Two}
pub use Rattle.sf_certificate.specs.Form.{no_plan}
pub use Rattle.sf_certificate.specs.Places.{first_place, places_under, spell_tree, spell_trees}
pub use Rattle.sf_certificate.specs.Said.{Said, said_by}
pub use Rattle.sf_certificate.specs.declared.cert.Cert.{Cert}
pub use Rattle.sf_certificate.specs.declared.place.Place.{Place}
pub use Rattle.sf_certificate.specs.declared.tag.Tag.{Tag}
pub use Rattle.sf_certificate.specs.declared.tag.Tag.TheVariants.{Closed, Extend, Open, Split}
pub use Rattle.sf_lex.proofs.Spelled.{first_fails, lines-written, words-blank, words-last, words-written}
pub use Rattle.sf_lex.proofs.WordLines.{IsEnded, IsRun, ended_of, run_of, words_from, words_from-gap, words_from-run}
pub use Rattle.sf_lex.proofs.WrittenNumbers.{digits_written, plain_written, whole_written}
pub use Rattle.sf_lex.specs.Number.{is_digit}
pub use Rattle.sf_lex.specs.Scan.{Line, LineWord, last_line_of, last_word_line, numbered, numbered_rest, numbered_words, words_of_line, words_of_lines}
pub use Rattle.sf_lex.specs.Text.{Cursor, has_none, is_blank_byte, is_line_feed, is_not_empty, line_at, lines, words}
pub use Rattle.sf_lex.specs.Whole.{plain_read}
unfoldable pub use Rattle.sf_lex.specs.Whole.{whole_read}
pub use Rattle.sf_model.specs.CostText.{cost_text}
pub use Rattle.sf_model.specs.Paths.{all_lead, leads, names_pad, reach_pad}
pub use Rattle.sf_model.specs.declared.parts.Pin.TheVariants.{Block, Pad}
pub use Rattle.sf_model.specs.declared.paths.Path.{Path}
pub use Rattle.sf_model.specs.declared.paths.Paths.{Paths}
pub use Rattle.sf_model.specs.declared.paths.Step.{Step}
pub use Rattle.sf_node.specs.declared.part.Part.{Part}
pub use Rattle.sf_node.specs.declared.part.Part.TheVariants.{Area, Full, Hull, Pair, Range}
pub use Rattle.sf_expr_text.proofs.WordTexts.{all-weaker, below}
pub use Rattle.sf_polish.specs.Writable.{IsWritable}
pub use Rattle.sf_expr_text.specs.Text.{expr_text, shaped_text}
pub use Rattle.sf_polish.specs.declared.expr.Expr.{Expr}
pub use Rattle.sf_polish.specs.declared.expr.Token.{Token}
pub use Rattle.std.proofs.lemmas.Bool.{and_from, and_parts, cases_lt, eq-eqb, eqb-true}
pub use Rattle.std.proofs.lemmas.Bool.Decides.{nat_tests}
pub use Rattle.std.proofs.lemmas.Fmt.{decimal_digit, decimal_nonempty}
pub use Rattle.std.proofs.lemmas.Grind.{common_steps, flat_map-append}
pub use Rattle.std.proofs.lemmas.List.{drop_all, length-drop, length-set, map-append, nil_from_length, reverse-append, take-append-drop, take_all, take_more, take_more_set}
pub use Rattle.std.proofs.lemmas.List.Elements.{All-more, recursion_from_All}
pub use Rattle.std.proofs.lemmas.List.Sums.{sum_by-cons}
pub use Rattle.std.proofs.lemmas.Result.{err_from_is_err_and}
pub use Rattle.std.specs.Fmt.{decimal}
pub use Rattle.std.specs.List.{AllByRecursion, count_by, flat_map, join_with_byte, list_all, onto_first, position_or_len, slice_get, slice_split}
pub use Rattle.std.specs.Prelude.{IfErr, IfOk, None, [], codes, filter, nat_lt, replicate}

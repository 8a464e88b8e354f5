-- The imports that the proof files of this crate share.
pub use Rattle.sf_expr_text.specs.Reading.{Fails, expr_of_parts, expr_read, is_named, operator_after, shapes_with, token_after, tokens_read, whole_tokens, ◌>>=◌}
unfoldable pub use Rattle.sf_expr_text.specs.Reading.{shapes_from, tokens_from}
pub use Rattle.sf_expr_text.specs.Refused.{GoesWrong, IsEndFault, IsFaultAt, IsFront, IsWordFault, WritesShaped, WritesToken}
pub use Rattle.sf_expr_text.specs.Text.{SpellsExpr, SpellsTokens, expr_text, expr_words, shape_text, shaped_text, spelled_words, token_text}
pub use Rattle.sf_expr_text.specs.Word.{block_in, block_of_parts, is_byte, is_colon, is_times, shape_of_sides, shaped_token_in, side_in, token_of, when_is}
unfoldable pub use Rattle.sf_expr_text.specs.Word.{piece_in, shape_in, token_in}
pub use Rattle.sf_expr_text.specs.declared.fault.ExprFault.{ExprFault}
pub use Rattle.sf_expr_text.specs.declared.fault.ExprFault.TheVariants.{BadToken, MissingBlock, NoMemory, NotBallot, NotNormal, RepeatedBlock}
pub use Rattle.sf_expr_text.specs.declared.word.Piece.{Piece}
pub use Rattle.sf_lex.proofs.WrittenNumbers.{digits_model, digits_written, plain_written}
pub use Rattle.sf_lex.specs.Number.{is_digit, number_of}
pub use Rattle.sf_lex.specs.Scan.{LineWord, last_line_of, line_words, numbered, numbered_words, words_of_line, words_of_lines}
pub use Rattle.sf_lex.specs.Text.{has_none, is_blank_byte, is_line_feed, is_not_empty, lines, words}
pub use Rattle.sf_model.proofs.Counting.{length-at_most_once, length-each_once}
pub use Rattle.sf_model.proofs.Each.{each-append, each-left, each-right}
pub use Rattle.sf_model.specs.Limits.{IsSide}
pub use Rattle.sf_model.specs.declared.parts.Shape.{Shape}
pub use Rattle.sf_polish.specs.Normal.{IsBallot, IsNormal, ends_in, is_block, is_operand, is_outside, last_or, operands, operators, same_operator}
pub use Rattle.sf_polish.specs.Postfix.{shape_at}
pub use Rattle.sf_polish.specs.Shaping.{no_shape}
pub use Rattle.sf_polish.specs.Writable.{IsWritable}
pub use Rattle.sf_polish.specs.declared.expr.Expr.{Expr}
pub use Rattle.sf_polish.specs.declared.expr.Token.{Token}
pub use Rattle.std.proofs.Math.Seq.{take-length}
pub use Rattle.std.proofs.lemmas.Bool.{and_parts, cases_lt, not-true}
pub use Rattle.std.proofs.lemmas.Bool.Decides.{eqb_tells, leb_tells, nat_tests}
pub use Rattle.std.proofs.lemmas.List.{ext_get_or, get_or-replicate, get_or-set_other, get_or-set_same, get_or_default, length-append, length-map, length-replicate, length-set, length-take, map-append, take_more}
pub use Rattle.std.proofs.lemmas.List.Elements.{All-from_recursion, recursion_from_All}
pub use Rattle.std.proofs.lemmas.List.Folds.{list_all-append, list_all-map, list_any-append}
pub use Rattle.std.proofs.lemmas.List.Sums.{sum_by-append, sum_by-cons}
pub use Rattle.std.proofs.lemmas.Result.{IfErr-weaker, IfOk-weaker, err_from_is_err_and}
pub use Rattle.std.specs.Fmt.{decimal}
pub use Rattle.std.specs.List.{AllByRecursion, AllZip, after_first, before_first, join_with_byte, list_all, position_or_len, range_with_len}
pub use Rattle.std.specs.Option.{option_map}
pub use Rattle.std.specs.Prelude.{Err, Ok, count_by, map, nat_le, nat_lt, replicate, slice_set}

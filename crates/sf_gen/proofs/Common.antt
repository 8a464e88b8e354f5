-- The imports that the proof files of this crate share.
pub use Rattle.rand_pcg.specs.Pcg.{multiplier_64, pcg32}
pub use Rattle.sf_gen.specs.Designs.{blocks_out, named_parts, nets_out, pad_list, parts_of, place_at, places_out, raw_block, raw_blocks, raw_nets, raw_pads}
pub use Rattle.sf_gen.specs.Drawn.{ends, ends_at, net_count, size_at, sizes}
pub use Rattle.sf_gen.specs.Texts.{block_line, block_lines, block_name, blocks_head, hard_count, hard_line, indexed, is_soft, net_lines, nets_head, nets_pins, pad_name, pad_pins, pin_lines, pins_of, soft_count, soft_line, square}
unfoldable pub use Rattle.sf_gen.specs.Texts.{blocks_text, nets_text, pl_text}
unfoldable pub use Rattle.sf_gen.specs.Words.{after, start, word}
pub use Rattle.sf_gen.specs.declared.design.Kinds.{Kinds}
pub use Rattle.sf_gen.specs.declared.drawn.Ends.{Ends}
pub use Rattle.sf_gen.specs.declared.drawn.Size.{Size}
pub use Rattle.sf_gsrc.specs.Blocks.{CountIs, Entry, ItemIs, Said, block_at, content, content_of, is_content_word, is_soft_kind, pad_at}
unfoldable pub use Rattle.sf_gsrc.specs.Blocks.{is_title}
pub use Rattle.sf_gsrc.specs.Keywords.{is_colon, net_word_by}
unfoldable pub use Rattle.sf_gsrc.specs.Keywords.{counted_of, form_of, net_word_of}
pub use Rattle.sf_gsrc.specs.Line.{BlockIs, Item, PadIs, coordinate_in_word, counted_by, form_said}
unfoldable pub use Rattle.sf_gsrc.specs.Line.{count_said, hard_said, plain_said, soft_said}
pub use Rattle.sf_lex.proofs.Spelled.{first_fails, words-last, words-written}
pub use Rattle.sf_lex.specs.Gap.{after_word, first_word, is_gap, without_gap}
pub use Rattle.sf_lex.specs.Number.{decimal_of, is_digit, is_point, number_of, scaled, with_value}
unfoldable pub use Rattle.sf_lex.specs.Number.{area_read, decimal_read, signed_read}
pub use Rattle.sf_lex.specs.Scan.{Line, numbered}
pub use Rattle.sf_lex.specs.Text.{has_none, is_line_feed, is_not_empty, lines, words}
pub use Rattle.sf_lex.specs.declared.field.Gap.{Gap}
pub use Rattle.sf_lex.specs.declared.field.Gap.TheVariants.{Blanks, Colons, Points, Sizes}
pub use Rattle.sf_model.proofs.Each.{each-any, each-append, each-map}
pub use Rattle.sf_parts.specs.declared.fault.BuildFault.{BuildFault}
pub use Rattle.sf_parts.specs.declared.raw.RawBlock.{RawBlock}
pub use Rattle.std.proofs.Math.Nat.{mul-le-mul, mul-le-mul_right}
pub use Rattle.std.proofs.lemmas.Bool.{and_parts, cases_eq, cases_lt, false_from_ne_true, le-ltb, lt-ltb}
pub use Rattle.std.proofs.lemmas.Bool.Decides.{nat_tests}
pub use Rattle.std.proofs.lemmas.Fmt.{decimal_digit, decimal_injective, decimal_nonempty}
pub use Rattle.std.proofs.lemmas.List.{append-nil, drop_all, flat_map_more, length-map, length-take, take_all, take_more}
pub use Rattle.std.proofs.lemmas.List.Elements.{All-head, All-tail, filter_map-append}
pub use Rattle.std.proofs.lemmas.List.FromFn.{length-map-range_with_len, length-range_with_len, map-range_with_len_more}
pub use Rattle.std.proofs.lemmas.List.Sums.{length-filter, sum_by-cons}
pub use Rattle.std.specs.Fmt.{decimal}
pub use Rattle.std.specs.Int.{div_ceil}
pub use Rattle.std.specs.List.{AllByRecursion, AllZip, after_first, before_first, cons_option, filter_map, flat_map, list_all, list_any, position_or_len, prefix_len, range_with_len}
pub use Rattle.std.specs.Prelude.{None, Ok, Option, Some, codes, count_by, map, max, min, nat_le, nat_lt, not, pos, sum_by, unsigned_abs, zip}

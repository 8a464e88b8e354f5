-- The imports that the proof files of this crate share.
pub use Rattle.sf_lex.specs.Text.{is_blank_byte, words}
pub use Rattle.sf_lex.specs.declared.vertices.BoxSize.{BoxSize}
pub use Rattle.sf_parts.specs.declared.raw.Parts.{Parts}
pub use Rattle.sf_parts.specs.declared.raw.RawBlock.{RawBlock}
pub use Rattle.sf_parts.specs.declared.raw.RawNet.{RawNet}
pub use Rattle.sf_parts.specs.declared.raw.RawPad.{RawPad}
pub use Rattle.sf_parts.specs.declared.raw.RawPin.{RawPin}
pub use Rattle.sf_names.proofs.Indexes.{index_bound, none_under, push_other, some_not_none}
pub use Rattle.sf_names.specs.Names.{Once, bytes_of, has_name, index_of}
pub use Rattle.sf_yal.specs.Box.{is_no_outline, length_read, number_in, vertex_fault, ◌>>=◌}
unfoldable pub use Rattle.sf_yal.specs.Box.{dimensions_said}
pub use Rattle.sf_yal.specs.Comments.{ends_inside, has_mark, hide, is_mark_of, shown}
pub use Rattle.sf_yal.specs.Faults.{FirstInstanceFault, InstanceFault, IsBlockOf, PlaceFault, SizeFault, body_fault, box_at, box_fault, box_if, fault_at, fault_in, instance_fault, list_fault, name_fault, outside_fault, point_fault, terminal_fault, type_fault}
pub use Rattle.sf_yal.specs.Instances.{Instance, instance_in, instances_in}
pub use Rattle.sf_yal.specs.Losses.{begun, counted}
unfoldable pub use Rattle.sf_yal.specs.Losses.{counted_all}
pub use Rattle.sf_yal.specs.Modules.{AreCut, Cut, InList, InModule, IsItem, IsModule, IsRest, IsSection, Item, ListKind, Listed, Listing, Module, Network, Nothing, Rest, Section, Single, Stray, Terminals, Whole, Worded, box_behind, box_in, box_of, closed, closes, if_parent, in_module, in_rest, in_section, instance_at, instances_of, is_list, is_parent, is_parent_type, is_type, is_type_key, item_text, key, listing_text, module_text, modules, modules_in, name_of, open_module, opener, opens_module, pad_at, pads_of, parent_place, point_of, rest_text, section_box, section_text, stands_alone, word_of, worded, worded_in}
pub use Rattle.sf_yal.specs.Nets.{block_pins, net_of, nets_of, pad_pins, signals_of, with_signal, with_signals}
pub use Rattle.sf_yal.specs.Parts.{block_by, boxed, parts_by, parts_with, size_at, size_or_none}
unfoldable pub use Rattle.sf_yal.specs.Parts.{block_of, blocks_from, parts_read, yal_read}
pub use Rattle.sf_yal.specs.Reading.{Fails, Gives, Reading, after_statement, after_words, in_body_said, in_network_said, in_terminals_said, list_closed, list_opened, module_begun, module_closed, module_opened, outside_said, pad_taken, parent_taken, reading_in, said_in, size_taken, start, type_taken}
unfoldable pub use Rattle.sf_yal.specs.Reading.{after_statements, box_said, instance_said, module_said, placed_said, terminal_said, type_said}
pub use Rattle.sf_yal.specs.Standing.{AreSound, EndFault, FirstFault, HasFault, IsCut, IsEnded, PartsFault, StandsFor}
pub use Rattle.sf_yal.specs.Statements.{Statement, feeds, is_ended, is_semicolon, last_line, last_piece, pieces, statement_at, statements, statements_of}
pub use Rattle.sf_yal.specs.Using.{Uses, ends_with, is_block, is_some_block, nothing_used, signals_in, used_all, used_at, used_by, used_in, used_once, with_pad, with_pad_of, with_pads, with_pin, with_pin_at}
pub use Rattle.sf_yal.specs.declared.fault.YalFault.{YalFault}
pub use Rattle.sf_yal.specs.declared.keyword.Keyword.{Keyword}
pub use Rattle.sf_yal.specs.declared.losses.Counting.{Counting}
pub use Rattle.std.proofs.lemmas.Bool.{cases_Bool, eq-eqb, eqb-false, eqb-true, false_from_ne_true, ne_eqb, or_left, or_parts, or_right, true≢false}
pub use Rattle.std.proofs.lemmas.Bool.Decides.{nat_tests}
pub use Rattle.std.proofs.lemmas.Grind.{common_steps, flat_map-append}
pub use Rattle.std.proofs.lemmas.List.{append-nil, drop_all, length-map, map-append, set-get_or}
pub use Rattle.std.proofs.lemmas.List.Elements.{All-append, All-cons, All-head, All-nil, All-push, All-tail}
pub use Rattle.std.proofs.lemmas.List.Sums.{fold-append}
pub use Rattle.std.proofs.lemmas.Option.{slice_get-map, slice_get_read}
pub use Rattle.std.proofs.lemmas.Result.{err_from_is_err_and}
pub use Rattle.std.specs.List.{AllZip, list_any, onto_first, position_or_len, slice_split}
pub use Rattle.std.specs.Option.{option_map, option_or}
pub use Rattle.std.specs.Prelude.{All, IfErr, IfOk, IfSome, Option, Some, flat_map, fold, is_some, map, not, slice_get, slice_set, true}

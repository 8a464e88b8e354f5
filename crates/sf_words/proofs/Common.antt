-- The imports that the proof files of this crate share.
unfoldable pub use Rattle.clap.proofs.OnLiterals.{clap_on_literals}
pub use Rattle.clap.specs.Simple.{argument_words, built, entered, filled, names_of, rows_at}
pub use Rattle.clap.specs.Takes.{built_takes, default_passes, entered_passes, is_valid, level_passes, settle_passes, turn_passes}
unfoldable pub use Rattle.clap.specs.Takes.{walk_passes}
pub use Rattle.clap.specs.Walk.{Held, Names, Walk, arg_by_id, arg_by_long, at_row, finished, has_long, has_row, idle, more_values, nothing_held, option, reacted, rows_after, settled, stop_after, walk, walk_from, with_default, with_values, without}
unfoldable pub use Rattle.clap.specs.Walk.{walked}
pub use Rattle.clap.specs.Words.{App, Row, Rule, Shape, app_of, first_of, found_of, is_simple, new_app, rows_of, subcommand_of, takes, with_rule, with_subcommand}
pub use Rattle.clap.specs.declared.builder.command.Command.TheViews.{out-Command}
pub use Rattle.clap.specs.declared.builder.value_parser.Reading.TheVariants.{AsWritten}
pub use Rattle.clap.specs.declared.parser.matches.ValueSource.TheVariants.{CommandLine, DefaultValue}
pub use Rattle.sf_options.specs.Options.{CheckOptions, Command, DesignOptions, GenOptions, Input, MeasureOptions, PlanOptions, ResumeOptions, ShapeOptions, StartOptions, Text, WeightOptions, check, gen, gsrc, measure, plan, resume, shape, yal}
pub use Rattle.sf_options.specs.Seen.{command_seen}
pub use Rattle.sf_words.specs.App.{bare, flag_rule, rule_of_key, subcommand_for, value_rule, with_keys, with_modes}
unfoldable pub use Rattle.sf_words.specs.App.{floorplan}
pub use Rattle.sf_words.specs.Kept.{flag_text, full, row, row_of, rows_for, text_in_row, texts_in}
unfoldable pub use Rattle.sf_words.specs.Kept.{texts_of}
pub use Rattle.sf_words.specs.Meaning.{BoundsSay, CheckSays, DesignSays, GenSays, HasNoMeaning, InputSays, KindsSay, Means, MeasureSays, PlanSays, ResumeSays, Says, ShapeSays, StartsSay, Values, WeightsSay, bounds_text, mode_of, value_in}
pub use Rattle.sf_words.specs.Numbers.{IsAllowed, IsWithin, SaysIfGiven, SaysNodes, SaysNumber, nodes_range}
unfoldable pub use Rattle.sf_words.specs.Numbers.{default_of, range}
pub use Rattle.sf_words.specs.Seen.{token_of}
unfoldable pub use Rattle.sf_words.specs.Table.{is_flag, key_text, keys_of, mode_text, modes}
pub use Rattle.sf_words.specs.Words.{AreOptions, HasForm, IsNew, IsShaped, IsValue, Token, alone, attached, before, key_of, key_word, spaced, value_of, words_of}
pub use Rattle.sf_words.specs.declared.options.Key.{Key}
pub use Rattle.sf_words.specs.declared.options.Key.TheVariants.{AreaWeight, Begin, Blocks, Bounds, Cert, CertOut, Count, Expr, Fixed, Format, Improve, Kinds, Long, Moves, NetWeights, Nets, Nodes, Out, Outline, PerUnit, Pl, PlOut, Placed, Rewrite, Seed, Shapes, StartSeed, Starts, WireWeight, Workers, Yal}
pub use Rattle.sf_words.specs.declared.options.Mode.{Mode}
pub use Rattle.sf_words.specs.declared.options.Mode.TheVariants.{Plan}
pub use Rattle.std.proofs.Math.Bool.{or-false}
pub use Rattle.std.proofs.lemmas.Bool.{and_from, cases_Bool, cond_both, false_from_ne_true, or_parts}
pub use Rattle.std.proofs.lemmas.List.{append-nil, map-append, map_more, nil_from_length, take_all, take_more}
pub use Rattle.std.proofs.lemmas.Result.{IfErr-weaker, IfOk-weaker}
pub use Rattle.std.proofs.lemmas.Str.Pattern.{split_after, strip_prefix_char}
pub use Rattle.std.specs.List.{list_all}
pub use Rattle.std.specs.Str.{bytes_eq}

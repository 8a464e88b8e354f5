-- The imports that the proof files of this crate share.
pub use Rattle.sf_gsrc.specs.Blocks.{content, content_of, is_content}
pub use Rattle.sf_jobs.specs.Job.{Asks, IsBudget, IsPlain, IsWire, Job, SaysJob, given, with_cert, with_option, words_of_job}
pub use Rattle.sf_jobs.specs.Plan.{AreValues, options_of}
pub use Rattle.sf_jobs.specs.Seen.{job_of, told_seen}
pub use Rattle.sf_jobs.specs.Told.{Told, batch_text, job_line, texts_from}
pub use Rattle.sf_lex.specs.Scan.{Line, numbered, numbered_rest}
pub use Rattle.sf_options.specs.Options.{Command, PlanOptions, plan, Text}
pub use Rattle.sf_words.specs.Meaning.{HasNoMeaning, Means, PlanSays, Values, mode_of, value_in}
pub use Rattle.sf_words.specs.Numbers.{IsWithin, SaysNodes}
unfoldable pub use Rattle.sf_words.specs.Numbers.{default_of, nodes_range, range}
pub use Rattle.sf_options.specs.Seen.{plan_seen}
unfoldable pub use Rattle.sf_words.specs.Table.{is_flag, key_text, keys_of, mode_text, modes}
pub use Rattle.sf_words.specs.Words.{AreOptions, HasForm, IsNew, IsShaped, IsValue, Token, alone, attached, before, key_of, key_word, spaced, value_of, words_of}
pub use Rattle.sf_words.specs.declared.options.Key.{Key}
pub use Rattle.sf_words.specs.declared.options.Key.TheVariants.{Blocks, Cert, Format, Nets, Nodes, Pl, WireWeight}
pub use Rattle.sf_words.specs.declared.options.Mode.TheVariants.{Plan}
pub use Rattle.std.proofs.lemmas.Bool.{cases_Bool}
pub use Rattle.std.proofs.lemmas.List.{length-map, length-take-le, map-append, take_all, take_more}
pub use Rattle.std.proofs.lemmas.Slice.Eq.{bytes_eq-Decides}
pub use Rattle.std.specs.Option.{ForSome}
pub use Rattle.std.specs.Str.{bytes_eq}

-- The imports that the proof files of this crate share.
pub use Rattle.sf_batch.specs.Alone.{LacksMemory, LineComesTo, told_of}
pub use Rattle.sf_batch.specs.Batch.{BatchAnswers, JobsRead, RoseBy, lost_jobs, lost_one}
pub use Rattle.sf_batch.specs.Built.{IsFound, SearchTells, StandsFor}
pub use Rattle.sf_batch.specs.Progress.{AreDone, FitsLine, IsUnderWay}
pub use Rattle.sf_batch.specs.declared.job.BuiltJob.{BuiltJob}
pub use Rattle.sf_designs.specs.Loads.{IsCounted, Reads}
pub use Rattle.sf_designs.specs.Outcome.{Stops, lost, refused}
pub use Rattle.sf_designs.specs.declared.stop.Stop.{Stop}
pub use Rattle.sf_designs.specs.declared.stop.Stop.TheVariants.{NoMemory, ReadFault, Refused}
pub use Rattle.sf_io.specs.Outside.{Contents, Rose, ShelfSeen}
pub use Rattle.sf_io.specs.declared.status.Status.{Status}
pub use Rattle.sf_io.specs.declared.status.Status.TheVariants.{Usage, WriteFault}
pub use Rattle.sf_jobs.specs.Job.{IsPlain, SaysJob, with_cert, words_of_job}
pub use Rattle.sf_jobs.specs.Seen.{team_seen, told_seen}
pub use Rattle.sf_jobs.specs.Told.{Told, batch_status, batch_text, is_search_end}
pub use Rattle.sf_lex.specs.Scan.{Line}
pub use Rattle.sf_pl_writer.specs.declared.report.Outcome.{Outcome}
pub use Rattle.sf_program.specs.Answer.{IsAnswer, usage_line}
pub use Rattle.sf_program.specs.Planned.{IsAnswered, IsTold, PlanDesign, budget_of, outcome_status}
pub use Rattle.sf_options.specs.Options.{PlanOptions, plan, Text}
pub use Rattle.sf_options.specs.Seen.{plan_seen}
pub use Rattle.std.proofs.lemmas.List.{length-map, length-set, map-set}
pub use Rattle.std.proofs.lemmas.List.Elements.{All-append, All-pop}
pub use Rattle.std.proofs.lemmas.Slice.Zip.{AllZip-long}
pub use Rattle.std.specs.List.{AllZip}
pub use Rattle.std.specs.Option.{ForSome}

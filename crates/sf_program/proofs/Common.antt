-- The imports that the proof files of this crate share.
pub use Rattle.sf_anneal.specs.Starts.{IsNoDearer, begun_plan}
pub use Rattle.sf_anneal.specs.declared.beginning.Beginning.{Beginning}
pub use Rattle.sf_cert_text.specs.Reading.{cert_read}
pub use Rattle.sf_cert_text.specs.Text.{cert_text}
pub use Rattle.sf_cert_text.specs.declared.fault.CertFault.{CertFault}
pub use Rattle.sf_certificate.specs.Named.{AllNameFirst, AreAlikeButNames, unnamed}
pub use Rattle.sf_certificate.specs.Said.{said_by}
pub use Rattle.sf_certificate.specs.Valid.{AreTrees, HasCost, decided, least, left_open}
pub use Rattle.sf_certificate.specs.declared.cert.Cert.{Cert}
pub use Rattle.sf_checker.specs.Answers.{is_yes}
pub use Rattle.sf_checker.specs.Feeding.{IsFed}
pub use Rattle.sf_checker.specs.declared.answer.Why.{Why}
pub use Rattle.sf_cuts.specs.Cuts.{IsSlicing}
pub use Rattle.sf_cuts.specs.Packed.{HasShapeFor, IsPacked}
pub use Rattle.sf_curves.specs.Choices.{IsRootCurve}
pub use Rattle.sf_designs.proofs.Stages.{PlacedRead, WeighedRead, WiredRead, refused-stops, stops-map, uncounted}
pub use Rattle.sf_designs.specs.Loads.{Reads}
pub use Rattle.sf_designs.specs.Outcome.{Ends, IsRefusal, Refusal, Refuses, Stops, Then, lost, refused}
pub use Rattle.sf_designs.specs.Reading.{Admitted, BlocksRead, Built, DesignMade, DesignRead, GsrcRead, IfNamed, JoinedRead, Judged, ListsMade, NetsRead, PartsAdmitted, PartsRead, PlacesRead, Said, TextRead, TextWithin, Weighed, WeightsRead, With, YalRead, YalWeighed, outline_of, weights_of}
pub use Rattle.sf_designs.specs.Refusals.{build_refusal, design_fault, gsrc_refusal, join_refusal, line_of, weight_refusal, yal_refusal}
pub use Rattle.sf_designs.specs.Stores.{AfterStores, StoppedAt, Stored, stored_in}
pub use Rattle.sf_designs.specs.Weighed.{WeighedParts, admitted_in, alike}
pub use Rattle.sf_designs.specs.declared.stop.Stop.{Stop}
pub use Rattle.sf_designs.specs.declared.work.Work.{Work}
pub use Rattle.sf_gsrc.specs.declared.output.Place.{Place}
pub use Rattle.sf_io.specs.Outside.{Contents, HoldsMore, Rose, ShelfSeen, SinkSeen}
pub use Rattle.sf_io.specs.declared.status.Status.{Status}
pub use Rattle.sf_io.specs.declared.status.Status.TheVariants.{BadInput, Done, No, NoMemory, NoneFits, Open, OverLimit, ReadFault, Usage, WriteFault}
pub use Rattle.sf_known.proofs.Taken.{as-it-was, breaks-one, takes-one, takes-paths, takes-unbroken}
pub use Rattle.sf_known.specs.Initial.{IsSearchInput}
pub use Rattle.sf_known.specs.Packed.{IsPackedBeginning}
pub use Rattle.sf_known.specs.Routed.{Breaks, IsRouted, Takes}
pub use Rattle.sf_lex.specs.Results.{◌>>=◌}
pub use Rattle.sf_measuring.specs.Measured.{IsMeasured, MeasureRead, SpotsPlaced, SpotsRead, lines_named, sized_spot, spot_said, spots_said, verdict_status, verdict_text}
pub use Rattle.sf_measuring.specs.Shaped.{IsCurveText, IsLeast, IsShaped, ShapeRead, TokensRead, areas_alone, expr_refusal, least_line, point_line}
pub use Rattle.sf_model.specs.Cost.{IsFloor, cost}
pub use Rattle.sf_model.specs.Legal.{Fits, IsLegal, block_count}
pub use Rattle.sf_model.specs.Routed.{HasPaths}
pub use Rattle.sf_model.specs.Tree.{HasEachOnce, Tree, height, spots_of, tree_of, width}
pub use Rattle.sf_model.specs.Wire.{wire}
pub use Rattle.sf_model.specs.declared.design.Design.{Design}
pub use Rattle.sf_model.specs.declared.parts.Block.{Block}
pub use Rattle.sf_model.specs.declared.parts.Shape.{Shape}
pub use Rattle.sf_model.specs.declared.paths.Paths.{Paths}
pub use Rattle.sf_model.specs.declared.plan.Spot.{Spot}
pub use Rattle.sf_parts.specs.declared.raw.RawBlock.{RawBlock}
pub use Rattle.sf_node.specs.Full.{branches, full, full_below}
pub use Rattle.sf_node.specs.Subproblem.{is_complete, is_solved, is_wide, root}
pub use Rattle.sf_node.specs.declared.part.Part.{Part}
pub use Rattle.sf_pl_writer.specs.ReportText.{report_text}
pub use Rattle.sf_pl_writer.specs.declared.report.Outcome.{Outcome}
pub use Rattle.sf_pl_writer.specs.declared.report.Report.{Report}
pub use Rattle.sf_place.specs.Spots.{IsByNumber, by_number}
pub use Rattle.sf_place.specs.Verdict.{AreLegal, IsFirstWithout, IsVerdict}
pub use Rattle.sf_polish.proofs.Spelling.{spells-one}
pub use Rattle.sf_polish.specs.Writable.{IsWritable}
pub use Rattle.sf_expr_text.specs.Text.{SpellsTokens}
pub use Rattle.sf_polish.specs.declared.expr.Expr.{Expr}
pub use Rattle.sf_program.specs.Answer.{Answers, CommandAnswer, CommandRefuses, IsAnswer, IsDone, IsOwnAnswer, IsRefused, IsSilent, Obeys, RefusesWords, StoreOrPrintFailed}
pub use Rattle.sf_program.specs.Beginning.{BeginRead, Packs, PlacementRead, PlacementRefused, name_of, softness}
pub use Rattle.sf_program.specs.Checked.{CertRead, CheckRead, IsAnswerWithPaths, IsChecked, IsChosenAnswer, IsJudged, IsRenamed, IsRewritten, IsStoredAnew, IsTextAnswer, JudgedFile, JudgedText, answer_status, answer_text, cert_limit, cert_refusal}
pub use Rattle.sf_program.specs.Chosen.{chosen_part, chosen_value}
pub use Rattle.sf_program.specs.Generated.{GenRead, IsGenerated, cert_name}
pub use Rattle.sf_program.specs.Headline.{HasSearched, IsEnd, IsFinding, IsHeadline, IsHeadlineOn, IsPlanOf, first_line}
pub use Rattle.sf_program.specs.Knowing.{KnownRead, MadeKnown}
pub use Rattle.sf_program.specs.OneAnswer.{Answer, AskForOneWorker, AtMostOne, GivesOne, HasBlocksOf, HasOneWorker, IsAnswerTo, IsDoneBy, IsSaid, IsTold, refusal}
pub use Rattle.sf_program.specs.Planned.{AreMeasures, BegunDesign, BudgetTested, BudgetedDesign, CountTested, IsAnswered, IsEnding, IsPlanned, IsReported, IsSearched, IsSearchedBy, PlanDesign, PlanInput, PlanRead, budget_of, outcome_status, placement_stores}
pub use Rattle.sf_program.specs.Resumed.{CertLoaded, CertTaken, IsContinued, IsGoneOn, IsGood, IsGoodWithPaths, IsRejected, IsSearchedOn, IsTakenUp, ResumeRead, SumTested}
pub use Rattle.sf_resume.specs.Resumed.{full_open}
pub use Rattle.sf_search.specs.Turns.{turns}
pub use Rattle.sf_search_core.specs.Outcome.{opening}
pub use Rattle.sf_words.proofs.Unique.{meaning_unique}
pub use Rattle.sf_options.specs.Options.{CheckOptions, Command, DesignOptions, GenOptions, Input, MeasureOptions, PlanOptions, ResumeOptions, ShapeOptions, WeightOptions, check, gen, gsrc, measure, plan, resume, shape, yal}
pub use Rattle.sf_words.specs.Meaning.{Means}
pub use Rattle.sf_options.specs.Seen.{check_seen, gen_seen, plan_seen, resume_seen, text_of}
pub use Rattle.sf_options.specs.declared.command.BoundsChoice.{BoundsChoice}
pub use Rattle.sf_options.specs.declared.command.BoundsChoice.TheVariants.{Both, Fit, Pair, Standard, Strong}
pub use Rattle.std.proofs.lemmas.Bool.Decides.{nat_tests}
pub use Rattle.std.proofs.lemmas.List.{take-append-drop}
pub use Rattle.std.proofs.lemmas.Result.{IfOk-weaker, err_from_is_err_and}
pub use Rattle.std.specs.List.{flat_map, list_all, range_with_len}
pub use Rattle.std.specs.Prelude.{Bool, IfErr, IfOk, IsFalse, IsTrue, codes, nat_lt}

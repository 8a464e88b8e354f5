-- The imports that the proof files of this crate share.
pub use Rattle.crossbeam_channel.specs.Claims.{IsSeatAt, view}
pub use Rattle.crossbeam_channel.specs.Ends.{receives_on, sends_on}
pub use Rattle.crossbeam_channel.specs.Err.{send_message}
pub use Rattle.sf_team.specs.Answers.{AreAnswers, AreRight, ComesTo, IsAnswerTo, IsMessageOf, IsTable, RightAt}
pub use Rattle.sf_team.specs.Rule.{AreAmong, Fits, IsCaller, OneSends, hand}
pub use Rattle.sf_team.specs.declared.message.Done.{Done}
pub use Rattle.sf_team.specs.declared.message.Message.{Message}
pub use Rattle.sf_team.specs.declared.message.Message.TheVariants.{Stop, Work}
pub use Rattle.sf_team.specs.declared.rule.Hand.{Hand}
pub use Rattle.std.proofs.lemmas.Fn.{says_at}
pub use Rattle.std.proofs.lemmas.List.{length-map, map-append}
pub use Rattle.std.proofs.lemmas.List.Elements.{Contains-append_cases, Contains-append_left, Contains-append_right}
pub use Rattle.std.specs.Arc.{arc_value}

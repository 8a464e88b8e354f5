use Rattle.std.proofs.Common.{◌∙◌}
use Rattle.sf_program.proofs.Pieces.{told-text}
use Rattle.sf_program.proofs.checking.judge_text.Goals as goal

pub returns-clause-answer : goal.returns-clause-answer
returns-clause-answer c =
    told-text c.args.bounds c.args.design.now c.args.text.now c.in_ok-answer.answer c.in_ok-work.work c.in_ok-answer.ensures.answer c.in_ok-work.ensures.status (c.in_ok-work.ensures.stores ∙ c.no_stores.ensures) c.in_ok-work.ensures.text

use Rattle.std.proofs.Common.{Ok, ap}
use Rattle.sf_program.proofs.ByChoice.{text-answer}
use Rattle.sf_program.proofs.with_paths.answer_text.Goals as goal

pub returns-clause-answer : goal.returns-clause-answer
returns-clause-answer c =
    let e = c.in_ok-wrong.ensures in
    text-answer c.args.bounds c.args.routed.now c.take_paths.new.design c.args.text.now c.in_ok-paths.paths c.in_ok-found.found c.with_wrong_path.result c.in_ok-wrong.wrong c.in_ok-paths.ensures.paths (λ none. e.taken (ap Ok none)) e.wrong e.kept
    c.in_ok-found.ensures.answer c.with_wrong_path.ensures.wrong c.with_wrong_path.ensures.none

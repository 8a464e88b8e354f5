use Rattle.std.proofs.Common.{map, string_bytes}
use Rattle.sf_batch.proofs.Answering.{lost_counted, no_write}
use Rattle.sf_batch.proofs.batch.run_batch.Goals as goal

pub returns-in-Ok-clause-read_fault : goal.returns-in-Ok-clause-read_fault
returns-in-Ok-clause-read_fault g c =
    lost_counted (map string_bytes c.args.words.now) (g.S.Shelf.seen c.args.shelf.now) (g.S.Shelf.seen c.answer-answer.new.shelf) c.answer-answer.result.status c.answer-answer.result.text.items c.answer-answer.ensures.answer

pub returns-in-Ok-clause-write_fault : goal.returns-in-Ok-clause-write_fault
returns-in-Ok-clause-write_fault g c = λ e.
    absurd (no_write (map string_bytes c.args.words.now) (g.S.Shelf.seen c.args.shelf.now) (g.S.Shelf.seen c.answer-answer.new.shelf) c.answer-answer.result.status c.answer-answer.result.text.items c.answer-answer.ensures.answer e)

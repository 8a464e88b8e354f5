use Rattle.std.proofs.Common.{inl, map, string_bytes, sym, subst}
use Rattle.sf_program.proofs.Common.{Answers, stored_in}
use Rattle.sf_program.proofs.Complete.{run-ends}
use Rattle.sf_program.proofs.Headline.{done-of, generated-headline, planned-headline, resumed-headline, searched-answer}
use Rattle.sf_program.proofs.Statuses.{answer-status, halted-before, not-silent}
use Rattle.sf_program.proofs.program.run.Goals as goal

pub finish-requires : goal.finish-requires
finish-requires g c =
    answer-status (map string_bytes c.args.words.now) (g.S.Shelf.seen c.args.shelf.now).holds c.in-Ok.work.status (stored_in c.in-Ok.work.stores.items) c.in-Ok.work.text.items c.in-Ok.ensures.answer

pub returns-in-Ok-clause-answer : goal.returns-in-Ok-clause-answer
returns-in-Ok-clause-answer g c = λ answered.
    let words = map string_bytes c.args.words.now in
    let before = (g.S.Shelf.seen c.args.shelf.now).holds in
    let after = (g.S.Shelf.seen c.finish.new.shelf).holds in
    let taken = (g.K.Sink.seen c.args.out.now).taken in
    let taken_then = (g.K.Sink.seen c.finish.new.out).taken in
    done-of words before (g.S.Shelf.seen c.work.new.shelf).holds after taken taken_then c.in-Ok.work.status c.finish.result (stored_in c.in-Ok.work.stores.items) c.in-Ok.work.text.items
    c.work.ensures.read.unchanged c.in-Ok.ensures.answer (c.finish.ensures.done answered)

-- where a search ended, its answer is done
pub returns-in-Ok-clause-headline : goal.returns-in-Ok-clause-headline
returns-in-Ok-clause-headline g c = λ searched. planned-headline _ _ _ _ _ _ (returns-in-Ok-clause-answer g c (searched-answer c.finish.result searched)) searched

pub returns-in-Ok-clause-generated : goal.returns-in-Ok-clause-generated
returns-in-Ok-clause-generated g c = λ searched. generated-headline _ _ _ _ _ _ (returns-in-Ok-clause-answer g c (searched-answer c.finish.result searched)) searched

pub returns-in-Ok-clause-resumed : goal.returns-in-Ok-clause-resumed
returns-in-Ok-clause-resumed g c = λ searched. resumed-headline _ _ _ _ _ _ (returns-in-Ok-clause-answer g c (searched-answer c.finish.result searched)) searched

pub returns-in-Ok-clause-lost : goal.returns-in-Ok-clause-lost
returns-in-Ok-clause-lost g c = λ e. absurd (not-silent c.finish.result c.finish.ensures.only (inl e))

pub returns-in-Ok-clause-complete : goal.returns-in-Ok-clause-complete
returns-in-Ok-clause-complete g c =
    let words = map string_bytes c.args.words.now in
    let before = (g.S.Shelf.seen c.args.shelf.now).holds in
    let status = c.finish.result in
    let stored = stored_in c.in-Ok.work.stores.items in
    let printed = c.in-Ok.work.text.items in
    run-ends words before status
    (λ h. (stored, printed, subst (λ s. Answers words before s stored printed) (sym (c.finish.ensures.done h).0) c.in-Ok.ensures.answer))
    (λ e. absurd (not-silent status c.finish.ensures.only (inl e)))

pub returns-in-Ok-clause-halted : goal.returns-in-Ok-clause-halted
returns-in-Ok-clause-halted g c = λ e.
    let seen = g.S.Shelf.seen in
    let stored = stored_in c.in-Ok.work.stores.items in
    let printed = c.in-Ok.work.text.items in
    record {
      status = c.in-Ok.work.status;
      stored = stored;
      printed = printed;
      answer = c.in-Ok.ensures.answer;
      halted = halted-before stored printed (seen c.args.shelf.now) (seen c.work.new.shelf) (seen c.finish.new.shelf) (g.K.Sink.seen c.args.out.now) (g.K.Sink.seen c.finish.new.out) c.work.ensures.read (c.finish.ensures.halted e);
    }

pub returns-in-Ok-clause-silent : goal.returns-in-Ok-clause-silent
returns-in-Ok-clause-silent g c = λ s. absurd (not-silent c.finish.result c.finish.ensures.only s)

-- a fault is no answer, and only a file that the words name is lost
pub returns-in-Err-clause-complete : goal.returns-in-Err-clause-complete
returns-in-Err-clause-complete g c =
    run-ends (map string_bytes c.args.words.now) (g.S.Shelf.seen c.args.shelf.now).holds c.in-Err.fault (λ answered. absurd (not-silent c.in-Err.fault (inl answered) c.in-Err.ensures.fault)) c.in-Err.ensures.lost

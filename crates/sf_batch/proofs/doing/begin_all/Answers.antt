use Rattle.std.proofs.Common.{◌≡◌, arith, map, option_map, sym, subst, slice_get, Some}
use Rattle.sf_batch.proofs.Common.{plan_seen, told_seen, LineComesTo, StandsFor}
use Rattle.sf_batch.proofs.Counts.{counted_one}
use Rattle.sf_batch.proofs.Reading.{reads_both}
use Rattle.sf_batch.proofs.Tables.{given_one, line_at, told_one}
use Rattle.sf_batch.proofs.doing.begin_all.Goals.{in-Told, in-Built}
use Rattle.sf_batch.proofs.doing.begin_all.Goals as goal

pub loop-number-preserved : goal.loop-number-preserved
loop-number-preserved g c =
    let seen = g.S.Shelf.seen in
    let first = seen c.args.shelf.now in
    let before = seen c.loop-number.shelf in
    let after = seen c.begin_job.new.shelf in
    let number = c.loop-number.number in
    let reads = c.loop-number.invariant.0 in
    let later = c.begin_job.ensures.reads.later in (
      reads_both first before after reads c.begin_job.ensures.reads,
      (λ lines faults says is.
          let h = c.loop-number.invariant.1 lines faults says is in
          let line = line_at (option_map plan_seen) lines c.args.jobs.now number c.index-jobs-number.result says (omega arith) c.index-jobs-number.is in
          elim c.match-begin_job.branch [
            | in-Told w ↦
                let comes = subst (λ t. LineComesTo t line.0 (told_seen w.in-Told.answer)) reads.unchanged (w.in-Told.ensures.begins line.0 line.2) in
                let rose = counted_one w.in-Told.answer.status before.load_faults after.load_faults later w.in-Told.ensures.counted in
                rw (w.table-is, w.team-is) (told_one first.holds lines faults before.load_faults after.load_faults c.loop-number.table c.loop-number.team number line.0 w.in-Told.answer h line.1 comes rose)
            | in-Built w ↦
                let begins = w.in-Built.ensures.begins line.0 line.2 in
                let stands = subst (λ t. StandsFor t line.0 w.in-Built.job) reads.unchanged begins.1 in
                let at = subst (λ n. slice_get lines n ≡ Some line.0) (sym begins.0) line.1 in
                let fit = w.give_job.ensures first.holds lines (line.0, at, stands) h.given_fit in
                rw (w.table-is, w.team-is) (given_one first.holds lines faults before.load_faults after.load_faults (map told_seen c.loop-number.table) c.loop-number.team w.give_job.new.team h later fit)
          ]),
    )

use Rattle.std.proofs.Common.{◌∙◌, ap, arith, map, option_map, sym, subst}
use Rattle.sf_batch.proofs.Common.{AllZip, AllZip-long, plan_seen, SaysJob, told_seen, batch_status, batch_text, LineComesTo}
use Rattle.sf_gsrc.specs.Blocks.{content_of}
use Rattle.sf_batch.proofs.file.answer_text.Goals as goal

pub returns-clause-batch : goal.returns-clause-batch
returns-clause-batch g c =
    let lines = content_of c.args.text.now in
    let asked = map (option_map plan_seen) c.in_ok-jobs.jobs.items in
    let stand = c.in_ok-jobs.ensures.jobs in
    let says = subst (λ l. AllZip SaysJob lines (map (option_map plan_seen) l)) (sym c.deref.ensures.value) stand.each in
    let done = c.in_ok-all.ensures.done lines says in
    let told = map told_seen c.in_ok-all.all.items in
    let size = AllZip-long (LineComesTo (g.S.Shelf.seen c.args.shelf.now).holds) lines told done.each in
    let size_asked = AllZip-long SaysJob lines asked stand.each in
    record {
      all = told;
      each = done.each;
      few = let few = stand.few in omega (arith, size, size_asked, few);
      status_is = c.batch_status.ensures ∙ ap (λ l. batch_status (map told_seen l)) c.deref-3.ensures.value;
      printed_is = c.in_ok-text.ensures ∙ ap (λ l. batch_text (map told_seen l)) c.deref-2.ensures.value;
      counted = done.counted;
    }

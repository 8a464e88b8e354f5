use Rattle.std.proofs.Common.{◌≡◌, ◌<◌, ◌∙◌, ap, arith, length, map, option_map, sym, subst, All}
use Rattle.sf_batch.proofs.Common.{ForSome, length-map, plan_seen, told_seen, AreDone, IsUnderWay}
use Rattle.sf_batch.proofs.Tables.{begins, found_within, last_table, whole}
use Rattle.sf_batch.proofs.doing.do_jobs.Goals as goal

pub note_found-requires : goal.note_found-requires
note_found-requires g c =
    let first = g.S.Shelf.seen c.args.shelf.now in
    let then = (g.S.Shelf.seen c.begin_all.new.shelf).load_faults in
    let lines = c.requires.lines.0 in
    let says = c.requires.lines.1 in
    let asked = map (option_map plan_seen) c.args.jobs.now in
    let items = c.in_ok-table.table.items in
    let size : length items ≡ length asked = omega (arith, c.in_ok-table.ensures.count, length-map c.args.jobs.now (option_map plan_seen)) in
    let first_table = c.deref_mut.ensures.value in
    let start = begins first.holds lines asked first.load_faults items c.deref_mut.result.now c.in_ok-team.team says size c.in_ok-table.ensures.undone first_table c.in_ok-team.ensures in
    let begun = c.begin_all.ensures.under_way lines first.load_faults says start in
    let kept : length c.begin_all.new.table ≡ length items = omega (arith, c.begin_all.auto.table, ap length first_table) in
    let placed = c.deref_mut-2.ensures.value ∙ whole c.in_ok-table.table.len c.begin_all.new.table items c.in_ok-table.table.ok.0 kept in
    let within = found_within first.holds lines first.load_faults then c.begin_all.new.table c.begin_all.new.team c.finish-found.result.items begun c.finish-found.ensures in
    subst (λ t. All (λ found. ForSome found (λ f. f.number < length t)) c.finish-found.result.items) (sym placed) within

pub returns-clause-done : goal.returns-clause-done
returns-clause-done g c = λ lines says.
    let first = g.S.Shelf.seen c.args.shelf.now in
    let then = (g.S.Shelf.seen c.begin_all.new.shelf).load_faults in
    let asked = map (option_map plan_seen) c.args.jobs.now in
    let items = c.in_ok-table.table.items in
    let size : length items ≡ length asked = omega (arith, c.in_ok-table.ensures.count, length-map c.args.jobs.now (option_map plan_seen)) in
    let first_table = c.deref_mut.ensures.value in
    let start = begins first.holds lines asked first.load_faults items c.deref_mut.result.now c.in_ok-team.team says size c.in_ok-table.ensures.undone first_table c.in_ok-team.ensures in
    let begun = c.begin_all.ensures.under_way lines first.load_faults says start in
    let kept : length c.begin_all.new.table ≡ length items = omega (arith, c.begin_all.auto.table, ap length first_table) in
    let placed = c.deref_mut-2.ensures.value ∙ whole c.in_ok-table.table.len c.begin_all.new.table items c.in_ok-table.table.ok.0 kept in
    let kept_so : length c.note_found.new.table ≡ length c.begin_all.new.table = omega (arith, c.note_found.auto.table, ap length placed) in
    let begun_so = subst (λ t. IsUnderWay first.holds lines first.load_faults then (map told_seen t) c.begin_all.new.team) (sym placed) begun in
    let noted = c.note_found.ensures first.holds lines first.load_faults then c.begin_all.new.team c.finish-found.ensures begun_so in
    let last = last_table c.in_ok-table.table.len items c.begin_all.new.table c.note_found.new.table c.in_ok-table.table.ok.0 kept kept_so in
    subst (λ t. AreDone first.holds lines first.load_faults then (map told_seen t)) (sym last) noted.done

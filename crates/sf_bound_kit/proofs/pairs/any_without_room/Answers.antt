use Rattle.std.proofs.Common.{sym, ◌∙◌}
use Rattle.sf_bound_kit.proofs.Common.{have_no_room}
use Rattle.sf_bound_kit.proofs.EachTwo.{any-here, any-later}
use Rattle.sf_bound_kit.proofs.pairs.any_without_room.Goals as goal

pub returns-then-any_without_room_with : goal.returns-then-any_without_room_with
returns-then-any_without_room_with c =
    sym (sym c.loop-first.invariant
    ∙ any-here (have_no_room c.args.outline) c.in-Some.first.now c.in-Some.others.now c.loop-first.rest.now c.any_without_room_with.result c.in-Some.ensures.cases.0 c.any_without_room_with.ensures c.if-any_without_room_with.true)

pub loop-first-preserved : goal.loop-first-preserved
loop-first-preserved c =
    any-later (have_no_room c.args.outline) c.in-Some.first.now c.in-Some.others.now c.loop-first.rest.now c.any_without_room_with.result c.in-Some.ensures.cases.0 c.any_without_room_with.ensures c.if-any_without_room_with.false
    ∙ c.loop-first.invariant

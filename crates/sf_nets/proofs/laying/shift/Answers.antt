use Rattle.std.proofs.Common.{arith, ap, sym, ◌∙◌, length}
use Rattle.sf_nets.proofs.Common.{slice_set, Seat, moved, reseated, IsModestOffset}
use Rattle.sf_nets.proofs.Shifting.{shifted-none, shifted-length, shift-step, shift-fact, shift-end}
use Rattle.sf_nets.proofs.laying.shift.Goals as goal

pub loop-place-init : goal.loop-place-init
loop-place-init c = sym (shifted-none (reseated c.args.item (moved c.args.way c.args.by)) c.args.start c.args.seats.now.items)

pub moved-requires-clause-offset : goal.moved-requires-clause-offset
moved-requires-clause-offset c =
    shift-fact (reseated c.args.item (moved c.args.way c.args.by)) (λ s. IsModestOffset s.offset) c.loop-place.seats.items c.args.seats.now.items c.args.start c.loop-place.place c.index.result.now c.requires.offsets c.loop-place.invariant (omega arith)
    (omega (arith, ap length c.loop-place.invariant, shifted-length (reseated c.args.item (moved c.args.way c.args.by)) c.args.start c.loop-place.place c.args.seats.now.items)) c.index.ensures

pub loop-place-preserved : goal.loop-place-preserved
loop-place-preserved c =
    ap (λ o. slice_set c.loop-place.seats.items c.loop-place.place (let s : Seat = record { item = c.args.item; offset = o } in s)) c.moved.ensures
    ∙ shift-step (reseated c.args.item (moved c.args.way c.args.by)) c.loop-place.seats.items c.args.seats.now.items c.args.start c.loop-place.place c.index.result.now c.loop-place.invariant (omega arith)
    (omega (arith, ap length c.loop-place.invariant, shifted-length (reseated c.args.item (moved c.args.way c.args.by)) c.args.start c.loop-place.place c.args.seats.now.items)) c.index.ensures

pub returns : goal.returns
returns c =
    shift-end (reseated c.args.item (moved c.args.way c.args.by)) c.loop-place.seats.items c.args.seats.now.items c.args.start c.loop-place.place c.loop-place.invariant (omega arith)
    (omega (arith, ap length c.loop-place.invariant, shifted-length (reseated c.args.item (moved c.args.way c.args.by)) c.args.start c.loop-place.place c.args.seats.now.items))

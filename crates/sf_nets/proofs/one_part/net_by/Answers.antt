use Rattle.std.proofs.Common.{arith, ap, sym, subst, ◌∙◌, length, false}
use Rattle.sf_nets.proofs.Common.{pins_by, reach_gap, IsReady, IsReadable, shared_ranges, paired_sides, shared_homes, shared_in, greatest_gap}
use Rattle.sf_nets.proofs.NetParts.{range_counts, pair_counts, whole_counts, open_counts, ready_open}
use Rattle.sf_nets.proofs.ReadyLayout.{readied}
use Rattle.sf_nets.proofs.one_part.net_by.Goals as goal

pub pin_parts-requires-clause-ready : goal.pin_parts-requires-clause-ready
pin_parts-requires-clause-ready c =
    subst (IsReadable c.args.design.now) (sym c.deref.ensures.value) (length c.args.layout.now.held.items, readied c.args.design.now c.args.node.now c.args.layout.now c.requires.layout)

pub pin_parts-requires-in-Pair-clause-ready : goal.pin_parts-requires-in-Pair-clause-ready
pin_parts-requires-in-Pair-clause-ready c =
    subst (IsReadable c.args.design.now) (sym c.deref-in-Pair.ensures.value) (length c.args.layout.now.held.items, readied c.args.design.now c.args.node.now c.args.layout.now c.requires.layout)

pub pin_parts-requires-in-Hull-clause-ready : goal.pin_parts-requires-in-Hull-clause-ready
pin_parts-requires-in-Hull-clause-ready c =
    subst (IsReadable c.args.design.now) (sym c.deref-in-Hull.ensures.value) (length c.args.layout.now.held.items, readied c.args.design.now c.args.node.now c.args.layout.now c.requires.layout)

pub hull_part-requires-clause-ready : goal.hull_part-requires-clause-ready
hull_part-requires-clause-ready c =
    subst (IsReady c.args.design.now (length c.args.reaches.now)) (sym c.deref-in-Hull-2.ensures.value) (ready_open c.args.design.now c.args.node.now c.args.layout.now (length c.args.reaches.now) c.requires.layout c.requires.sized)

pub returns-in-Range-clause-is : goal.returns-in-Range-clause-is
returns-in-Range-clause-is c =
    let d = c.args.design.now in
    let table = c.args.layout.now.table.items in
    let pins = c.as_slice-pins.result.now in
    range_counts d c.args.node.now c.args.layout.now c.requires.layout c.requires.subproblem c.args.net.now.pins c.requires.inside c.reach_gap.result (omega (arith, c.if-pins-lt2.false, ap length c.as_slice-pins.ensures))
    (c.reach_gap.ensures.is ∙ ap reach_gap c.pin_parts.ensures.range ∙ ap (λ t. reach_gap (shared_ranges d t pins)) c.deref.ensures.value ∙ ap (λ ps. reach_gap (shared_ranges d table ps)) c.as_slice-pins.ensures)
    ∙ ap (pins_by d c.args.node.now c.args.net.now.pins) (sym c.in-Range.is)

pub returns-in-Pair-clause-is : goal.returns-in-Pair-clause-is
returns-in-Pair-clause-is c =
    let d = c.args.design.now in
    let table = c.args.layout.now.table.items in
    let pins = c.as_slice-pins.result.now in
    pair_counts d c.args.node.now c.args.layout.now c.requires.layout c.requires.subproblem c.args.net.now.pins c.requires.inside c.pin_parts-in-Pair.result.pair.sum (omega (arith, c.if-pins-lt2.false, ap length c.as_slice-pins.ensures))
    (ap (λ q. q.sum) c.pin_parts-in-Pair.ensures.pair ∙ ap (λ t. (paired_sides t pins).sum) c.deref-in-Pair.ensures.value ∙ ap (λ ps. (paired_sides table ps).sum) c.as_slice-pins.ensures)
    ∙ ap (pins_by d c.args.node.now c.args.net.now.pins) (sym c.in-Pair.is)

pub returns-in-Hull-clause-is : goal.returns-in-Hull-clause-is
returns-in-Hull-clause-is c =
    let d = c.args.design.now in
    let table = c.args.layout.now.table.items in
    let pins = c.as_slice-pins.result.now in
    whole_counts d c.args.node.now c.args.layout.now c.requires.layout c.requires.subproblem c.args.net.now.pins c.requires.inside c.reach_gap-in-Hull.result (sym c.is_complete.ensures ∙ c.if-is_complete.true) (omega (arith, c.if-pins-lt2.false, ap length c.as_slice-pins.ensures))
    (c.reach_gap-in-Hull.ensures.is ∙ ap reach_gap c.pin_parts-in-Hull.ensures.hull ∙ ap (λ t. reach_gap (shared_homes d t pins)) c.deref-in-Hull.ensures.value ∙ ap (λ ps. reach_gap (shared_homes d table ps)) c.as_slice-pins.ensures)
    ∙ ap (pins_by d c.args.node.now c.args.net.now.pins) (sym c.in-Hull.is)

pub returns-in-Hull-2-clause-is : goal.returns-in-Hull-2-clause-is
returns-in-Hull-2-clause-is c =
    let d = c.args.design.now in
    let table = c.args.layout.now.table.items in
    let pins = c.as_slice-pins.result.now in
    open_counts d c.args.node.now c.args.layout.now c.requires.layout c.requires.subproblem c.args.net.now.pins c.requires.inside c.hull_part.result (sym c.is_complete.ensures ∙ c.if-is_complete.false) (omega (arith, c.if-pins-lt2.false, ap length c.as_slice-pins.ensures))
    (c.hull_part.ensures.is ∙ ap (λ t. greatest_gap d t false (shared_in d t false pins) pins) c.deref-in-Hull-2.ensures.value ∙ ap (λ ps. greatest_gap d table false (shared_in d table false ps) ps) c.as_slice-pins.ensures)
    ∙ ap (pins_by d c.args.node.now c.args.net.now.pins) (sym c.in-Hull-2.is)

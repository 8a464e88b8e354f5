use Rattle.std.proofs.Common.{arith, ap, sym, subst, ◌∙◌, length, false}
use Rattle.sf_nets.proofs.Common.{reach_gap, IsReady, shared_ranges, paired_sides, shared_homes, shared_in, greatest_gap}
use Rattle.sf_nets.proofs.NetParts.{whole_are, open_are, ready_whole, ready_open}
use Rattle.sf_nets.proofs.wires.net_parts.Goals as goal

pub whole_parts-requires-clause-ready : goal.whole_parts-requires-clause-ready
whole_parts-requires-clause-ready c =
    subst (IsReady c.args.design.now 1) (sym c.deref.ensures.value) (ready_whole c.args.design.now c.args.node.now c.args.layout.now c.requires.subproblem c.requires.layout (sym c.is_complete.ensures ∙ c.if-is_complete.true))

pub returns-then-is_complete-clause-are : goal.returns-then-is_complete-clause-are
returns-then-is_complete-clause-are c =
    let d = c.args.design.now in
    let table = c.args.layout.now.table.items in
    let pins = c.as_slice-pins.result.now in
    whole_are d c.args.node.now c.args.layout.now c.requires.layout c.requires.subproblem c.args.net.now.pins c.requires.inside c.whole_parts.result (sym c.is_complete.ensures ∙ c.if-is_complete.true) (omega (arith, ap length c.as_slice-pins.ensures))
    (c.whole_parts.ensures.range ∙ ap (λ t. reach_gap (shared_ranges d t pins)) c.deref.ensures.value ∙ ap (λ ps. reach_gap (shared_ranges d table ps)) c.as_slice-pins.ensures)
    (c.whole_parts.ensures.pair ∙ ap (λ t. (paired_sides t pins).sum) c.deref.ensures.value ∙ ap (λ ps. (paired_sides table ps).sum) c.as_slice-pins.ensures)
    (c.whole_parts.ensures.hull ∙ ap (λ t. reach_gap (shared_homes d t pins)) c.deref.ensures.value ∙ ap (λ ps. reach_gap (shared_homes d table ps)) c.as_slice-pins.ensures)
    c.whole_parts.ensures.full

pub open_parts-requires-clause-ready : goal.open_parts-requires-clause-ready
open_parts-requires-clause-ready c =
    subst (IsReady c.args.design.now (length c.args.reaches.now)) (sym c.deref-2.ensures.value) (ready_open c.args.design.now c.args.node.now c.args.layout.now (length c.args.reaches.now) c.requires.layout c.requires.sized)

pub returns-clause-are : goal.returns-clause-are
returns-clause-are c =
    let d = c.args.design.now in
    let table = c.args.layout.now.table.items in
    let pins = c.as_slice-pins.result.now in
    open_are d c.args.node.now c.args.layout.now c.requires.layout c.requires.subproblem c.args.net.now.pins c.requires.inside c.open_parts.result (sym c.is_complete.ensures ∙ c.if-is_complete.false) (omega (arith, ap length c.as_slice-pins.ensures))
    (c.open_parts.ensures.range ∙ ap (λ t. reach_gap (shared_ranges d t pins)) c.deref-2.ensures.value ∙ ap (λ ps. reach_gap (shared_ranges d table ps)) c.as_slice-pins.ensures)
    (c.open_parts.ensures.pair ∙ ap (λ t. (paired_sides t pins).sum) c.deref-2.ensures.value ∙ ap (λ ps. (paired_sides table ps).sum) c.as_slice-pins.ensures)
    (c.open_parts.ensures.hull ∙ ap (λ t. greatest_gap d t false (shared_in d t false pins) pins) c.deref-2.ensures.value ∙ ap (λ ps. greatest_gap d table false (shared_in d table false ps) ps) c.as_slice-pins.ensures)
    c.open_parts.ensures.full

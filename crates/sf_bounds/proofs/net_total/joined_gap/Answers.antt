use Rattle.std.proofs.Common.{◌+◌, ◌<◌, arith, ap, sym, subst, length, ◌∙◌}
use Rattle.sf_bounds.proofs.Common.{Cell, IsFitReach, met, reach_gap, cell_at, pushed_reach, joined_reach}
use Rattle.sf_bounds.proofs.NetPushed.{pushed-fits}
use Rattle.sf_bounds.proofs.NetTotal.{read-cell, read-fits, counts-there}
use Rattle.sf_bounds.proofs.net_total.joined_gap.Goals as goal

pub gap_with_pads-requires-clause-left : goal.gap_with_pads-requires-clause-left
gap_with_pads-requires-clause-left c =
    let lt = counts-there c.args.design.now c.args.nets.now.weights.items c.args.net c.requires.kept.weights c.requires.inside in
    read-fits c.args.nets.now.cells.items (c.args.left.row + c.args.net) c.index-of_left.result.now c.requires.kept.stored.fit c.index-of_left.ensures (omega (arith, lt, c.requires.top.left.row.inside))

pub gap_with_pads-requires-clause-right : goal.gap_with_pads-requires-clause-right
gap_with_pads-requires-clause-right c =
    let lt = counts-there c.args.design.now c.args.nets.now.weights.items c.args.net c.requires.kept.weights c.requires.inside in
    read-fits c.args.nets.now.cells.items (c.args.right.row + c.args.net) c.index-of_right.result.now c.requires.kept.stored.fit c.index-of_right.ensures (omega (arith, lt, c.requires.top.right.row.inside))

pub gap_with_pads-requires-clause-pads : goal.gap_with_pads-requires-clause-pads
gap_with_pads-requires-clause-pads c =
    let lt = counts-there c.args.design.now c.args.nets.now.weights.items c.args.net c.requires.kept.weights c.requires.inside in
    read-fits c.args.nets.now.cells.items (c.args.nets.now.start.at + c.args.net) c.index-start.result.now c.requires.kept.stored.fit c.index-start.ensures (omega (arith, lt, c.requires.kept.stored.start_is.wires.inside))

pub gap_with_pads-requires-clause-moved : goal.gap_with_pads-requires-clause-moved
gap_with_pads-requires-clause-moved c =
    let D = c.args.design.now in
    let N = c.args.nets.now in
    let l = c.args.left in
    let r = c.args.right in
    let j = c.args.net in
    let lt = counts-there D N.weights.items j c.requires.kept.weights c.requires.inside in
    let inside : r.row + j < length N.cells.items = omega (arith, lt, c.requires.top.right.row.inside) in
    subst (λ (v : Cell). IsFitReach (pushed_reach c.args.direction l.extent v.reach)) (sym (read-cell N.cells.items (r.row + j) c.index-of_right.result.now c.index-of_right.ensures inside))
    (pushed-fits D c.args.node.now N.cells.items N.blocks.items N.start N.frames.items c.args.direction l r c.requires.subproblem c.requires.kept.stored c.requires.next c.requires.top j lt)

pub returns-clause-is : goal.returns-clause-is
returns-clause-is c =
    let D = c.args.design.now in
    let N = c.args.nets.now in
    let l = c.args.left in
    let r = c.args.right in
    let d = c.args.direction in
    let j = c.args.net in
    let lt = counts-there D N.weights.items j c.requires.kept.weights c.requires.inside in
    let of_left = read-cell N.cells.items (l.row + j) c.index-of_left.result.now c.index-of_left.ensures (omega (arith, lt, c.requires.top.left.row.inside)) in
    let of_right = read-cell N.cells.items (r.row + j) c.index-of_right.result.now c.index-of_right.ensures (omega (arith, lt, c.requires.top.right.row.inside)) in
    let start = read-cell N.cells.items (N.start.at + j) c.index-start.result.now c.index-start.ensures (omega (arith, lt, c.requires.kept.stored.start_is.wires.inside)) in
    c.gap_with_pads.ensures.is
    ∙ ap (λ (v : Cell). reach_gap (met (joined_reach d l.extent v.reach c.index-of_right.result.now.reach) c.index-start.result.now.reach)) of_left
    ∙ ap (λ (v : Cell). reach_gap (met (joined_reach d l.extent (cell_at N.cells.items (l.row + j)).reach v.reach) c.index-start.result.now.reach)) of_right
    ∙ ap (λ (v : Cell). reach_gap (met (joined_reach d l.extent (cell_at N.cells.items (l.row + j)).reach (cell_at N.cells.items (r.row + j)).reach) v.reach)) start

use Rattle.std.proofs.Common.{◌-◌, length, arith}
use Rattle.sf_bounds.proofs.Common.{some-first}
use Rattle.sf_bounds.proofs.NetPushed.{top-right, top-both}
use Rattle.sf_bounds.proofs.net_push.top_pair.Goals as goal

pub overflow_sub-len : goal.overflow_sub-len
overflow_sub-len c =
    omega (arith, c.len.ensures, some-first c.args.design.now c.args.node.now (length c.args.nets.now.frames.items) c.args.direction c.requires.subproblem c.requires.next)

pub index-right-requires : goal.index-right-requires
index-right-requires c =
    omega (arith, c.len.ensures, some-first c.args.design.now c.args.node.now (length c.args.nets.now.frames.items) c.args.direction c.requires.subproblem c.requires.next)

pub overflow_sub-right : goal.overflow_sub-right
overflow_sub-right c =
    let N = c.args.nets.now in
    (top-right c.args.design.now c.args.node.now N.cells.items N.blocks.items N.start N.frames.items c.args.direction c.requires.subproblem c.requires.kept.stored c.requires.next (c.len.result - 1) c.index-right.result.now (omega (arith, c.len.ensures)) c.index-right.ensures).0

pub index-left-requires : goal.index-left-requires
index-left-requires c =
    let N = c.args.nets.now in
    let t = top-right c.args.design.now c.args.node.now N.cells.items N.blocks.items N.start N.frames.items c.args.direction c.requires.subproblem c.requires.kept.stored c.requires.next (c.len.result - 1) c.index-right.result.now (omega (arith, c.len.ensures)) c.index-right.ensures in
    omega (arith, t.0, t.1)

pub returns : goal.returns
returns c =
    let N = c.args.nets.now in
    top-both c.args.design.now c.args.node.now N.cells.items N.blocks.items N.start N.frames.items c.args.direction c.requires.subproblem c.requires.kept.stored c.requires.next (c.len.result - 1) c.index-right.result.now (omega (arith, c.len.ensures)) c.index-right.ensures c.index-left.result.now c.index-left.ensures

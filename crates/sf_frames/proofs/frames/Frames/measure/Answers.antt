use Rattle.std.proofs.Common.{◌≡◌, length, subst}
use Rattle.sf_frames.proofs.Common.{AreSumsOrNone}
use Rattle.sf_frames.proofs.Rooms.{kept-within}
use Rattle.sf_frames.proofs.WholeSpans.{measured-groups}
use Rattle.sf_frames.proofs.frames.Frames.measure.Goals as goal

pub returns-clause-measured : goal.returns-clause-measured
returns-clause-measured c =
    let N = c.args.node.now in
    let D = c.args.design.now in
    let n = length c.extend.new.stored.frames.items in
    let all : n ≡ length N.tokens = c.in_ok-kept.ensures.count (c.if-not-kept.false) in
    c.answer_of.ensures D N (subst (λ v. AreSumsOrNone v c.sums_now-sums.result) (measured-groups D N n c.requires.subproblem c.requires.whole all) c.sums_now-sums.ensures)

pub returns-in_err-kept-clause-serves : goal.returns-in_err-kept-clause-serves
returns-in_err-kept-clause-serves c = (kept-within c.args.design.now _ c.args.node.now c.extend.new.stored c.requires.subproblem c.requires.whole c.in_err-kept.ensures.frames).0

pub invariant_of-self-in_err-kept : goal.invariant_of-self-in_err-kept
invariant_of-self-in_err-kept c = (kept-within c.args.design.now _ c.args.node.now c.extend.new.stored c.requires.subproblem c.requires.whole c.in_err-kept.ensures.frames).1

pub returns-then-not-kept-clause-serves : goal.returns-then-not-kept-clause-serves
returns-then-not-kept-clause-serves c = (kept-within c.args.design.now _ c.args.node.now c.extend.new.stored c.requires.subproblem c.requires.whole c.in_ok-kept.ensures.frames).0

pub invariant_of-self-then-not-kept : goal.invariant_of-self-then-not-kept
invariant_of-self-then-not-kept c = (kept-within c.args.design.now _ c.args.node.now c.extend.new.stored c.requires.subproblem c.requires.whole c.in_ok-kept.ensures.frames).1

pub returns-clause-serves : goal.returns-clause-serves
returns-clause-serves c = (kept-within c.args.design.now _ c.args.node.now c.extend.new.stored c.requires.subproblem c.requires.whole c.in_ok-kept.ensures.frames).0

pub invariant_of-self-2 : goal.invariant_of-self-2
invariant_of-self-2 c = (kept-within c.args.design.now _ c.args.node.now c.extend.new.stored c.requires.subproblem c.requires.whole c.in_ok-kept.ensures.frames).1

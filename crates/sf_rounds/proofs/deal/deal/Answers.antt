use Rattle.std.proofs.Common.{length}
use Rattle.sf_rounds.proofs.Common.{IsStretch}
use Rattle.sf_rounds.proofs.Dealing.{dealt, left-stretches, turned-stretches, handed-turned}
use Rattle.sf_rounds.proofs.deal.deal.Goals as goal

pub hand_out-requires-clause-stretches : goal.hand_out-requires-clause-stretches
hand_out-requires-clause-stretches g c κs within =
    let P = IsStretch c.args.design.now (g.B.Values.value c.args.bounds.now c.args.design.now) in
    turned-stretches P c.seated.new.stretches.items c.reverse-2.new.self.items c.reverse-2.ensures.items
    (left-stretches P c.args.work.stretches.items c.reverse.new.self.items c.seated.new.stretches.items (length c.args.work.quotas.now) c.reverse.ensures.items c.in_ok-jobs.ensures.left c.requires.stretches)

pub returns-clause-dealt : goal.returns-clause-dealt
returns-clause-dealt g c =
    let jobs = c.in_ok-jobs.jobs.items in
    let left = c.seated.new.stretches.items in
    let handed = handed-turned c.args.design.now jobs c.hand_out.new.jobs.items left c.reverse-2.new.self.items c.reverse-2.ensures.items c.in_ok-hand_out.ensures in
    dealt c.args.design.now (g.B.Values.value c.args.bounds.now c.args.design.now) c.args.seat.now.seen c.args.word.now c.args.work.stretches.items c.reverse.new.self.items left c.args.work.quotas.now c.args.places.items jobs c.hand_out.new.jobs.items
    c.reverse.ensures.items c.in_ok-jobs.ensures.seated c.in_ok-jobs.ensures.left handed c.requires.deques.0 c.requires.new c.requires.stretches

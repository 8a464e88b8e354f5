use Rattle.std.proofs.Common.{◌%◌, [], ◌∷◌, All, subst, arith, length-set}
use Rattle.sf_rounds.proofs.Common.{IsStretch, all_front, all_last}
use Rattle.sf_rounds.proofs.Dealing.{handing-start, handing-more}
use Rattle.sf_rounds.proofs.deal.hand_out.Goals as goal

pub loop-stretch-init : goal.loop-stretch-init
loop-stretch-init g c = (handing-start c.args.design.now c.args.jobs.now.items c.args.stretches.items, c.requires.some, c.requires.stretches)

pub put-requires-clause-stretch : goal.put-requires-clause-stretch
put-requires-clause-stretch g c κs within =
    let P = IsStretch c.args.design.now (g.B.Values.value c.args.bounds.now c.args.design.now) in
    all_last P c.pop.new.self.items c.in-Some.stretch (subst (All P) c.in-Some.ensures.items c.loop-stretch.invariant.2)

pub loop-stretch-preserved : goal.loop-stretch-preserved
loop-stretch-preserved g c =
    let P = IsStretch c.args.design.now (g.B.Values.value c.args.bounds.now c.args.design.now) in
    let i = c.loop-stretch.invariant in (
      handing-more c.args.design.now c.args.jobs.now.items c.loop-stretch.jobs.items c.args.stretches.items c.loop-stretch.stretches.items c.pop.new.self.items c.in-Some.stretch (c.len.result % c.len-in-Some.result) _ c.put.new.job i.0 c.in-Some.ensures.items (omega arith) c.index_mut.ensures.value c.in_ok-put.ensures,
      omega (arith, i.1, length-set c.loop-stretch.jobs.items (c.len.result % c.len-in-Some.result) c.put.new.job),
      all_front P c.pop.new.self.items (c.in-Some.stretch ∷ []) (subst (All P) c.in-Some.ensures.items i.2),
    )

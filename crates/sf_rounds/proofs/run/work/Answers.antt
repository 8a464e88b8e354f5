use Rattle.std.proofs.Common.{refl, rules}
use Rattle.sf_rounds.proofs.Common.{IsOk}
use Rattle.sf_rounds.proofs.Refilled.{worked-first, worked-on}
use Rattle.sf_rounds.proofs.run.work.Goals as goal

pub loop-init : goal.loop-init
loop-init g c =
    let design = c.args.design.now in
    worked-first design (g.B.Values.value c.args.bounds.now design) (g.B.Bounds.part_value c.args.bounds.now design) c.args.member.now _ refl c.pass_once.ensures

pub loop-preserved : goal.loop-preserved
loop-preserved g c =
    let design = c.args.design.now in
    let ok : IsOk c.loop.member.job.end = search rules in
    worked-on design (g.B.Values.value c.args.bounds.now design) (g.B.Bounds.part_value c.args.bounds.now design) c.args.word.now c.args.member.now c.loop.member _ _ c.in-Some.drawn c.requires.ready.0 c.loop.invariant ok c.in-Some.ensures.1 c.in-Some.ensures.0 c.pass_once-in-loop.ensures

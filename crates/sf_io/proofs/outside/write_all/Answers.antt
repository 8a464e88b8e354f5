use Rattle.std.proofs.Common.{◌≡◌, ◌+◌, ◌-◌, length, take, drop, ◌++◌, arith, rules}
use Rattle.std.proofs.lemmas.Grind.{common_steps}
use Rattle.std.proofs.Math.Seq.{take-add}
use Rattle.sf_io.proofs.Common.{Took}
use Rattle.sf_io.proofs.TakenLemmas.{Appends-append, Took-prefix}
use Rattle.sf_io.proofs.outside.write_all.Goals as goal

pub returns-in_err-at-clause-part : goal.returns-in_err-at-clause-part
returns-in_err-at-clause-part g c =
    let before = Took-prefix (g.K.Sink.seen c.args.out.now).taken (g.K.Sink.seen c.loop-at.out).taken c.loop-at.at c.args.text.now c.loop-at.invariant.1 in
    let after : Took (g.K.Sink.seen c.args.out.now).taken (g.K.Sink.seen c.put.new.self).taken c.args.text.now = rw c.in_err-at.ensures.kept before in
    search rules

pub loop-at-preserved : goal.loop-at-preserved
loop-at-preserved g c =
    let seam : take (c.loop-at.at + c.in_ok-at.field-0) c.args.text.now ≡ take c.loop-at.at c.args.text.now ++ take c.in_ok-at.field-0 (take (length c.args.text.now - c.loop-at.at) (drop c.loop-at.at c.args.text.now)) = grind (arith, common_steps, take-add) in (
      omega (arith, c.in_ok-at.ensures.bound),
      rw seam (Appends-append _ _ _ _ _ c.loop-at.invariant.1 c.in_ok-at.ensures.taken),
      omega (arith, c.in_ok-at.ensures.later),
    )

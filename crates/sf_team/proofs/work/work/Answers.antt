use Rattle.sf_team.proofs.Common.{says_at, view, Hand, AreAnswers}
use Rattle.std.proofs.Common.{refl, sym, subst, Some}
use Rattle.sf_team.proofs.Moves.{takes}
use Rattle.sf_team.proofs.Right.{stopped, worked}
use Rattle.sf_team.proofs.work.work.Goals.{in-Some-does, in_default}
use Rattle.sf_team.proofs.work.work.Goals as goal

pub recv_as-requires-clause-rule : goal.recv_as-requires-clause-rule
recv_as-requires-clause-rule g c = (takes _ _, λ items views h at. tt)

pub returns-in-Ok-Stop-clause-answers : goal.returns-in-Ok-Stop-clause-answers
returns-in-Ok-Stop-clause-answers g c =
    stopped g.W.Gives.gives (view c.loop.pass) (view c.recv_as.new.pass) c.in-Ok-Stop.field-0 c.loop.all.items c.reserve.new.self.items c.loop.invariant.1 c.in-Ok-Stop.ensures.rule c.reserve.ensures.items

pub returns-in-Err-clause-answers : goal.returns-in-Err-clause-answers
returns-in-Err-clause-answers g c =
    let old = subst (AreAnswers g.W.Gives.gives (view c.loop.pass).taken) (sym c.reserve.ensures.items) c.loop.invariant.1 in
    subst (λ (u : Hand _). AreAnswers g.W.Gives.gives u.taken c.reserve.new.self.items) (sym c.in-Err.ensures.rule.0) old

pub loop-preserved : goal.loop-preserved
loop-preserved g c =
    let numbered = c.in-Ok-Work.numbered in elim c.match-does.branch [
      | in-Some-does w ↦
          let answer = w.in-Some-does.answer in
          let gave = c.requires.gives c.deref.result.now (Some answer) (says_at g.F.Fn c.does.ensures w.in-Some-does.is) in
          let given = subst (λ j. g.W.Gives.gives j (Some answer)) c.deref.ensures gave in (
            c.recv_as.ensures.channel.0,
            rw w.all-is (worked g.W.Gives.gives (view c.loop.pass) (view c.recv_as.new.pass) c.in-Ok-Work.field-0 numbered (record { number = numbered.number; answer = answer }) c.loop.all.items
                c.reserve.new.self.items w.push_reserved.new.self.items c.loop.invariant.1 c.in-Ok-Work.ensures.rule c.in-Ok-Work.field-0-is refl given c.reserve.ensures.items w.push_reserved.ensures.items),
          )
      | in_default w ↦ (
        c.recv_as.ensures.channel.0,
        rw w.all-is (stopped g.W.Gives.gives (view c.loop.pass) (view c.recv_as.new.pass) c.in-Ok-Work.field-0 c.loop.all.items c.reserve.new.self.items c.loop.invariant.1 c.in-Ok-Work.ensures.rule c.reserve.ensures.items),
      )
    ]

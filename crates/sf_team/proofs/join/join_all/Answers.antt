use Rattle.std.proofs.Common.{◌≡◌, ◌∙◌, ap, sym, subst}
use Rattle.sf_team.proofs.Common.{view, IsSeatAt, sends_on, Hand, AreAmong, IsCaller}
use Rattle.sf_team.proofs.Moves.{merges, knows}
use Rattle.sf_team.proofs.Right.{joined_right, caller_joined}
use Rattle.sf_team.proofs.Tables.{last_of, front_of}
use Rattle.sf_team.proofs.join.join_all.Goals as goal

pub absorb-requires-clause-channel : goal.absorb-requires-clause-channel
absorb-requires-clause-channel g c =
    let one = last_of c.pop.new.self.items c.in-Some.handle c.loop-handle.handles.items (λ h. sends_on h.promise.jobs.value ≡ sends_on c.args.jobs.now) c.in-Some.ensures.items c.loop-handle.invariant.2 in
    (c.loop-handle.invariant.0, subst (λ ring. IsSeatAt ring c.join-theirs.result.0) one c.join-theirs.ensures.0)

pub absorb-requires-clause-rule : goal.absorb-requires-clause-rule
absorb-requires-clause-rule g c = merges _ _ _ _

pub learn_as-requires-clause-rule : goal.learn_as-requires-clause-rule
learn_as-requires-clause-rule g c = knows _ _ (ap (λ (v : Hand _). v.sends) c.absorb.ensures.rule ∙ c.loop-handle.invariant.1.1.sends)

pub loop-handle-preserved : goal.loop-handle-preserved
loop-handle-preserved g c =
    let v = view c.loop-handle.pass in
    let w = view c.join-theirs.result.0 in
    let same : AreAmong (view c.absorb.new.pass).taken (view c.absorb.new.pass).sent = c.learn_as.ensures.rule.1 in
    let among = subst (λ (u : Hand _). AreAmong u.taken u.sent) c.absorb.ensures.rule same in
    let now = sym (c.learn_as.ensures.channel.2 ∙ c.absorb.ensures.rule) in
    let some = c.loop-handle.invariant.1 in (
      c.learn_as.ensures.channel.0,
      (some.0, subst (IsCaller some.0) now (caller_joined some.0 v w some.1)),
      front_of c.pop.new.self.items c.in-Some.handle c.loop-handle.handles.items (λ h. sends_on h.promise.jobs.value ≡ sends_on c.args.jobs.now) c.in-Some.ensures.items c.loop-handle.invariant.2,
      λ given is table.
          let h = c.loop-handle.invariant.3 given is table in
          let right = joined_right g.W.Gives.gives given v w c.join-theirs.result.1.items h.0 c.join-theirs.ensures.1 among in
          (subst (IsCaller given) now (caller_joined given v w h.0), c.note.ensures given h.1 right),
    )

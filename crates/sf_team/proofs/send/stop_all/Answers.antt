use Rattle.std.proofs.Common.{◌≡◌, List}
use Rattle.sf_team.proofs.Common.{view, send_message, Stop, IsCaller}
use Rattle.sf_team.proofs.Moves.{sends}
use Rattle.sf_team.proofs.Right.{after_send}
use Rattle.sf_team.proofs.send.stop_all.Goals as goal

pub send_as-requires-clause-rule : goal.send_as-requires-clause-rule
send_as-requires-clause-rule g c = (sends _ _ _ _ c.loop.invariant.1.1.sends, λ items views h at. tt)

pub loop-preserved : goal.loop-preserved
loop-preserved g c =
    let after : (given : List _) → IsCaller given (view c.loop.pass) → IsCaller given (view c.send_as.new.pass) = λ given is. after_send given (view c.loop.pass) (view c.send_as.new.pass) Stop (λ e. send_message e ≡ Stop) c.send_as.result is tt c.send_as.ensures.rule in
    let some = c.loop.invariant.1 in (
      c.send_as.ensures.channel.0,
      (some.0, after some.0 some.1),
      λ given is. after given (c.loop.invariant.2 given is),
    )

use Rattle.std.proofs.Common.{sym, subst, ◌∙◌, ap}
use Rattle.sf_team.proofs.Common.{IsSeatAt, sends_on}
use Rattle.sf_team.proofs.start.spawn.Goals as goal

pub spawn_with-started-requires-clause-keeps : goal.spawn_with-started-requires-clause-keeps
spawn_with-started-requires-clause-keeps g c κs within = λ r p.
    let e = c.requires.one ∙ ap (λ s. sends_on s) (sym c.of.ensures) in (subst (λ ring. IsSeatAt ring r.0) e p.0, p.1)

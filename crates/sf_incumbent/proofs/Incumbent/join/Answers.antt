use Rattle.std.proofs.Common.{ap, sym, ◌∙◌, arith}
use Rattle.sf_incumbent.proofs.Common.{Word, Knows}
use Rattle.sf_incumbent.proofs.Steps.{joins}
use Rattle.sf_incumbent.proofs.Incumbent.join.Goals as goal

pub join_seat-requires : goal.join_seat-requires
join_seat-requires c = (ap (λ (k : Knows). k.word) c.into.view_is ∙ (c.requires.0 ∙ sym (ap (λ (w : Word). w.id) c.self.view_is)), ap (λ (k : Knows). k.word) c.from.view_is ∙ (c.requires.1 ∙ sym (ap (λ (w : Word). w.id) c.self.view_is)), c.from.invariant.1, omega arith, joins _ _ _ _ _ _ c.into.invariant.0 c.from.invariant.0)

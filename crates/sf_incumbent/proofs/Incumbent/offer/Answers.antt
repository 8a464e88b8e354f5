use Rattle.std.proofs.Common.{ap, sym, ◌∙◌, arith}
use Rattle.sf_incumbent.proofs.Common.{Word, Knows}
use Rattle.sf_incumbent.proofs.Steps.{offers}
use Rattle.sf_incumbent.proofs.Incumbent.offer.Goals as goal

pub fetch_min-found-requires : goal.fetch_min-found-requires
fetch_min-found-requires c = (ap (λ (k : Knows). k.word) c.seat.view_is ∙ (c.requires ∙ sym (ap (λ (w : Word). w.id) c.self.view_is)), omega arith, offers _ _ _ _ _ _ c.seat.invariant.0)

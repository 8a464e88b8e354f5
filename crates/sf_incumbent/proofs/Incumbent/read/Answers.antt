use Rattle.std.proofs.Common.{ap, sym, ◌∙◌, arith}
use Rattle.sf_incumbent.proofs.Common.{Word, Knows}
use Rattle.sf_incumbent.proofs.Steps.{looks}
use Rattle.sf_incumbent.proofs.Incumbent.read.Goals as goal

pub load-requires : goal.load-requires
load-requires c = (ap (λ (k : Knows). k.word) c.seat.view_is ∙ (c.requires ∙ sym (ap (λ (w : Word). w.id) c.self.view_is)), omega arith, looks _ _ _ _ _ c.seat.invariant.0)

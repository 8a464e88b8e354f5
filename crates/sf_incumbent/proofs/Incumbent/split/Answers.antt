use Rattle.std.proofs.Common.{◌≡◌, ap, sym, ◌∙◌, arith}
use Rattle.sf_incumbent.proofs.Common.{Word, Knows}
use Rattle.sf_incumbent.proofs.Steps.{splits}
use Rattle.sf_incumbent.proofs.Incumbent.split.Goals as goal

pub split_seat-requires : goal.split_seat-requires
split_seat-requires c = (ap (λ (k : Knows). k.word) c.seat.view_is ∙ (c.requires.seat ∙ sym (ap (λ (w : Word). w.id) c.self.view_is)), omega arith, splits _ _ _ _ (let p : c.seat.inside.seat.me.0.parts ≡ c.args.seat.now.parts = ap (λ (k : Knows). k.parts) c.seat.view_is in let q = c.requires.parts in omega arith))

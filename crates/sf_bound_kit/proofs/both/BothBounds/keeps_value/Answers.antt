use Rattle.sf_bound_kit.proofs.Kept.{both-keep}
use Rattle.sf_bound_kit.proofs.both.BothBounds.keeps_value.Goals as goal

pub returns-then-keeps_value : goal.returns-then-keeps_value
returns-then-keeps_value g c = λ is design value child.
    both-keep design (g.A.Values.value c.args.self.now.first design) (g.B.Values.value c.args.self.now.second design) value c.args.child.now
    (c.keeps_value.ensures c.if-keeps_value.true design) (c.keeps_value-then-keeps_value.ensures is design) child

use Rattle.std.proofs.Common.{rules}
use Rattle.sf_bound_kit.proofs.Kept.{kit-keep}
use Rattle.sf_bound_kit.proofs.kit.KitBounds.keeps_value.Goals as goal
use Rattle.sf_bound_kit.proofs.kit.KitBounds.keeps_value.Goals.{then-reads_spans, else-reads_spans}

pub returns-then-keeps_spans : goal.returns-then-keeps_spans
returns-then-keeps_spans g c = λ is design value child.
    elim c.if-reads_spans.branch [
      | then-reads_spans w ↦ kit-keep g.F.Asked.may g.F.Asked.gives g.N.Says.own c.asking.inside.function c.asking.invariant (c.reads_spans.ensures w.if-reads_spans.true) design value c.args.child.now
          (w.keeps_spans.ensures (search rules)) (c.keeps_value.ensures is design) child
      | else-reads_spans w ↦ absurd (search rules)
    ]

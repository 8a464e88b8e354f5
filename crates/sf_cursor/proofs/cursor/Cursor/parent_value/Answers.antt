use Rattle.std.proofs.Common.{ap, ◌∙◌}
use Rattle.sf_cursor.proofs.Ways.{level-above}
use Rattle.sf_cursor.proofs.cursor.Cursor.parent_value.Goals as goal

pub returns-clause-value : goal.returns-clause-value
returns-clause-value g c =
    level-above c.args.design.now (g.V.Values.value c.args.values.now c.args.design.now) c.args.self.now c.deref.result.now c.in_ok-level.field-0.now c.requires
    (c.deref.ensures.value ∙ ap (λ p. p.levels) c.self.view_is) c.in_ok-level.ensures.value

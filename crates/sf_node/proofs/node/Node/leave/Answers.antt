use Rattle.std.proofs.Common.{ap, ◌∙◌}
use Rattle.sf_node.proofs.Common.{Left, Right, after, middle, span_of, halved}
use Rattle.sf_node.specs.contracts.node.Node.{the_view}
use Rattle.sf_node.proofs.Later.{put-back}
use Rattle.sf_node.proofs.node.Node.leave.Goals as goal

pub returns-in-Left : goal.returns-in-Left
returns-in-Left c = λ before e k.
    let b = c.in-Left.block in
    let span = span_of before b in
    put-back (the_view c.self.inside) before (Left b) b c.self.inside.steps.len (span.0, middle span) c.args.span c.pop.new.self.items c.self.inside.steps.ok.0 c.pop.ensures.rest
    (c.self.view_is ∙ e ∙ ap (after before) c.in-Left.is) (k ∙ ap (halved before) c.in-Left.is)

pub returns-in-Right : goal.returns-in-Right
returns-in-Right c = λ before e k.
    let b = c.in-Right.block in
    let span = span_of before b in
    put-back (the_view c.self.inside) before (Right b) b c.self.inside.steps.len (middle span, span.1) c.args.span c.pop.new.self.items c.self.inside.steps.ok.0 c.pop.ensures.rest
    (c.self.view_is ∙ e ∙ ap (after before) c.in-Right.is) (k ∙ ap (halved before) c.in-Right.is)

use Rattle.std.proofs.Common.{◌∙◌}
use Rattle.sf_model.proofs.Used.{none-made}
use Rattle.sf_model.proofs.routing.unrouted.Goals as goal

pub returns-clause-legal : goal.returns-clause-legal
returns-clause-legal c = λ pads.
    none-made pads c.args.nets.now c.from_vec.result c.from_vec-2.result c.from_vec-3.result (c.from_vec.ensures ∙ c.new.ensures.items) (c.from_vec-2.ensures ∙ c.new-2.ensures.items) (c.from_vec-3.ensures ∙ c.in_ok-left.ensures)

use Rattle.std.proofs.Common.{◌∙◌}
use Rattle.sf_gsrc.proofs.Common.{owner_found}
use Rattle.sf_gsrc.proofs.OwnerSteps.{pad_put}
use Rattle.sf_gsrc.proofs.owners.Owners.put_pad.Goals as goal

pub returns : goal.returns
returns c = λ blocks pads is.
    let sets = rw c.as_bytes-2.ensures.value at c.in_ok-insert.ensures.updates in
    let old = rw c.as_bytes.ensures.value at c.get.ensures in
    pad_put (owner_found c.args.self.now) _ c.args.name.now c.beside-owner.result c.args.pad blocks pads sets is (λ block other e. c.beside-owner.ensures block other (old ∙ e))

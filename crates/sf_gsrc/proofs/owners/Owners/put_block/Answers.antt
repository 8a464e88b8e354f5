use Rattle.sf_gsrc.proofs.Common.{owner_found}
use Rattle.sf_gsrc.proofs.OwnerSteps.{block_put}
use Rattle.sf_gsrc.proofs.owners.Owners.put_block.Goals as goal

pub returns : goal.returns
returns c = λ blocks is.
    let sets = rw c.as_bytes.ensures.value at c.in_ok-insert.ensures.updates in
    block_put (owner_found c.args.self.now) _ c.args.name.now c.args.block blocks sets is

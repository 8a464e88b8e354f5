use Rattle.std.proofs.Common.{◌∙◌, refl}
use Rattle.sf_gsrc.proofs.Common.{block_of, pad_of, Named}
use Rattle.sf_gsrc.proofs.OwnerSteps.{by_owner}
use Rattle.sf_gsrc.proofs.owners.Owners.number_of.Goals as goal

pub returns-in-Some-Block : goal.returns-in-Some-Block
returns-in-Some-Block c = λ blocks pads are.
    let pin = Named c.args.name.now in
    by_owner (block_of blocks pin) (pad_of pads pin) pin c.get.result (rw c.as_bytes.ensures.value at c.get.ensures ∙ are c.args.name.now) ∙ rw (c.in-Some-Block.is, c.in-Some-Block.field-0-is) refl

pub returns-in-Some-Pad : goal.returns-in-Some-Pad
returns-in-Some-Pad c = λ blocks pads are.
    let pin = Named c.args.name.now in
    by_owner (block_of blocks pin) (pad_of pads pin) pin c.get.result (rw c.as_bytes.ensures.value at c.get.ensures ∙ are c.args.name.now) ∙ rw (c.in-Some-Pad.is, c.in-Some-Pad.field-0-is) refl

pub returns-in-Some-Both : goal.returns-in-Some-Both
returns-in-Some-Both c = λ blocks pads are.
    let pin = Named c.args.name.now in
    by_owner (block_of blocks pin) (pad_of pads pin) pin c.get.result (rw c.as_bytes.ensures.value at c.get.ensures ∙ are c.args.name.now) ∙ rw (c.in-Some-Both.is, c.in-Some-Both.field-0-is) refl

pub returns-in-None : goal.returns-in-None
returns-in-None c = λ blocks pads are.
    let pin = Named c.args.name.now in
    by_owner (block_of blocks pin) (pad_of pads pin) pin c.get.result (rw c.as_bytes.ensures.value at c.get.ensures ∙ are c.args.name.now) ∙ rw (c.in-None.is) refl

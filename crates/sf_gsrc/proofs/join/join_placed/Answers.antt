use Rattle.sf_gsrc.proofs.Joining.{joined_by}
use Rattle.sf_gsrc.proofs.join.join_placed.Goals as goal

pub returns : goal.returns
returns c =
    rw (c.from_vec.ensures, c.from_vec-2.ensures)
    (joined_by c.args.blocks c.args.nets c.args.places.items c.in_ok-pads.pads.items c.in_ok-strangers.strangers.items _
    (rw (c.deref.ensures.value, c.into_vec.ensures) at c.in_ok-pads.ensures)
    (rw (c.as_slice.ensures, c.deref-2.ensures.value) at c.in_ok-strangers.ensures))

use Rattle.std.proofs.Common.{◌∙◌}
use Rattle.sf_yal.proofs.Common.{reading_in}
use Rattle.sf_yal.proofs.Making.{parts_are, signals_are}
use Rattle.sf_yal.proofs.read.into_parts.Goals as goal

pub returns : goal.returns
returns c =
    let read = rw (c.deref.ensures.value, c.deref-2.ensures.value) at c.in_ok-blocks.ensures in
    let nets = rw (c.deref-3.ensures.value, signals_are c.args.found.now.instances.items) at c.in_ok-nets.ensures in
    let pads = rw c.replace.ensures.value at c.from_vec-2.ensures in
    parts_are (reading_in c.args.found.now) c.args.parent _ c.from_vec.result c.from_vec-2.result c.in_ok-nets.nets c.from_vec-3.result read c.from_vec.ensures pads nets (c.from_vec-3.ensures ∙ c.new-2.ensures.items)

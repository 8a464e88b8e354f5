use Rattle.sf_nets.proofs.PartSums.{parts-small}
use Rattle.sf_nets.proofs.pins.whole_parts.Goals as goal

pub pin_parts-parts-requires-clause-ready : goal.pin_parts-parts-requires-clause-ready
pin_parts-parts-requires-clause-ready c = (1, c.requires.ready)

pub returns-clause-small : goal.returns-clause-small
returns-clause-small c =
    parts-small c.of_net.result c.reach_gap.result c.pin_parts-parts.result.pair.sum c.reach_gap-2.result c.reach_gap.ensures.small c.pin_parts-parts.ensures.small_pair c.reach_gap-2.ensures.small c.of_net.ensures.range c.of_net.ensures.pair c.of_net.ensures.hull c.of_net.ensures.full

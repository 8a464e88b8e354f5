use Rattle.std.proofs.Common.{◌∙◌, length}
use Rattle.sf_nets.proofs.PinLoops.{gathered_near, gaps_same}
use Rattle.sf_nets.proofs.homes.hull_part.Goals as goal

pub greatest_gap-requires-clause-near : goal.greatest_gap-requires-clause-near
greatest_gap-requires-clause-near c =
    gathered_near c.args.design.now c.args.table.now c.args.pins.now c.clear_homes.new.reaches c.gather.new.reaches (length c.args.reaches.now) c.requires.ready c.requires.inside c.clear_homes.ensures c.gather.ensures

pub returns-clause-is : goal.returns-clause-is
returns-clause-is c =
    c.greatest_gap.ensures.is ∙ gaps_same c.args.design.now c.args.table.now c.args.pins.now c.clear_homes.new.reaches c.gather.new.reaches c.clear_homes.ensures c.gather.ensures

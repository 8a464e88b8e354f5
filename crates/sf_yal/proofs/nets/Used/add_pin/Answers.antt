use Rattle.std.proofs.Common.{◌≤◌, length, arith}
use Rattle.sf_yal.proofs.Common.{common_steps}
use Rattle.sf_yal.proofs.NetSteps.{set_pins, none_there}
use Rattle.sf_yal.proofs.nets.Used.add_pin.Goals as goal

pub returns-in_ok-use_net-in-Some-clause-nets : goal.returns-in_ok-use_net-in-Some-clause-nets
returns-in_ok-use_net-in-Some-clause-nets c = set_pins _ _ _ _ _ c.in-Some.ensures.value c.in_ok-use_net-in-Some.ensures

pub returns-in-None-clause-nets : goal.returns-in-None-clause-nets
returns-in-None-clause-nets c =
    let le : length c.args.self.now.nets.items ≤ c.args.place = grind (arith, common_steps) in
    none_there _ _ _ le

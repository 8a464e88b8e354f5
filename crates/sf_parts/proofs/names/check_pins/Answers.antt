use Rattle.std.proofs.Common.{arith}
use Rattle.sf_parts.proofs.Common.{at_pin_name, rule_faults}
use Rattle.sf_parts.proofs.Firsts.{walk_refused}
use Rattle.sf_parts.proofs.names.check_pins.Goals as goal

pub returns-in_err-check_pin : goal.returns-in_err-check_pin
returns-in_err-check_pin c = walk_refused (at_pin_name (rule_faults c.args.rule c.args.index.now.parts.now)) c.args.pins.now c.loop-pin.pin-index c.pin-item.result c.in_err-check_pin.field-0.0 c.from_residual.result (omega arith) c.loop-pin.invariant c.pin-item.is c.in_err-check_pin.ensures c.from_residual.ensures.1

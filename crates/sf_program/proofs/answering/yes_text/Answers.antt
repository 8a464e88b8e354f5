use Rattle.std.proofs.Common.{◌∙◌, string_bytes, decimal}
use Rattle.sf_model.specs.CostText.{cost_text}
use Rattle.sf_program.proofs.Printed.{yes-lines}
use Rattle.sf_program.proofs.answering.yes_text.Goals as goal

pub returns : goal.returns
returns c = c.in_ok-text.ensures.ok ∙ yes-lines (string_bytes c.in_ok-cost.cost) (string_bytes c.in_ok-bound.bound) (cost_text c.args.cost) (cost_text c.args.bound) (decimal c.args.decided) c.in_ok-cost.ensures c.in_ok-bound.ensures

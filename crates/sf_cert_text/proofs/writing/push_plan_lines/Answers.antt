use Rattle.std.proofs.Common.{string_bytes, decimal}
use Rattle.sf_cert_text.proofs.Common.{codes, plan_text, cost_text, labelled, version_text}
use Rattle.sf_cert_text.proofs.PathTexts.{five-lines}
use Rattle.sf_cert_text.proofs.writing.push_plan_lines.Goals as goal

pub returns-clause-text : goal.returns-clause-text
returns-clause-text c =
    let cert = c.args.cert.now in
    five-lines (string_bytes c.args.text.now) (string_bytes c.push_version.new.text) (string_bytes c.push_blocks.new.text) (string_bytes c.push_cost_line.new.text) (string_bytes c.push_cost_line-2.new.text) (string_bytes c.push_plan.new.text)
    (labelled (codes "slicing-certificate") (version_text cert.paths)) (labelled (codes "blocks") (decimal cert.blocks)) (labelled (codes "cost") (cost_text cert.cost)) (labelled (codes "bound") (cost_text cert.bound)) (labelled (codes "plan") (plan_text cert.plan))
    c.in_ok-push_version.ensures c.in_ok-push_blocks.ensures c.in_ok-push_cost_line.ensures.text c.in_ok-push_cost_line-2.ensures.text c.in_ok-push_plan.ensures

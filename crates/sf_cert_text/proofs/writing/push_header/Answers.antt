use Rattle.std.proofs.Common.{string_bytes}
use Rattle.sf_cert_text.proofs.Common.{paths_if_any, plan_lines}
use Rattle.sf_cert_text.proofs.PathTexts.{header-text}
use Rattle.sf_cert_text.proofs.writing.push_header.Goals as goal

pub returns-clause-text : goal.returns-clause-text
returns-clause-text c =
    let cert = c.args.cert.now in
    header-text (string_bytes c.args.text.now) (string_bytes c.push_plan_lines.new.text) (string_bytes c.push_paths.new.text) (string_bytes c.push_str.new.self)
    (plan_lines cert.blocks cert.plan cert.cost cert.bound cert.paths) (paths_if_any cert.paths) c.in_ok-push_plan_lines.ensures.text c.in_ok-push_paths.ensures.text c.in_ok-push_str.ensures.bytes

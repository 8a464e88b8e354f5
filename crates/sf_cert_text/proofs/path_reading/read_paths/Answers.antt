use Rattle.sf_cert_text.proofs.Common.{codes, last_line_of, numbered_rest, list_all, and_from, leads}
use Rattle.sf_cert_text.proofs.PathsLead.{axis-leads}
use Rattle.sf_cert_text.proofs.path_reading.read_paths.Goals as goal

pub returns-in_ok-upward-in-Three-clause-lead : goal.returns-in_ok-upward-in-Three-clause-lead
returns-in_ok-upward-in-Three-clause-lead c =
    let last = last_line_of c.args.text.now in
    let across = c.in_ok-across-in-Three in
    let upward = c.in_ok-upward-in-Three in
    let mid = numbered_rest c.read_axis.new.scan in
    and_from (list_all leads across.across) (list_all leads upward.upward)
    (axis-leads last (codes "across") (numbered_rest c.args.scan.now) (across.across, mid) across.ensures.paths)
    (axis-leads last (codes "upward") mid (upward.upward, numbered_rest c.read_axis-in-Three.new.scan) upward.ensures.paths)

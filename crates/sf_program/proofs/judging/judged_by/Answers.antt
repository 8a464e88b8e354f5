use Rattle.std.proofs.Common.{[], Err, ap}
use Rattle.sf_program.proofs.Common.{block_count, cert_read}
use Rattle.sf_program.proofs.Pieces.{cert-stops}
use Rattle.sf_program.proofs.judging.judged_by.Goals as goal

pub returns-in-Ok-clause-answer : goal.returns-in-Ok-clause-answer
returns-in-Ok-clause-answer g c =
    let design = c.args.design.now in
    c.in-Ok.ensures.answer design (g.B.Values.value c.args.bounds.now design) (g.B.Bounds.part_value c.args.bounds.now design) c.args.text.now (c.in_ok-feed_text.ensures design (g.B.Values.value c.args.bounds.now design) (g.B.Bounds.part_value c.args.bounds.now design) [] c.in_ok-checking.ensures)

pub returns-in_ok-cert_fault-in-Err-Text-clause-refused : goal.returns-in_ok-cert_fault-in-Err-Text-clause-refused
returns-in_ok-cert_fault-in-Err-Text-clause-refused g c =
    let design = c.args.design.now in
    let text = c.args.text.now in
    let fed = c.in_ok-feed_text.ensures design (g.B.Values.value c.args.bounds.now design) (g.B.Bounds.part_value c.args.bounds.now design) [] c.in_ok-checking.ensures in
    cert-stops (cert_read (block_count design) text) c.in-Err-Text.fault c.in_ok-cert_fault-in-Err-Text.field-0
    (c.in-Err-Text.ensures.fault design (g.B.Values.value c.args.bounds.now design) (g.B.Bounds.part_value c.args.bounds.now design) text c.in-Err-Text.fault fed (ap Err c.in-Err-Text.field-0-is)) c.in_ok-cert_fault-in-Err-Text.ensures.refused

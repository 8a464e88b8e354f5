use Rattle.std.proofs.Common.{◌∙◌, ap, sym}
use Rattle.sf_cert_text.proofs.Common.{err_from_is_err_and, Bytewise, bytes_on, past_blank, with_some}
use Rattle.sf_cert_text.proofs.ByteReads.{none-before, piece-tag, piece-fault}
use Rattle.sf_cert_text.proofs.bytes.ByteReader.take.Goals as goal

pub keep_run-requires : goal.keep_run-requires
keep_run-requires c = none-before c.args.piece.now c.split_at.result.0.now c.run_at_front-bytes.result c.run_at_front-bytes.ensures.value c.split_at.ensures.front

pub end_run-requires-clause-run : goal.end_run-requires-clause-run
end_run-requires-clause-run c = none-before c.args.piece.now c.split_at.result.0.now c.run_at_front-bytes.result c.run_at_front-bytes.ensures.value c.split_at.ensures.front

pub returns-in_err-tag-clause-fault : goal.returns-in_err-tag-clause-fault
returns-in_err-tag-clause-fault c =
    let p = err_from_is_err_and c.from_residual-in_err-tag.result c.from_residual-in_err-tag.ensures.1 in
    let s = c.split_at in
    rw (p.1, p.2) (λ ne. piece-fault c.args.piece.now s.result.0.now s.result.1.now c.run_at_front-bytes.result c.in-Some.blank.now c.run_at_front-bytes.ensures.value s.ensures.front s.ensures.back c.in-Some.ensures.value
    c.args.blocks c.args.self.now c.in_err-tag.field-0.0 (c.in_err-tag.ensures.fault ne))

pub returns-clause-tag : goal.returns-clause-tag
returns-clause-tag c rest =
    let s = c.split_at in
    let at = c.self.inside in
    let tag = c.in_ok-tag.tag in
    piece-tag c.args.piece.now s.result.0.now s.result.1.now c.run_at_front-bytes.result c.in-Some.blank.now c.run_at_front-bytes.ensures.value s.ensures.front s.ensures.back c.in-Some.ensures.value
    c.args.blocks c.args.self.now c.end_run.new.self tag c.in_ok-tag.ensures.tag rest
    ∙ ap (λ (new : Bytewise). with_some tag (bytes_on c.args.blocks (past_blank c.in-Some.blank.now new) rest)) (sym c.self.view_is)
    ∙ ap (λ l. with_some tag (bytes_on c.args.blocks (record { tree = at.tree; word = at.word.items; line = l; last = at.last }) rest)) (sym c.in_ok-self-inside.ensures.line)

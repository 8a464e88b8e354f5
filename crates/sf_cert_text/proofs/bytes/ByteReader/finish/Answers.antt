use Rattle.std.proofs.Common.{◌≡◌, subst, ◌∙◌, [], Ok, Err}
use Rattle.sf_cert_text.proofs.Common.{err_from_is_err_and, Bytewise, read_on}
use Rattle.sf_cert_text.proofs.ByteReads.{end-tag, end-fault, some-fault}
use Rattle.sf_cert_text.proofs.bytes.ByteReader.finish.Goals as goal

pub returns-in_err-tag-clause-fault : goal.returns-in_err-tag-clause-fault
returns-in_err-tag-clause-fault c =
    let p = err_from_is_err_and c.from_residual.result c.from_residual.ensures.1 in
    rw (p.1, p.2) (λ ne. end-fault c.args.blocks c.args.self c.end_word.ensures.solid _ (c.in_err-tag.ensures.fault ne))

pub returns-in_err-finish-clause-fault : goal.returns-in_err-finish-clause-fault
returns-in_err-finish-clause-fault c =
    let p = err_from_is_err_and c.from_residual-in_err-finish.result c.from_residual-in_err-finish.ensures.1 in
    let e = c.in_err-finish.field-0.0 in
    let last : read_on c.args.blocks c.end_word.new.self.last c.end_word.new.self.tree [] ≡ Err e =
    subst (λ (at : Bytewise). read_on c.args.blocks at.last at.tree [] ≡ Err e) c.self.view_is (c.in_err-finish.ensures.fault c.args.blocks) in
    rw (p.1, p.2) (λ ne. end-tag c.args.blocks c.args.self c.end_word.ensures.solid c.end_word.new.self c.in_ok-tag.tag (Err e) c.in_ok-tag.ensures.tag c.in_ok-tag.ensures.kept last ∙ some-fault c.in_ok-tag.tag e)

pub returns-clause-tag : goal.returns-clause-tag
returns-clause-tag c =
    let last : read_on c.args.blocks c.end_word.new.self.last c.end_word.new.self.tree [] ≡ Ok [] =
    subst (λ (at : Bytewise). read_on c.args.blocks at.last at.tree [] ≡ Ok []) c.self.view_is (c.in_ok-finish.ensures.ok c.args.blocks) in
    end-tag c.args.blocks c.args.self c.end_word.ensures.solid c.end_word.new.self c.in_ok-tag.tag (Ok []) c.in_ok-tag.ensures.tag c.in_ok-tag.ensures.kept last

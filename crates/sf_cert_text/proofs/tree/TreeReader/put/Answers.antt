use Rattle.std.proofs.Common.{ap, sym, ◌∙◌, arith}
use Rattle.sf_cert_text.proofs.Common.{err_from_is_err_and}
use Rattle.sf_cert_text.proofs.TreeReads.{put-trailing, put-fault, put-deep, put-tag}
use Rattle.sf_cert_text.proofs.tree.TreeReader.put.Goals as goal

pub returns-in_default-clause-fault : goal.returns-in_default-clause-fault
returns-in_default-clause-fault c = λ ne. put-trailing c.args.blocks c.args.self.now.places c.args.said.line c.args.said.tag (ap (λ r. r.places) (sym c.self.view_is) ∙ c.in_default.ensures.places)

pub returns-in_err-tag-clause-fault : goal.returns-in_err-tag-clause-fault
returns-in_err-tag-clause-fault c =
    let p = err_from_is_err_and c.from_residual.result c.from_residual.ensures.1 in
    rw (p.1, p.2) (λ ne. put-fault c.args.blocks c.args.self.now.places c.args.said.line c.args.said.tag c.in-Some.place c.take.new.self (ap (λ r. r.places) (sym c.self.view_is) ∙ c.in-Some.ensures.places) c.in_err-tag.field-0.0 c.in_err-tag.was)

pub returns-then-place-ge-TOO_DEEP-clause-fault : goal.returns-then-place-ge-TOO_DEEP-clause-fault
returns-then-place-ge-TOO_DEEP-clause-fault c = λ ne.
    put-deep c.args.blocks c.args.self.now.places c.args.said.line c.args.said.tag c.in-Some.place c.take.new.self (ap (λ r. r.places) (sym c.self.view_is) ∙ c.in-Some.ensures.places) c.in_ok-tag.tag c.in_ok-tag.was c.if-place-ge-TOO_DEEP.true

pub returns-clause-tag : goal.returns-clause-tag
returns-clause-tag c =
    put-tag c.args.blocks c.args.self.now.places c.args.said.line c.args.said.tag c.in-Some.place c.take.new.self (ap (λ r. r.places) (sym c.self.view_is) ∙ c.in-Some.ensures.places) c.in_ok-tag.tag c.put.new.self c.in_ok-tag.was (omega (arith, c.if-place-ge-TOO_DEEP.false)) c.in_ok-put.ensures

use Rattle.sf_program.proofs.Common.{stored_in}
use Rattle.sf_program.proofs.Pieces.{stored-anew}
use Rattle.sf_program.proofs.rewriting.stored_anew.Goals as goal

pub returns : goal.returns
returns c =
    stored-anew c.args.bounds c.args.design.now c.args.cert c.in_ok-cert.cert c.args.name.now c.in_ok-cert.ensures.alike c.in_ok-cert.ensures.named c.in_ok-cert.ensures.valid (λ all. stored_in all.items) c.stored_cert.result c.stored_cert.ensures

use Rattle.std.proofs.Common.{Some}
use Rattle.sf_program.proofs.Common.{stored_in}
use Rattle.sf_program.proofs.Pieces.{told-cert}
use Rattle.sf_program.proofs.rewriting.rewrite_cert.Goals as goal

pub returns : goal.returns
returns c =
    told-cert c.args.bounds c.args.design.now c.args.cert (Some c.args.name.now) c.in_ok-answer.answer (stored_in c.in_ok-stores.stores.items) c.in_ok-answer.ensures.answer (c.in_ok-stores.ensures c.args.design.now c.in_ok-answer.ensures.takes)
    c.answer_work.result c.answer_work.ensures.status c.answer_work.ensures.stores c.answer_work.ensures.text

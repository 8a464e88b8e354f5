use Rattle.std.proofs.Common.{ap, sym, ◌∙◌}
use Rattle.sf_checker.proofs.Common.{cert_read}
use Rattle.sf_checker.proofs.stage.answer_whole.Goals as goal

pub returns-clause-answer : goal.returns-clause-answer
returns-clause-answer g c =
    record {
      cert = c.in_ok-cert.cert;
      reads = ap (λ n. cert_read n c.args.text.now) (sym c.block_count.ensures) ∙ c.in_ok-cert.ensures.ok;
      answered = c.in_ok-answer.ensures.answer;
    }

use Rattle.std.proofs.Common.{refl, sym, ◌∙◌}
use Rattle.sf_program.proofs.Common.{turns, opening, chosen_part, chosen_value}
use Rattle.sf_program.proofs.ChosenLaws.{chosen-parts}
use Rattle.sf_program.proofs.OneAnswer.{words-done, words-one, words-refused}
use Rattle.sf_program.proofs.OneChecked.{HasOneName, one-name}
use Rattle.sf_program.proofs.OneSearched.{HasOneCert}
use Rattle.sf_program.proofs.laws.answers_are_one.Goals as goal

pub returns : goal.returns
returns c =
    let certs : HasOneCert = λ bounds design budget first second p q. c.certificates_are_one.ensures design (chosen_value bounds design) (chosen_part bounds design) (turns design (chosen_value bounds design) budget (opening design (chosen_value bounds design) 1)) first second (chosen-parts bounds design) p.valid q.valid (p.blocks ∙ sym q.blocks) (p.run refl refl) (q.run refl refl) p.named q.named in
    let names : HasOneName = one-name (λ bounds design tags cost tree. c.full_parts_close.ensures design (chosen_value bounds design) (chosen_part bounds design) cost tags (chosen-parts bounds design) tree) (λ bounds design cost first second. c.first_parts_are_one.ensures design (chosen_part bounds design) cost first second) in
    record {
      answer = λ words contents. words-one contents certs names words;
      refusal = λ words contents. words-refused contents words;
      done = λ words contents. words-done contents certs names words;
    }

use Rattle.sf_program.proofs.Complete.{words-end, words-keep}
use Rattle.sf_program.proofs.laws.taken_texts_are_answered.Goals as goal

pub returns : goal.returns
returns c = record { loaded = λ words contents. words-keep contents words; answered = λ words contents. words-end contents words }

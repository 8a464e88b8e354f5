use Rattle.std.proofs.Common.{ap, ◌∙◌}
use Rattle.sf_gen.proofs.Common.{pcg32, word}
use Rattle.sf_gen.proofs.Generator.{one_more}
use Rattle.sf_gen.proofs.drawn.draw.Goals as goal

pub returns-clause-word : goal.returns-clause-word
unfolding word
returns-clause-word c = λ seed k h. ap (λ p. p.0) c.next_word.ensures ∙ ap (λ g. (pcg32 g).0) h

pub returns-clause-moved : goal.returns-clause-moved
returns-clause-moved c = λ seed k h. ap (λ p. p.1) c.next_word.ensures ∙ ap (λ g. (pcg32 g).1) h ∙ one_more seed k

use Rattle.std.proofs.Common.{ap, sym, ◌∙◌}
use Rattle.sf_cert_text.proofs.TreeReads.{read-done, read-trailing, read-cut}
use Rattle.sf_cert_text.proofs.tree.TreeReader.finish.Goals as goal

pub returns-in-None-None-clause-ok : goal.returns-in-None-None-clause-ok
returns-in-None-None-clause-ok c blocks = read-done blocks c.args.last c.args.self (ap (λ r. r.places) (sym c.self.view_is) ∙ c.in-None-None.ensures.places) (ap (λ r. r.half) (sym c.self.view_is) ∙ c.in-None-None.is-1)

pub returns-in-None-Some-clause-fault : goal.returns-in-None-Some-clause-fault
returns-in-None-Some-clause-fault c blocks = read-trailing blocks c.args.last c.args.self c.in-None-Some.half (ap (λ r. r.places) (sym c.self.view_is) ∙ c.in-None-Some.ensures.places) (ap (λ r. r.half) (sym c.self.view_is) ∙ c.in-None-Some.is-1)

pub returns-clause-fault : goal.returns-clause-fault
returns-clause-fault c blocks = read-cut blocks c.args.last c.args.self c.in-Some-default.field-0-0 c.take.new.self (ap (λ r. r.places) (sym c.self.view_is) ∙ c.in-Some-default.ensures.places)

use Rattle.std.proofs.Common.{inl, inr, subst}
use Rattle.sf_program.proofs.Common.{IsGood}
use Rattle.sf_program.proofs.chosen.resume_chosen.Goals as goal

pub resume-requires-clause-valid : goal.resume-requires-clause-valid
resume-requires-clause-valid g c κs within =
    elim c.in-Standard.is [
      | inl e ↦ subst (λ b. IsGood b c.args.design.now c.args.cert) e c.requires.good
      | inr e ↦ subst (λ b. IsGood b c.args.design.now c.args.cert) e c.requires.good
    ]

pub returns-in-Standard : goal.returns-in-Standard
returns-in-Standard g c = elim c.in-Standard.is [ inl e ↦ rw e c.resume.ensures.resumed | inr e ↦ rw e c.resume.ensures.resumed ]

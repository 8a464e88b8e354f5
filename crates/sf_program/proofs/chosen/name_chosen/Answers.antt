use Rattle.std.proofs.Common.{inl, inr, subst}
use Rattle.sf_program.proofs.Common.{IsGood}
use Rattle.sf_program.proofs.chosen.name_chosen.Goals as goal

pub name_parts-requires-clause-valid : goal.name_parts-requires-clause-valid
name_parts-requires-clause-valid c κs =
    elim c.in-Standard.is [
      | inl e ↦ subst (λ b. IsGood b c.args.design.now c.args.cert) e c.requires.valid
      | inr e ↦ subst (λ b. IsGood b c.args.design.now c.args.cert) e c.requires.valid
    ]

use Rattle.std.proofs.Common.{inl, refl, ap, ◌∙◌}
use Rattle.sf_designs.proofs.Common.{BadInput, refused}
use Rattle.sf_designs.proofs.refusals.bare_fault.Goals as goal

pub returns : goal.returns
returns c = (inl refl, ap (refused BadInput) (ap (λ v. v.items) c.into_bytes.ensures.value ∙ c.in_ok-text.ensures.ok))

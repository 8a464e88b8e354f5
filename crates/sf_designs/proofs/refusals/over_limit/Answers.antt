use Rattle.std.proofs.Common.{inr, refl, ap, ◌∙◌}
use Rattle.sf_designs.proofs.Common.{OverLimit, refused}
use Rattle.sf_designs.proofs.refusals.over_limit.Goals as goal

pub returns : goal.returns
returns c = (inr refl, ap (refused OverLimit) (ap (λ v. v.items) c.into_bytes.ensures.value ∙ c.in_ok-text.ensures.ok))

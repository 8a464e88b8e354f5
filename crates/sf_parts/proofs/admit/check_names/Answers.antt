use Rattle.std.proofs.Common.{subst}
use Rattle.sf_parts.proofs.Common.{IsFirstOf, name_faults, Parts}
use Rattle.sf_parts.proofs.admit.check_names.Goals as goal

pub returns : goal.returns
returns c = let P : Parts → Type 0 = λ parts. IsFirstOf (name_faults parts) c.check_index.result in subst P c.in_ok-index.ensures c.check_index.ensures

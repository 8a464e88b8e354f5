use Rattle.sf_bound_kit.proofs.Closing.{kit-valid, both-valid}
use Rattle.sf_bound_kit.proofs.laws.kits_close_more.Goals as goal

pub returns-clause-kit : goal.returns-clause-kit
returns-clause-kit c = kit-valid

pub returns-clause-both : goal.returns-clause-both
returns-clause-both c = both-valid

use Rattle.sf_place.proofs.OneVerdict.{one-verdict}
use Rattle.sf_place.proofs.laws.verdicts_are_one.Goals as goal

pub returns : goal.returns
returns c = λ design spots v w numbered. one-verdict design spots numbered v w

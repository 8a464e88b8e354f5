use Rattle.sf_gsrc.proofs.Numbered.{refusal_same}
use Rattle.sf_gsrc.proofs.laws.numbers_change_no_fault.Goals as goal

pub returns : goal.returns
returns c = refusal_same

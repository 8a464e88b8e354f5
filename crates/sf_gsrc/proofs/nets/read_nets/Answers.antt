use Rattle.sf_gsrc.proofs.Common.{NetsStandFor}
use Rattle.sf_gsrc.proofs.Results.{holds_if_read}
use Rattle.sf_gsrc.proofs.NetLaws.{stands_from_read, read_from_stands}
use Rattle.sf_gsrc.proofs.nets.read_nets.Goals as goal

pub returns-clause-stands : goal.returns-clause-stands
returns-clause-stands c = holds_if_read (NetsStandFor c.args.text.now) c.read_exactly.result _ (stands_from_read c.args.text.now) c.read_exactly.ensures

pub returns-clause-only : goal.returns-clause-only
returns-clause-only c = λ out stands. rw (read_from_stands c.args.text.now out stands) at c.read_exactly.ensures

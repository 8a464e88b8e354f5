use Rattle.sf_known.proofs.Taken.{as-it-was}
use Rattle.sf_known.proofs.routing.find_routes.Goals as goal

pub returns-in-Standard : goal.returns-in-Standard
returns-in-Standard c = as-it-was c.args.bounds c.args.design

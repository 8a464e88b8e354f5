use Rattle.std.proofs.Common.{subst, sym}
use Rattle.sf_anneal.proofs.Common.{AreBlockCurves}
use Rattle.sf_anneal.proofs.keeping.Kept.cost_of_moved.Goals as goal

pub renew-requires-clause-curves : goal.renew-requires-clause-curves
renew-requires-clause-curves c = subst (AreBlockCurves c.args.design.now) (sym c.deref.ensures.value) c.requires.curves

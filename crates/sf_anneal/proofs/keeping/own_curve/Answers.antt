use Rattle.std.proofs.Common.{subst, sym}
use Rattle.sf_anneal.proofs.Common.{AreSpans}
use Rattle.sf_anneal.proofs.Spans.{whole-are}
use Rattle.sf_anneal.proofs.keeping.own_curve.Goals as goal

pub block_curve-requires-clause-spans : goal.block_curve-requires-clause-spans
block_curve-requires-clause-spans c = subst (AreSpans c.args.design.now) (sym c.requires.whole) (whole-are c.args.design.now)

use Rattle.sf_curves.proofs.Joints.{rooms_fit, rooms_small}
use Rattle.sf_curves.specs.declared.direction.Direction.TheVariants as way
use Rattle.sf_curves.proofs.tracing.above_points.Goals as goal

pub lowest_point-requires : goal.lowest_point-requires
lowest_point-requires c = (rooms_fit way.Above c.args.lower.now c.args.upper.now c.args.curve.now c.args.point c.requires.joined c.requires.on_curve).0

pub lowest_point-requires-2 : goal.lowest_point-requires-2
lowest_point-requires-2 c = (rooms_fit way.Above c.args.lower.now c.args.upper.now c.args.curve.now c.args.point c.requires.joined c.requires.on_curve).1

pub returns-clause-small : goal.returns-clause-small
returns-clause-small c x y h k = rooms_small way.Above c.args.lower.now c.args.upper.now c.args.curve.now c.args.point c.lowest_point.result c.lowest_point-2.result x y c.requires.joined c.requires.on_curve c.lowest_point.ensures.lowest c.lowest_point-2.ensures.lowest h k

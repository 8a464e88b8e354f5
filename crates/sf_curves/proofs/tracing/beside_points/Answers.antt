use Rattle.sf_curves.proofs.Joints.{rooms_fit, rooms_small}
use Rattle.sf_curves.specs.declared.direction.Direction.TheVariants as way
use Rattle.sf_curves.proofs.tracing.beside_points.Goals as goal

pub narrowest_point-requires : goal.narrowest_point-requires
narrowest_point-requires c = (rooms_fit way.Beside c.args.left.now c.args.right.now c.args.curve.now c.args.point c.requires.joined c.requires.on_curve).0

pub narrowest_point-requires-2 : goal.narrowest_point-requires-2
narrowest_point-requires-2 c = (rooms_fit way.Beside c.args.left.now c.args.right.now c.args.curve.now c.args.point c.requires.joined c.requires.on_curve).1

pub returns-clause-small : goal.returns-clause-small
returns-clause-small c x y h k = rooms_small way.Beside c.args.left.now c.args.right.now c.args.curve.now c.args.point c.narrowest_point.result c.narrowest_point-2.result x y c.requires.joined c.requires.on_curve c.narrowest_point.ensures.narrowest c.narrowest_point-2.ensures.narrowest h k

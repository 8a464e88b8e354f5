use Rattle.std.proofs.Common.{◌+◌, ◌<◌, length, ap, arith}
use Rattle.sf_model.proofs.Common.{sum_by_more, sum_by-take-le, place_on, pull}
use Rattle.sf_model.proofs.Used.{pulled-small}
use Rattle.sf_model.proofs.routing.pulled.Goals as goal

pub overflow_add-sum : goal.overflow_add-sum
overflow_add-sum c =
    let d = c.args.design.now in
    let f = pull (place_on c.args.axis d.pads) in
    let i = c.loop-path.path-index in
    let path = c.path-item.result in
    let lt : i < length c.args.paths.now = omega (arith, c.loop-path-test.true) in
    omega (
      arith,
      c.loop-path.invariant,
      c.pull-sum.ensures,
      ap f c.path-item.is,
      sum_by_more f c.args.paths.now i path lt,
      sum_by-take-le f c.args.paths.now (i + 1),
      pulled-small c.args.axis d.pads d.nets c.args.paths.now c.requires d.limits.places d.limits.net_weights d.limits.few_nets,
    )

pub returns-clause-small : goal.returns-clause-small
returns-clause-small c =
    let d = c.args.design.now in
    let f = pull (place_on c.args.axis d.pads) in
    omega (
      arith,
      c.loop-path.invariant,
      sum_by-take-le f c.args.paths.now c.loop-path.path-index,
      pulled-small c.args.axis d.pads d.nets c.args.paths.now c.requires d.limits.places d.limits.net_weights d.limits.few_nets,
    )

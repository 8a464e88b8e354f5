use Rattle.std.proofs.Common.{arith, refl}
use Rattle.sf_wire.proofs.Products.{small}
use Rattle.sf_wire.proofs.costs.spots_cost.Goals as goal

pub overflow_mul-area : goal.overflow_mul-area
overflow_mul-area c =
    let s = small c.args.design.now c.args.spots.now c.from.result c.spots_size-width.result.0 c.spots_size-width.result.1 c.args.design.now.weights.wire 0 c.requires.inside c.from.ensures c.spots_size-width.ensures.right c.spots_size-width.ensures.upper refl (omega arith) in
    let b = s.size in omega (arith, b)

pub overflow_mul-area-2 : goal.overflow_mul-area-2
overflow_mul-area-2 c =
    let s = small c.args.design.now c.args.spots.now c.from.result c.spots_size-width.result.0 c.spots_size-width.result.1 c.args.design.now.weights.wire 0 c.requires.inside c.from.ensures c.spots_size-width.ensures.right c.spots_size-width.ensures.upper refl (omega arith) in
    let b = s.areas in omega (arith, b)

pub overflow_add-result : goal.overflow_add-result
overflow_add-result c =
    let s = small c.args.design.now c.args.spots.now c.from.result c.spots_size-width.result.0 c.spots_size-width.result.1 c.from-2.result c.wire.result c.requires.inside c.from.ensures c.spots_size-width.ensures.right c.spots_size-width.ensures.upper c.from-2.ensures c.wire.ensures.bounded in
    let a = s.areas in let b = s.wires in omega (arith, a, b)

pub returns-clause-bounded : goal.returns-clause-bounded
returns-clause-bounded c =
    let s = small c.args.design.now c.args.spots.now c.from.result c.spots_size-width.result.0 c.spots_size-width.result.1 c.from-2.result c.wire.result c.requires.inside c.from.ensures c.spots_size-width.ensures.right c.spots_size-width.ensures.upper c.from-2.ensures c.wire.ensures.bounded in
    let a = s.areas in let b = s.wires in omega (arith, a, b)

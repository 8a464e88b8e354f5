use Rattle.std.proofs.Common.{◌-◌, ◌∙◌, set, ap, arith}
use Rattle.sf_curves.specs.declared.direction.Direction.TheVariants as way
use Rattle.sf_anneal.proofs.Laying.{laid-block, laid-joined}
use Rattle.sf_anneal.proofs.keeping.Kept.+place.Goals as goal

pub returns-in-Block : goal.returns-in-Block
returns-in-Block t c design h =
    laid-block design _ _ _ _ h (omega arith) c.args.part (c.args.part - 1) c.in-Block.block c.args.size c.args.x c.args.y c.args.spots.now _
    (omega (arith, c.requires.some)) (omega (arith, c.requires.some, c.requires.inside)) c.in-Block.is c.requires.on_curve
    (ap (λ v. set c.args.spots.now v c.spot_at.result) c.from.ensures ∙ ap (set c.args.spots.now c.in-Block.block) c.spot_at.ensures)

pub returns-in-Beside : goal.returns-in-Beside
returns-in-Beside t c design h =
    let r = c.rooms_beside-rooms in
    laid-joined design _ _ _ _ h (omega arith) way.Beside c.args.part r.result.left (c.args.part - 1) c.args.size r.result.first r.result.second c.args.x c.args.y c.args.spots.now c.place.new.spots _
    (omega (arith, c.requires.some)) r.ensures.left (omega (arith, c.requires.some, c.requires.inside)) c.in-Beside.is c.requires.on_curve
    r.ensures.first r.ensures.second (c.place.ensures design h) (c.place-in-Beside.ensures design h)

pub returns-in-Above : goal.returns-in-Above
returns-in-Above t c design h =
    let r = c.rooms_above-rooms in
    laid-joined design _ _ _ _ h (omega arith) way.Above c.args.part r.result.left (c.args.part - 1) c.args.size r.result.first r.result.second c.args.x c.args.y c.args.spots.now c.place-in-Above.new.spots _
    (omega (arith, c.requires.some)) r.ensures.left (omega (arith, c.requires.some, c.requires.inside)) c.in-Above.is c.requires.on_curve
    r.ensures.first r.ensures.second (c.place-in-Above.ensures design h) (c.place-in-Above-2.ensures design h)

use Rattle.std.proofs.Common.{◌*◌, length, ap, sym, subst, ◌∙◌, arith, All}
use Rattle.sf_bounds.proofs.Common.{All-push, net_part, Cell, IsNet, IsFitCell, pads_share, start_cell}
use Rattle.sf_bounds.proofs.NetStarted.{counted-net, start-fits, start-cell, put-cell}
use Rattle.sf_bounds.proofs.Weights.{one-counts}
use Rattle.sf_bounds.proofs.net_start.push_net.Goals as goal

pub pads_share-reach-requires : goal.pads_share-reach-requires
pads_share-reach-requires c =
    let D = c.args.design.now in
    subst (IsNet D) (sym c.counted.ensures) (counted-net D c.args.net.now.pins c.requires.inside)

pub returns-clause-fit : goal.returns-clause-fit
returns-clause-fit c =
    let D = c.args.design.now in
    let net = c.args.net.now in
    let shared = c.pads_share-reach.ensures ∙ ap (pads_share D) c.counted.ensures in
    let cell : Cell = record { reach = c.pads_share-reach.result; part = c.net_by-part.result; hull = 0 } in
    subst (All IsFitCell) (sym c.in_ok-push.ensures.items)
    (All-push IsFitCell c.args.cells.now.items cell c.requires.fit (start-fits D net c.net_by-part.result c.pads_share-reach.result c.requires.inside c.net_by-part.ensures.small shared))

pub returns-clause-row : goal.returns-clause-row
returns-clause-row c =
    let D = c.args.design.now in
    let net = c.args.net.now in
    let shared = c.pads_share-reach.ensures ∙ ap (pads_share D) c.counted.ensures in
    let part = c.net_by-part.ensures.is ∙ ap (λ n. net_part D n net) c.requires.root in
    let cell : Cell = record { reach = c.pads_share-reach.result; part = c.net_by-part.result; hull = 0 } in
    put-cell (start_cell D) c.args.cells.now.items c.push.new.self.items net cell (omega (arith, c.if-net-eq0.false))
    (start-cell D net c.net_by-part.result c.pads_share-reach.result shared part) c.in_ok-push.ensures.items

pub returns-clause-part : goal.returns-clause-part
returns-clause-part c =
    let D = c.args.design.now in
    let net = c.args.net.now in
    c.weighed.ensures.is ∙ ap (λ v. net.weight * v) (c.net_by-part.ensures.is ∙ ap (λ n. net_part D n net) c.requires.root)

pub returns-clause-small : goal.returns-clause-small
returns-clause-small c = omega (arith, c.weighed.ensures.small, ap length (one-counts c.args.net.now (omega (arith, c.if-net-eq0.false))))

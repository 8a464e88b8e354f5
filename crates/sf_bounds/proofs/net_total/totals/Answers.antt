use Rattle.std.proofs.Common.{◌≡◌, length, ap, subst, ◌∙◌, arith}
use Rattle.sf_bounds.proofs.Common.{IsEnding, framed}
use Rattle.sf_bounds.proofs.NetTotal.{open-total, open-hulls}
use Rattle.sf_bounds.proofs.net_total.totals.Goals as goal

pub returns-in-Open-clause-sum : goal.returns-in-Open-clause-sum
returns-in-Open-clause-sum c =
    let all : length c.args.nets.now.frames.items ≡ length c.args.node.now.tokens = c.requires.all ∙ ap (λ e. framed e c.args.node.now.tokens) c.in-Open.is in
    open-total c.args.design.now c.args.node.now c.args.nets.now.cells.items c.wires_after-wires.result c.len.result c.requires.subproblem c.requires.whole (omega (arith, c.len.ensures, all)) (subst (IsEnding c.args.node.now) c.in-Open.is c.requires.ending) c.wires_after-wires.ensures

pub returns-in-Open-clause-hull : goal.returns-in-Open-clause-hull
returns-in-Open-clause-hull c =
    let all : length c.args.nets.now.frames.items ≡ length c.args.node.now.tokens = c.requires.all ∙ ap (λ e. framed e c.args.node.now.tokens) c.in-Open.is in
    open-hulls c.args.design.now c.args.node.now c.args.nets.now.cells.items c.wires_after-wires.result c.len.result c.requires.subproblem c.requires.whole (omega (arith, c.len.ensures, all)) (subst (IsEnding c.args.node.now) c.in-Open.is c.requires.ending) c.wires_after-wires.ensures

pub open_rest-requires-clause-ending : goal.open_rest-requires-clause-ending
open_rest-requires-clause-ending c = subst (IsEnding c.args.node.now) c.in-Open.is c.requires.ending

pub open_rest-requires-clause-all : goal.open_rest-requires-clause-all
open_rest-requires-clause-all c = c.requires.all ∙ ap (λ e. framed e c.args.node.now.tokens) c.in-Open.is

use Rattle.std.proofs.Common.{sym, subst}
use Rattle.sf_checker.proofs.Common.{IsFed}
use Rattle.sf_checker.proofs.Fed.{fed-more, ready-way}
use Rattle.sf_checker.proofs.pieces.Checking.feed.Goals as goal

pub returns-clause-fed : goal.returns-clause-fed
returns-clause-fed g c design bound part text fed =
    let inside = c.self.inside in
    fed-more g.B.Values.value g.B.Bounds.part_value design bound part inside.design.now inside.bounds.now text c.args.piece.now inside.stage c.feed.new.self c.feed.result
    (subst (IsFed g.B.Values.value g.B.Bounds.part_value design bound part text) (sym c.self.view_is) fed) c.feed.ensures.fed

pub invariant_of-self : goal.invariant_of-self
invariant_of-self g c =
    let inside = c.self.inside in
    (record { ready = c.feed.ensures.ready; way = ready-way inside.design.now (g.B.Values.value inside.bounds.now inside.design.now) c.feed.new.self c.feed.ensures.ready }, c.feed.ensures.serves)

pub returns-clause-way : goal.returns-clause-way
returns-clause-way g c =
    let inside = c.self.inside in
    ready-way inside.design.now (g.B.Values.value inside.bounds.now inside.design.now) c.feed.new.self c.feed.ensures.ready

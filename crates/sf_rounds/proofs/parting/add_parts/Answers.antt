use Rattle.std.proofs.Common.{subst}
use Rattle.sf_rounds.proofs.Common.{IsCut}
use Rattle.sf_rounds.proofs.Parted.{adding-done, adding-more, adding-whole}
use Rattle.sf_rounds.proofs.parting.add_parts.Goals as goal

pub returns-in-None : goal.returns-in-None
returns-in-None g c =
    let design = c.args.design.now in
    let bound = g.V.Values.value c.args.values.now design in
    let cut = subst (IsCut design bound c.loop-done.rest c.in_ok-first.first) c.in-None.is c.in_ok-first.ensures in
    adding-whole design bound c.args.stretch c.args.parts.now.items c.loop-done.parts.items c.push.new.self.items c.loop-done.rest c.in_ok-first.first c.loop-done.invariant cut c.in_ok-push.ensures.items

pub loop-done-preserved : goal.loop-done-preserved
loop-done-preserved g c =
    let design = c.args.design.now in
    let bound = g.V.Values.value c.args.values.now design in
    let cut = subst (IsCut design bound c.loop-done.rest c.in_ok-first.first) c.in-Some.is c.in_ok-first.ensures in
    adding-more design bound c.args.stretch c.args.parts.now.items c.loop-done.parts.items c.push.new.self.items c.loop-done.rest c.in_ok-first.first c.in-Some.other c.loop-done.invariant cut c.in_ok-push.ensures.items

pub returns : goal.returns
returns g c =
    let design = c.args.design.now in
    adding-done design (g.V.Values.value c.args.values.now design) c.args.stretch c.args.parts.now.items c.loop-done.parts.items c.push-2.new.self.items c.loop-done.rest c.loop-done.invariant c.in_ok-push-2.ensures.items

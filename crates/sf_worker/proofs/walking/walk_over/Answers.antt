use Rattle.std.proofs.Common.{◌≡◌, subst, refl, arith}
use Rattle.sf_worker.proofs.Common.{IsWalkedInto}
use Rattle.sf_worker.proofs.Doing.{into-on, over-ended, over-spent}
use Rattle.sf_worker.proofs.walking.walk_over.Goals as goal

pub returns-then-state-eq0-clause-walked : goal.returns-then-state-eq0-clause-walked
returns-then-state-eq0-clause-walked g c =
    let design = c.args.design.now in
    let bound = g.B.Values.value c.args.bounds.now design in
    let part = g.B.Bounds.part_value c.args.bounds.now design in
    let old = c.args.state.now in
    let mid = c.loop-rest.state in
    over-spent design bound part old mid _ c.args.stretch c.in-Some.stretch (subst (IsWalkedInto design bound part c.args.stretch old mid) c.in-Some.is c.loop-rest.invariant.0) refl c.in_ok-push.ensures.items (omega arith)

pub loop-rest-preserved : goal.loop-rest-preserved
loop-rest-preserved g c =
    let design = c.args.design.now in
    let bound = g.B.Values.value c.args.bounds.now design in
    let part = g.B.Bounds.part_value c.args.bounds.now design in
    let old = c.args.state.now in
    let mid = c.loop-rest.state in (
      into-on design bound part old mid c.walk_into-in-Some.new.state c.args.stretch c.in-Some.stretch c.in_ok-rest-2.rest (subst (IsWalkedInto design bound part c.args.stretch old mid) c.in-Some.is c.loop-rest.invariant.0) c.in_ok-rest-2.ensures.walked,
      c.in_ok-rest-2.ensures.serves,
    )

pub returns-clause-walked : goal.returns-clause-walked
returns-clause-walked g c =
    let design = c.args.design.now in
    let bound = g.B.Values.value c.args.bounds.now design in
    let part = g.B.Bounds.part_value c.args.bounds.now design in
    let old = c.args.state.now in
    let mid = c.loop-rest.state in
    over-ended design bound part old mid c.args.stretch (subst (IsWalkedInto design bound part c.args.stretch old mid) c.in_default.is c.loop-rest.invariant.0)

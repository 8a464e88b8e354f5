use Rattle.std.proofs.lemmas.Result.{IfOk-weaker}
use Rattle.sf_worker.proofs.Common.{waits, IsPutDown, IsWalkedInto}
use Rattle.sf_worker.proofs.Doing.{walking-start, walking-on, walking-shared, walked-into}
use Rattle.sf_worker.proofs.walking.walk_into.Goals as goal

pub loop-state-init : goal.loop-state-init
loop-state-init g c =
    let design = c.args.design.now in
    let e = c.in_ok-value.ensures in
    (walking-start design (g.B.Values.value c.args.bounds.now design) (g.B.Bounds.part_value c.args.bounds.now design) c.args.state.now c.go.new.state c.args.stretch c.in_ok-hand.hand c.go.new.hand c.in_ok-hand.ensures e.visited e.frame e.quota, e.serves)

pub loop-state-preserved : goal.loop-state-preserved
loop-state-preserved g c =
    let design = c.args.design.now in
    let bound = g.B.Values.value c.args.bounds.now design in
    let part = g.B.Bounds.part_value c.args.bounds.now design in
    let old = c.args.state.now in
    let before = waits design c.args.stretch in
    let node = c.args.stretch.cursor.node in
    let s = c.in_ok-share.ensures in
    let e = c.in_ok-value-2.ensures in (
      walking-on design bound part old c.share.new.state c.go-in-loop-state.new.state before c.share.new.hand c.go-in-loop-state.new.hand node
          (walking-shared design bound part old c.loop-state.state c.share.new.state before c.loop-state.hand c.share.new.hand node c.loop-state.invariant.0 s) s.more e.visited e.frame e.quota,
      e.serves,
    )

pub returns-clause-walked : goal.returns-clause-walked
returns-clause-walked g c =
    let design = c.args.design.now in
    let bound = g.B.Values.value c.args.bounds.now design in
    let part = g.B.Bounds.part_value c.args.bounds.now design in
    let old = c.args.state.now in
    let new = c.put_down.new.state in
    IfOk-weaker c.put_down.result (IsPutDown c.loop-state.state c.loop-state.hand new) (IsWalkedInto design bound part c.args.stretch old new)
    (λ rest p. walked-into design bound part old c.loop-state.state new c.args.stretch c.loop-state.hand rest c.loop-state.invariant.0 p) c.put_down.ensures

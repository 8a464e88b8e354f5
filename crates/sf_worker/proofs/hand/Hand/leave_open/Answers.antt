use Rattle.std.proofs.Common.{◌≡◌, ap, sym, subst, ◌∙◌, true}
use Rattle.sf_worker.proofs.Common.{HandView}
use Rattle.sf_worker.proofs.Hands.{opened-low, opened-marks}
use Rattle.sf_worker.proofs.hand.Hand.leave_open.Goals.{in-None+in_ok-value-in-None, in-Some+in_ok-value-in-Some}
use Rattle.sf_worker.proofs.hand.Hand.leave_open.Goals as goal

pub loop-self-preserved : goal.loop-self-preserved
loop-self-preserved g c =
    let design = c.args.design.now in
    let bound = g.B.Values.value c.args.bounds.now design in
    let old = c.loop-self.self in
    let new = c.follow.new.self in
    let i = c.loop-self.invariant in
    let f = c.in_ok-follow.ensures in
    let is = c.self.view_is in
    let at = ap (λ (h : HandView). h.path.node) is in
    let more : old.more ≡ true = ap (λ (h : HandView). h.more) (sym is) ∙ c.loop-self-test.true in
    record {
      hand = f.followed.hand_is;
      marked = opened-marks design bound old new more f.followed ∙ i.marked;
      lowest = opened-low design bound old new more f.followed c.loop-self.low _ c.min-low.result
          (elim c.match-parent_value.branch [
            | in-None+in_ok-value-in-None w ↦ w.value-is ∙ (w.in_ok-value-in-None.ensures.value ∙ ap bound (w.node.ensures ∙ at))
            | in-Some+in_ok-value-in-Some w ↦ w.value-is ∙ (w.in_ok-value-in-Some.ensures.value ∙ ap bound (w.node-in-Some.ensures ∙ at))
          ])
          c.min-low.ensures ∙ i.lowest;
      kept = f.kept ∙ i.kept;
      serves = elim c.match-parent_value.branch [
        | in-None+in_ok-value-in-None w ↦ subst (λ room. g.B.Bounds.serves room design) (sym w.room-is) w.bound.ensures.serves
        | in-Some+in_ok-value-in-Some w ↦ subst (λ room. g.B.Bounds.serves room design) (sym w.room-is) w.child_bound.ensures.serves
      ];
    }

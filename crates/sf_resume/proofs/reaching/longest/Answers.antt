use Rattle.std.proofs.Common.{◌≡◌, min, length, arith, ap, subst, sym, ◌∙◌, Some, unwrap_or}
use Rattle.sf_resume.proofs.Common.{Parts, floor_of}
use Rattle.sf_resume.proofs.Reached.{IsAhead, ahead-more, ahead-one, reach-copy, reach-first, reach-here}
use Rattle.sf_resume.proofs.Readings.{read-from}
use Rattle.sf_resume.proofs.reaching.longest.Goals as goal

pub loop-ahead-init : goal.loop-ahead-init
loop-ahead-init g c =
    let design = c.args.design.now in
    let bound = g.V.Values.value c.args.values.now design in
    let tags = c.args.tags.now in
    let old = c.args.reading.now in
    let new = c.pass.new.self in
    let low = ap length (c.steps-low.ensures ∙ ap (λ (n : Parts). n.steps) c.node.ensures) in
    let depth = ap length (c.steps-depth.ensures ∙ ap (λ (n : Parts). n.steps) c.node-2.ensures) in
    let one = read-from design bound tags old c.in_ok-ahead.ahead new _ c.in_ok-ahead.ensures.at c.in_ok-pass.ensures in
    let floor = c.unwrap_or-floor.ensures ∙ ap (λ o. unwrap_or o (length c.steps-low.result.now)) c.floor_of.ensures ∙ ap (λ n. unwrap_or (floor_of new.more n (length c.steps-low.result.now)) (length c.steps-low.result.now)) depth
    ∙ ap (λ n. unwrap_or (floor_of new.more (length new.cursor.node.steps) n) n) low in
    record {
      ahead = subst (λ n. IsAhead design bound tags old n new) (sym low) (ahead-one design bound tags old new c.requires.reading c.requires.more one);
      reached = reach-copy design bound tags old new c.in_ok-end.end _ (reach-first design bound tags old new _ c.requires.reading c.requires.more one floor) c.in_ok-end.ensures.reading c.in_ok-end.ensures.at;
      behind = omega (arith, c.in_ok-end.ensures.at);
    }

pub loop-ahead-preserved-in_ok-end-2 : goal.loop-ahead-preserved-in_ok-end-2
loop-ahead-preserved-in_ok-end-2 g c =
    let new = c.pass-in-Some-Open.new.self in
    let less = c.min-low.ensures ∙ ap (λ n. min c.loop-ahead.low n) (ap length (c.steps.ensures ∙ ap (λ (n : Parts). n.steps) c.node-in-Some-Open.ensures)) in
    let depth = ap length (c.steps-depth-in-Some-Open.ensures ∙ ap (λ (n : Parts). n.steps) c.node-in-Some-Open-2.ensures) in
    let ahead = ahead-more _ _ _ _ _ _ c.loop-ahead.low c.min-low.result c.loop-ahead.invariant.ahead c.in-Some-Open.ensures.0 c.in_ok-pass-2.ensures less in
    let here : floor_of new.more (length new.cursor.node.steps) c.min-low.result ≡ Some c.in-Some.less = ap (λ n. floor_of new.more n c.min-low.result) (sym depth) ∙ sym c.in-Some.ensures in
    record {
      ahead = ahead;
      reached = reach-copy _ _ _ _ _ c.in_ok-end-2.end _ (reach-here _ _ _ _ new c.min-low.result _ ahead here) c.in_ok-end-2.ensures.reading c.in_ok-end-2.ensures.at;
      behind = omega (arith, c.in_ok-end-2.ensures.at);
    }

pub loop-ahead-preserved : goal.loop-ahead-preserved
loop-ahead-preserved g c =
    let less = c.min-low.ensures ∙ ap (λ n. min c.loop-ahead.low n) (ap length (c.steps.ensures ∙ ap (λ (n : Parts). n.steps) c.node-in-Some-Open.ensures)) in
    record {
      ahead = ahead-more _ _ _ _ _ _ c.loop-ahead.low c.min-low.result c.loop-ahead.invariant.ahead c.in-Some-Open.ensures.0 c.in_ok-pass-2.ensures less;
      reached = c.loop-ahead.invariant.reached;
      behind = omega (arith, c.in_ok-pass-2.ensures.many, c.loop-ahead.invariant.behind);
    }

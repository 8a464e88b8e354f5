use Rattle.std.proofs.Common.{◌≡◌, ap, sym, subst, ◌∙◌, arith, length, true, ◌∷◌, []}
use Rattle.sf_search.proofs.Common.{root, opening, turns, IsRun}
use Rattle.sf_search.proofs.Runs.{run-start, run-next, run-still, count-next, kept-start, kept-next}
use Rattle.sf_search.proofs.one_walk.search_walk.Goals.{else-loop-step-test, then-loop-step-test+then-not-more}
use Rattle.sf_search.proofs.one_walk.search_walk.Goals as goal

pub loop-step-init : goal.loop-step-init
loop-step-init g c =
    let e = c.in_ok-walk.ensures in
    record { run = run-start c.args.design.now (g.B.Values.value c.args.bounds.now c.args.design.now) c.in_ok-walk.walk e.whole e.left e.tags e.word e.best; kept = kept-start (g.B.Bounds.part_value c.args.bounds.now c.args.design.now) (root c.args.design.now ∷ []) c.in_ok-walk.walk.word c.in_ok-walk.walk.hand.tags c.in_ok-walk.walk.hand.kept e.tags e.kept; count = ap length e.tags; serves = c.requires.serves }

pub step-requires-clause-hand : goal.step-requires-clause-hand
step-requires-clause-hand g c κs within = c.loop-step.invariant.run.beside.whole.0

pub step-requires-clause-more : goal.step-requires-clause-more
step-requires-clause-more g c κs within = sym c.more.ensures ∙ c.if-not-more.false

pub loop-step-preserved : goal.loop-step-preserved
loop-step-preserved g c =
    let design = c.args.design.now in
    let bound = g.B.Values.value c.args.bounds.now design in
    let part = g.B.Bounds.part_value c.args.bounds.now design in
    let old = c.loop-step.walk in
    let new = c.step.new.self in
    let more : old.hand.more ≡ true = sym c.more.ensures ∙ c.if-not-more.false in
    let moved = c.in_ok-step.ensures.moved in
    record {
      run = run-next design bound part c.loop-step.step old new moved.0 c.loop-step.invariant.run more moved.1;
      kept = kept-next design bound part (turns design bound c.loop-step.step (opening design bound 1)) old new moved.0 c.loop-step.invariant.run.beside more moved.1 c.loop-step.invariant.kept;
      count = count-next design bound part c.loop-step.step old new moved.0 c.loop-step.invariant.run.beside.whole.0 c.loop-step.invariant.count moved.1;
      serves = c.step.ensures.serves;
    }

pub returns-clause-run : goal.returns-clause-run
returns-clause-run g c =
    let design = c.args.design.now in
    let bound = g.B.Values.value c.args.bounds.now design in
    let run = c.loop-step.invariant.run in
    elim c.loop-step-test.branch [
      | else-loop-step-test w ↦ (let spent : c.loop-step.step ≡ c.args.nodes = omega arith in subst (λ k. IsRun design bound k c.loop-step.walk) spent run)
      | then-loop-step-test+then-not-more w ↦ run-still design bound c.loop-step.step c.args.nodes c.loop-step.walk (omega arith) (sym w.more.ensures ∙ w.if-not-more.true) run
    ]

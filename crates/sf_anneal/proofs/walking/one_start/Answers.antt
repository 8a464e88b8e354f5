use Rattle.std.proofs.Common.{◌≡◌, ◌+◌, ◌-◌, ◌∙◌, length, sym, ap, subst, arith}
use Rattle.std.proofs.lemmas.Result.{IfOk-weaker}
use Rattle.sf_anneal.proofs.Common.{block_count, IsNormal, IsCost, IsMeasure, IsReady, visit_of, IsWalk, Visit, Walks, chain, height, trials}
use Rattle.sf_anneal.proofs.Chains.{chain-normal}
use Rattle.sf_anneal.proofs.KeptParts.{written-long}
use Rattle.sf_anneal.proofs.Walks.{cheaper-one, kept-one, kept-visit, walks-end, walks-step}
use Rattle.sf_anneal.proofs.walking.one_start.Goals as goal

pub begun-requires-clause-normal : goal.begun-requires-clause-normal
begun-requires-clause-normal g c =
    let design = c.args.design.now in
    let n = block_count design in
    let e = c.deref.ensures.value ∙ c.in_ok-tokens.ensures ∙ ap chain c.block_count-blocks.ensures in
    subst (IsNormal n) (sym e) (chain-normal n (omega (arith, design.limits.some_block)))

pub loop-trial-init : goal.loop-trial-init
loop-trial-init g c =
    let design = c.args.design.now in
    let n = block_count design in
    let first = c.in_ok-parts.first in
    let d = c.height-height.result in
    let m = c.args.moves in
    let all = c.trials-trials.result in
    let s = g.R.Rng.stream c.args.words.now in
    let normal = chain-normal n (omega (arith, design.limits.some_block)) in
    let tokens : c.in_ok-tokens.tokens.items ≡ chain n = c.in_ok-tokens.ensures ∙ ap chain c.block_count-blocks.ensures in
    let next : c.in_ok-from_slice.field-0.items ≡ chain n = c.in_ok-from_slice.ensures.items ∙ c.deref-2.ensures.value ∙ tokens in
    let best : c.in_ok-from_slice-2.field-0.items ≡ chain n = c.in_ok-from_slice-2.ensures.items ∙ c.deref-3.ensures.value ∙ tokens in
    let whole : all - 0 ≡ all = omega arith in
    record {
      now = subst (IsNormal n) (sym tokens) normal;
      best = subst (IsNormal n) (sym best) normal;
      long = omega (arith, ap length next, normal.whole);
      spots = written-long c.begun.new.spots c.in_ok-spots.spots.items c.in_ok-spots.spots.len (omega (arith, c.deref_mut.ensures.len, c.begun.auto.spots)) ∙ c.in_ok-spots.ensures.len ∙ c.from.ensures ∙ c.block_count-blocks.ensures;
      costs = subst (λ ts. IsCost design ts first) c.deref.ensures.value c.in_ok-parts.ensures.costs;
      ready = subst (IsReady design c.in_ok-parts.parts) c.deref.ensures.value c.in_ok-parts.ensures.ready;
      walks = λ end h.
          subst (λ k. Walks design d m k s (chain n, first) (chain n, first) end) whole
          (subst (λ ts. Walks design d m (all - 0) s (chain n, first) (ts, first) end) best
          (subst (λ ts. Walks design d m (all - 0) s (ts, first) (c.in_ok-from_slice-2.field-0.items, first) end) tokens h));
    }

pub loop-trial-preserved : goal.loop-trial-preserved
loop-trial-preserved g c =
    let design = c.args.design.now in
    let n = block_count design in
    let l = c.loop-trial in
    let tried = c.in_ok-moved.ensures in
    let next : Visit = visit_of c.try_move.new.next in
    let all = c.trials-trials.result in
    record {
      now = subst (IsNormal n) (sym (ap (λ (v : Visit). v.0) c.settle.ensures.kept)) (kept-one (IsNormal n) c.slack-rise.result (visit_of l.now) next l.invariant.now tried.normal);
      best = subst (IsNormal n) (sym (ap (λ (v : Visit). v.0) c.take_cheaper.ensures)) (cheaper-one (IsNormal n) (visit_of l.best) next l.invariant.best tried.normal);
      long = tried.normal.whole;
      spots = written-long c.try_move.new.spots l.spots.items l.spots.len (omega (arith, c.deref_mut-in-loop-trial.ensures.len, c.try_move.auto.spots)) ∙ sym c.deref_mut-in-loop-trial.ensures.len ∙ ap length c.deref_mut-in-loop-trial.ensures.value ∙ l.invariant.spots;
      costs = subst (λ (v : Visit). IsCost design v.0 v.1) (sym c.settle.ensures.kept) (kept-visit (λ (v : Visit). IsCost design v.0 v.1) c.slack-rise.result (visit_of l.now) next l.invariant.costs tried.costs);
      ready = c.settle.ensures.ready design tried.normal tried.ready tried.found;
      walks = λ end h.
          l.invariant.walks end
          (walks-step design c.height-height.result c.args.moves (all - l.trial) (all - (l.trial + 1)) (g.R.Rng.stream l.words) (visit_of l.now) (visit_of l.best) end next
          (visit_of c.settle.new.now) (visit_of c.take_cheaper.new.best) c.next_u32-kind.result c.next_u32-place.result c.slack-rise.result
          (g.R.Rng.stream c.next_u32-kind.new.self) (g.R.Rng.stream c.next_u32-place.new.self)
          (omega (arith, c.loop-trial-test.true)) c.next_u32-kind.ensures c.next_u32-place.ensures tried.moved tried.costs c.slack-rise.ensures c.settle.ensures.kept c.take_cheaper.ensures h);
    }

pub returns-clause-walk : goal.returns-clause-walk
returns-clause-walk g c =
    let design = c.args.design.now in
    let n = block_count design in
    let l = c.loop-trial in
    let first = c.in_ok-parts.first in
    let m = c.args.moves in
    let s = g.R.Rng.stream c.args.words.now in
    let all = c.trials-trials.result in
    let d = c.height-height.result in
    let rest : all - l.trial ≡ 0 = omega (arith, c.loop-trial-test.false) in
    let ended = l.invariant.walks (visit_of l.best) (walks-end design d m (all - l.trial) (g.R.Rng.stream l.words) (visit_of l.now) (visit_of l.best) rest) in
    let by_height = subst (λ h. Walks design h m all s (chain n, first) (chain n, first) (visit_of l.best)) c.height-height.ensures ended in
    let trials-are : all ≡ trials n m = c.trials-trials.ensures.trials ∙ ap (λ b. trials b m) c.block_count-blocks.ensures in
    let walked = subst (λ k. Walks design (height first) m k s (chain n, first) (chain n, first) (visit_of l.best)) trials-are by_height in
    let e = c.deref.ensures.value ∙ c.in_ok-tokens.ensures ∙ ap chain c.block_count-blocks.ensures in
    IfOk-weaker c.measure.result (IsMeasure design c.deref-5.result.now) (IsWalk design s m)
    (λ found h. record {
      first = first;
      end = visit_of l.best;
      costs = subst (λ ts. IsCost design ts first) e c.in_ok-parts.ensures.costs;
      walks = walked;
      measure = subst (λ ts. IsMeasure design ts found) c.deref-5.ensures.value h;
    })
    c.measure.ensures.measure

use Rattle.std.proofs.Common.{◌≡◌, List, ◌++◌, ap, sym, ◌∙◌, subst, append_assoc, is_ok}
use Rattle.sf_rounds.proofs.Common.{Stretch, Knows, IsBest, IfOk-at_ok, as_list, PassEnd}
use Rattle.sf_rounds.proofs.gather.add.Goals as goal

pub returns : goal.returns
returns g c =
    let state = c.args.job.state in
    let design = c.args.design.now in
    let offered = ap (λ (k : Knows). k.offered) c.join.ensures in
    let done = IfOk-at_ok (λ (end : PassEnd). (state.seat.word ≡ c.args.word.now.id) × IsBest design state.best state.seat.offered) c.in_ok-end.was c.requires.done in
    record {
      places = c.in_ok-push.ensures.items;
      pieces = c.in_ok-append.ensures.items;
      left = c.in_ok-append-2.ensures.items ∙ (ap (λ (zs : List Stretch). zs ++ state.kept.items) c.in_ok-keep.ensures ∙ append_assoc c.args.all.now.left.items (as_list state.first) state.kept.items);
      seat = c.join.ensures;
      best = subst (IsBest design c.better.result) (sym offered) (c.better.ensures design c.args.seat.now.offered state.seat.offered (subst (λ b. IsBest design b c.args.seat.now.offered) (sym c.take.ensures.value) c.requires.best) done.1);
      end = ap is_ok c.in_ok-end.was;
    }

use Rattle.std.proofs.Common.{◌≡◌, ◌+◌, ◌*◌, ◌-◌, length}
use Rattle.sf_anneal.proofs.Common.{block_count, IsNormal, IsCost, IsReady, visit_of, Visit, Walks, chain}
use Rattle.sf_anneal.proofs.walking.one_start.Given as goal

abbrev pub invariant-loop-trial : goal.invariant-loop-trial
invariant-loop-trial g l =
    let n = block_count l.fn.design in
    record {
      now : IsNormal n l.now.tokens.items;
      best : IsNormal n l.best.tokens.items;
      long : length l.next.tokens.items + 1 ≡ 2 * n;
      costs : IsCost l.fn.design l.now.tokens.items l.now.cost;
      spots : length l.spots.items ≡ n;
      ready : IsReady l.fn.design l.parts l.now.tokens.items;
      walks : (end : Visit) → Walks l.fn.design l.height l.fn.moves (l.trials - l.trial) (g.R.Rng.stream l.words) (visit_of l.now) (visit_of l.best) end
          → Walks l.fn.design l.height l.fn.moves l.trials (g.R.Rng.stream l.fn.words) (chain n, l.first) (chain n, l.first) end;
    }

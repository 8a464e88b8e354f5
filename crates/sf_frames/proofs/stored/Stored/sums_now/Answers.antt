use Rattle.std.proofs.Common.{◌≡◌, length, sym, subst, rules}
use Rattle.sf_frames.proofs.Common.{groups_at, AreSumsOrNone}
use Rattle.sf_frames.proofs.stored.Stored.sums_now.Goals as goal

pub returns-then-is_empty : goal.returns-then-is_empty
returns-then-is_empty c =
    let none : length c.args.self.now.frames.items ≡ 0 = search rules in
    subst (λ n. AreSumsOrNone (groups_at c.args.design.now c.args.node.now.tokens n) c.start.result) (sym none) (c.start.ensures c.args.node.now.tokens)

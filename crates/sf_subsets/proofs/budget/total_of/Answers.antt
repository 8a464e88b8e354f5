use Rattle.std.proofs.Common.{◌≡◌, ◌<◌, ◌≤◌, ◌+◌, ◌*◌, ◌/◌, ◌%◌, ℕ, List, length, get_or, drop, arith, ap}
use Rattle.sf_subsets.proofs.Common.{total, drop_more}
use Rattle.sf_subsets.proofs.budget.total_of.Goals as goal
use Rattle.sf_subsets.proofs.budget.total_of.Goals.{then-left-eq1, else-left-eq1}

-- the sum with the next block first
total-more : (ns : List ℕ) (i left : ℕ) → i < length ns → total (drop i ns) left ≡ left % 2 * get_or ns i 0 + total (drop (i + 1) ns) (left / 2)
total-more ns i left lt = ap (λ v. total v left) (drop_more ns i 0 lt)

pub loop-least-preserved : goal.loop-least-preserved
loop-least-preserved c =
    let ns = c.args.leasts.now in
    let i = c.loop-least.least-index in
    let left = c.loop-least.left in
    let n = get_or ns i 0 in
    let more = total-more ns i left (omega arith) in
    let small : n ≤ 2199023255552 = c.requires.small i 0 (omega arith) in
    elim c.if-left-eq1.branch [
      | then-left-eq1 w ↦ (omega (arith, w.sum-is, more, ap (λ v. v * n) w.if-left-eq1.true, c.loop-least.invariant.0), omega (arith, w.sum-is, small, c.loop-least.invariant.1))
      | else-left-eq1 w ↦ (let e : left % 2 ≡ 0 = omega (arith, w.if-left-eq1.false) in
          (omega (arith, w.sum-is, more, ap (λ v. v * n) e, c.loop-least.invariant.0), omega (arith, w.sum-is, c.loop-least.invariant.1)))
    ]

use Rattle.std.proofs.Common.{ℕ, max, arith}
use Rattle.sf_bound_kit.proofs.Common.{Shape, area_of_two, fold_whole}
use Rattle.sf_bound_kit.proofs.EachTwo.{greatest-folded}
use Rattle.sf_bound_kit.proofs.pairs.greatest_with.Goals as goal

pub returns : goal.returns
returns c =
    let need = λ (t : Shape). area_of_two (c.args.first, t) in
    let whole = fold_whole (λ (n : ℕ) (t : Shape). max n (need t)) 0 c.args.others.now c.loop-other.other-index c.loop-other-test.false in
    omega (arith, c.loop-other.invariant, whole, greatest-folded need 0 c.args.others.now)

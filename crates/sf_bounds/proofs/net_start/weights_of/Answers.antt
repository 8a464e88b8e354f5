use Rattle.std.proofs.Common.{◌++◌, [], ◌∷◌, take, map, ap, sym, ◌∙◌, append-nil, arith}
use Rattle.sf_bounds.proofs.Common.{Net, weights_of}
use Rattle.sf_bounds.proofs.Weights.{one-counts, one-free, weights_of-more}
use Rattle.sf_bounds.proofs.net_start.weights_of.Goals as goal
use Rattle.sf_bounds.proofs.net_start.weights_of.Goals.{then-net-gt0+in_ok-push, else-net-gt0}

pub loop-net-preserved : goal.loop-net-preserved
loop-net-preserved c =
    let nets = c.args.nets.now in
    let net = c.net-item.result in
    let before = weights_of (take c.loop-net.net-index nets) in
    let weights = map (λ (n : Net). n.weight) in
    let more = weights_of-more nets c.loop-net.net-index net c.net-item.is c.loop-net-test.true in
    elim c.if-net-gt0.branch [
      | then-net-gt0+in_ok-push w ↦ (let own = one-counts net (omega (arith, w.if-net-gt0.true)) in
          ap (λ v. v.items) w.weights-is ∙ w.in_ok-push.ensures.items ∙ ap (λ v. v ++ weights (net ∷ [])) c.loop-net.invariant
          ∙ ap (λ v. before ++ weights v) (sym own) ∙ sym more)
      | else-net-gt0 w ↦ (let none = one-free net (omega (arith, w.if-net-gt0.false)) in
          ap (λ v. v.items) w.weights-is ∙ c.loop-net.invariant ∙ sym (append-nil before)
          ∙ ap (λ v. before ++ weights v) (sym none) ∙ sym more)
    ]

use Rattle.std.proofs.Common.{◌≡◌, [], ◌∷◌, ◌++◌, All, length, length-append, sum_by, sym, ap, subst, arith}
use Rattle.std.proofs.lemmas.List.Elements.{All-push}
use Rattle.std.proofs.lemmas.List.Sums.{sum_by_push}
use Rattle.sf_model.specs.Limits.{IsPinSet}
use Rattle.sf_model.specs.declared.parts.Net.{Net}
use Rattle.sf_test_designs.proofs.drawing.draw_nets.Goals as goal

pub loop-number-preserved : goal.loop-number-preserved
loop-number-preserved c =
    let old = c.loop-number.nets.items in
    let net = c.in_ok-draw_net.field-0 in
    let was = c.loop-number.invariant in
    let more : c.push.new.self.items ≡ old ++ net ∷ [] = c.in_ok-push.ensures.items in
    record {
      count = omega (arith, ap length more, length-append old (net ∷ []), was.count);
      few = omega (arith, ap (sum_by (λ (n : Net). length n.pins)) more, sum_by_push (λ (n : Net). length n.pins) old net, was.few, c.in_ok-draw_net.ensures.few);
      weights = subst (All (λ (n : Net). n.weight ≡ 1)) (sym more) (All-push (λ n. n.weight ≡ 1) old net was.weights c.in_ok-draw_net.ensures.weight);
      pins = subst (All (λ (n : Net). IsPinSet c.args.count 4 n.pins)) (sym more) (All-push (λ n. IsPinSet c.args.count 4 n.pins) old net was.pins c.in_ok-draw_net.ensures.pins);
    }

use Rattle.std.proofs.Common.{◌≡◌, ap, refl, ◌∙◌, true}
use Rattle.sf_search.proofs.Common.{Parts, root, waiting}
use Rattle.sf_search.proofs.walk.Walk.new.Goals as goal

pub returns : goal.returns
returns g c =
    let design = c.args.design.now in
    let e = c.in_ok-hand.ensures in
    let at = c.in_ok-cursor.ensures.root in
    record {
      whole = (e.hand_is, e.same.0 ∙ ap (λ (n : Parts). n.steps) at, e.same.1);
      left = e.left ∙ ap (λ n. waiting design 0 true n) at;
      tags = e.none;
      kept = e.kept;
      word = refl;
      best = refl;
    }

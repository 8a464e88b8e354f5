use Rattle.std.proofs.Common.{◌≡◌, ap, sym, subst, ◌∙◌}
use Rattle.sf_search.proofs.Common.{Some, Solved, IsMove, IsVisit, WalkView, best_after, cost_at, plain-of, HandView, IsFollowed}
use Rattle.sf_search.proofs.Runs.{moved, plain-best, plain-word}
use Rattle.sf_search.proofs.walk.Walk.step.Goals.{in-Some-1, in-None-1}
use Rattle.sf_search.proofs.walk.Walk.step.Goals as goal

pub returns-in-Solved-clause-moved : goal.returns-in-Solved-clause-moved
returns-in-Solved-clause-moved g c =
    let design = c.args.design.now in
    let bound = g.B.Values.value c.args.bounds.now design in
    let part = g.B.Bounds.part_value c.args.bounds.now design in
    let old : WalkView = record { hand = c.self.inside.hand; word = c.self.inside.word; best = c.self.inside.best } in
    let new = c.match-self.self in
    let seen = c.in_ok-seen.seen in
    let expr = c.in-Solved.expr in
    let visit = subst (λ n. IsVisit design bound n old.word seen) c.node.ensures c.in_ok-seen.ensures in
    let is : new ≡ record { hand = c.follow.new.self; word = c.in_ok-valued.valued.value; best = Some expr } = elim c.match-self.branch [ in-Some-1 w ↦ w.self-is | in-None-1 w ↦ w.self-is ] in
    let hand = ap (λ (w : WalkView). w.hand) is in
    let move = moved design bound part old new c.tag.new.self seen c.in_ok-tag.tag visit c.in_ok-tag.ensures.tag c.in_ok-tag.ensures.kept
    (subst (IsFollowed design bound c.tag.new.self c.in_ok-tag.tag) (sym hand) c.in_ok-follow.ensures.followed)
    (ap (λ (h : HandView). h.kept) hand ∙ c.in_ok-follow.ensures.kept)
    (ap (λ (w : WalkView). w.word) is ∙ c.in_ok-valued.ensures.valued.value ∙ sym (ap (λ s. cost_at bound old.hand.path.node s old.word) c.in-Solved.is))
    (ap (λ (w : WalkView). w.best) is ∙ sym (ap (λ s. best_after s old.best) c.in-Solved.is)) in
    (Solved expr, subst (λ w. IsMove design bound part w (Solved expr) new) c.self.view_is (subst (λ s. IsMove design bound part old s new) c.in-Solved.is move))

pub returns-in_default : goal.returns-in_default
returns-in_default g c =
    let design = c.args.design.now in
    let bound = g.B.Values.value c.args.bounds.now design in
    let part = g.B.Bounds.part_value c.args.bounds.now design in
    let old : WalkView = record { hand = c.self.inside.hand; word = c.self.inside.word; best = c.self.inside.best } in
    let new : WalkView = record { hand = c.follow.new.self; word = c.self.inside.word; best = c.self.inside.best } in
    let seen = c.in_ok-seen.seen in
    let plain = plain-of seen c.in_default.not-Solved in
    let visit = subst (λ n. IsVisit design bound n old.word seen) c.node.ensures c.in_ok-seen.ensures in
    let move = moved design bound part old new c.tag.new.self seen c.in_ok-tag.tag visit c.in_ok-tag.ensures.tag c.in_ok-tag.ensures.kept c.in_ok-follow.ensures.followed c.in_ok-follow.ensures.kept
    (sym (plain-word bound old.hand.path.node seen old.word plain)) (sym (plain-best seen old.best plain)) in
    record {
      moved = (seen, subst (λ w. IsMove design bound part w seen new) c.self.view_is move);
      serves = c.in_ok-tag.ensures.serves;
    }

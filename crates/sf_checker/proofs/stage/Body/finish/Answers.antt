use Rattle.std.proofs.Common.{◌≡◌, ℕ, List, [], ◌∷◌, ◌++◌, sym, subst}
use Rattle.sf_checker.proofs.Common.{Part, Parts, Cert, Tag, Judged, IsFound}
use Rattle.sf_checker.proofs.Fed.{body-done, body-last}
use Rattle.sf_checker.proofs.stage.Body.finish.Goals as goal
use Rattle.sf_checker.proofs.stage.Body.finish.Goals.{in-Some+in_ok-take, in_default}

pub returns-clause-answer : goal.returns-clause-answer
returns-clause-answer g c text b =
    let design = c.args.design.now in
    let value : Parts → ℕ = g.B.Values.value c.args.bounds.now c.args.design.now in
    let part : Parts → Part → ℕ = g.B.Bounds.part_value c.args.bounds.now c.args.design.now in
    elim c.match-branch-2.branch [
      | in-Some+in_ok-take w ↦ body-last design value part text c.block_count.result c.args.self c.block_count.ensures b c.answer.result c.match-branch-2.judge w.in-Some.tag
          (rw w.in-Some.is at c.in_ok-tag.ensures.tag)
          (subst (λ (j : Judged). (cert : Cert) (tags more : List Tag) → cert.cost ≡ c.args.self.header.cost → cert.tags ≡ tags ++ w.in-Some.tag ∷ more → IsFound design value part cert tags c.args.self.judge → IsFound design value part cert (tags ++ w.in-Some.tag ∷ []) j) (sym w.judge-is) w.in_ok-take.ensures.found)
          (λ cert blocks cost stated f. c.answer.ensures design value part cert blocks cost stated f)
      | in_default w ↦ body-done design value part text c.block_count.result c.args.self c.block_count.ensures b c.answer.result
          (rw w.in_default.is at c.in_ok-tag.ensures.tag)
          (λ cert blocks cost stated f. c.answer.ensures design value part cert blocks cost stated (subst (IsFound design value part cert cert.tags) (sym w.judge-is) f))
    ]

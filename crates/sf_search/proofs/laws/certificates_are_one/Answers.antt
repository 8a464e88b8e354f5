use Rattle.std.proofs.Common.{◌≡◌, ◌==◌, [], ◌∷◌, ap, map, sym, subst, ◌∙◌}
use Rattle.sf_search.proofs.Common.{IsPermutation-sym, IsPermutation-trans, MAX, root, given_marks, marks, AllNameFirst, unnamed, AreTrees}
use Rattle.sf_certificate.proofs.OneCert.{same-cert}
use Rattle.sf_search.proofs.OneCert.{same-plan, entries-good}
use Rattle.sf_search.proofs.laws.certificates_are_one.Goals as goal

pub returns : goal.returns
returns c = λ design bound part state first second parts valid other blocks one two names names2.
    let nodes = root design ∷ [] in
    let given = given_marks state.entries state.waiting in
    let plain = map unnamed first.tags in
    let plain2 = map unnamed second.tags in
    let cost : first.cost ≡ second.cost = one.cost ∙ sym two.cost in
    let tree : AreTrees part first.cost nodes plain = c.full_parts_close.ensures design bound part first.cost first.tags parts valid.tree in
    let tree2 : AreTrees part first.cost nodes plain2 = subst (λ n. AreTrees part n nodes plain2) (sym cost) (c.full_parts_close.ensures design bound part second.cost second.tags parts other.tree) in
    let alike : plain ≡ plain2 =
    c.trees_are_one.ensures design part first.cost plain plain2 tree tree2
    (IsPermutation-trans (marks nodes plain) given (marks nodes plain2) (IsPermutation-sym given (marks nodes plain) one.placed) two.placed) in
    let tags : first.tags ≡ second.tags =
    c.first_parts_are_one.ensures design part first.cost first.tags second.tags tree alike names (subst (λ n. AllNameFirst design part n second.tags) (sym cost) names2) in
    let plan : first.plan ≡ second.plan =
    same-plan design state (c.solved_plans_are_one.ensures design) (entries-good design part state first tree one) first.plan second.plan
    (first.form.unplanned ∙ ap (λ n. n == MAX) cost ∙ sym second.form.unplanned) one.plan two.plan in
    same-cert first second blocks plan cost (one.bound ∙ sym two.bound) (one.paths ∙ sym two.paths) tags

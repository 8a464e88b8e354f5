use Rattle.std.proofs.Common.{◌≡◌, ◌≤◌, ◌∷◌, [], ◌++◌, length, true, ap, subst, ◌∙◌}
use Rattle.sf_worker.proofs.Common.{root, behind, pending, made, beyond, waiting, HandView}
use Rattle.sf_worker.proofs.Hands.{followed}
use Rattle.sf_worker.proofs.hand.Hand.follow.Goals as goal

pub returns-clause-followed : goal.returns-clause-followed
returns-clause-followed g c =
    let design = c.args.design.now in
    let more = c.in_ok-self-inside.field-0 in
    let node = c.follow_to.new.self.node in
    followed design (g.V.Values.value c.args.values.now c.args.design.now) c.args.self.now _ c.args.tag c.requires.hand c.requires.more
    (ap (λ (h : HandView). h.first) c.self.view_is) (ap (λ (h : HandView). h.floor) c.self.view_is) (c.in_ok-push.ensures.items ∙ ap (λ (h : HandView). h.tags ++ c.args.tag ∷ []) c.self.view_is) c.in_ok-self-inside.ensures.at
    (subst (λ (h : HandView). waiting design h.floor more node ≡ made c.args.tag h.path.node ++ beyond h.floor (root design) h.path.node.steps) c.self.view_is c.in_ok-self-inside.ensures.next)
    (subst (λ (h : HandView). more ≡ true → h.floor ≤ length node.steps) c.self.view_is c.in_ok-self-inside.ensures.above)
    (subst (λ (h : HandView). more ≡ true → pending design true node ≡ made c.args.tag h.path.node ++ behind (root design) h.path.node.steps) c.self.view_is c.in_ok-self-inside.ensures.whole)

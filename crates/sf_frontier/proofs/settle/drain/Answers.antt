use Rattle.std.proofs.Common.{List, [], ◌∷◌, ◌++◌, ap, ◌∙◌, append_assoc}
use Rattle.sf_frontier.proofs.Common.{All-append, All-cons, All-nil, OwnerView, Stretch}
use Rattle.sf_frontier.proofs.Teams.{last-first}
use Rattle.sf_frontier.proofs.settle.drain.Goals as goal

pub loop-owner-preserved : goal.loop-owner-preserved
loop-owner-preserved g c =
    let S = g.T.Served.serves in
    let t = c.in-Some.ensures.taken in
    let i = c.loop-owner.invariant in
    let more = i.3.0 in
    let x = c.in-Some.task in (
      ap (λ (o : OwnerView). o.deque.parts) t.0 ∙ i.0,
      ap (λ (o : OwnerView). o.put) t.0 ∙ i.1,
      ap (λ (o : OwnerView). o.stolen) t.0 ∙ i.2,
      (
        more ++ x ∷ [],
        ap (λ (o : OwnerView). o.taken) t.0 ∙ (ap (λ (l : List Stretch). l ++ x ∷ []) i.3.1 ∙ append_assoc _ more (x ∷ [])),
        last-first _ _ _ more x i.3.2 c.in-Some.ensures.last,
        c.push_reserved.ensures.items ∙ (ap (λ (l : List Stretch). l ++ x ∷ []) (c.in_ok-reserve.ensures.items ∙ i.3.3) ∙ append_assoc _ more (x ∷ [])),
        All-append S more (x ∷ []) i.3.4 (All-cons S x [] t.1 (All-nil S)),
      ),
    )

use Rattle.std.proofs.Common.{◌≡◌, ◌-◌, ◌∷◌, List, length, take, get_or, ap, sym, ◌∙◌, arith}
use Rattle.sf_cert_text.proofs.Common.{Place}
use Rattle.sf_cert_text.proofs.Frames.{places-popped, places-lessened}
use Rattle.sf_cert_text.proofs.waiting.Waiting.take.Goals as goal
use Rattle.sf_cert_text.proofs.waiting.Waiting.take.Goals.{then-frame-eq1, else-frame-eq1}

pub returns-clause-places : goal.returns-clause-places
returns-clause-places c =
    let xs = c.self.inside.frames.items in
    let f = c.in_ok-frame.field-0.now in
    let n = length c.deref.result.now in
    let whole : n ≡ length xs = ap length c.deref.ensures.value in
    let some = c.in_ok-frame.ensures.item.3.0 in
    let is : f ≡ get_or xs (n - 1) f = c.in_ok-frame.ensures.item.1 ∙ ap (λ l. get_or l (n - 1) f) c.deref.ensures.value in
    sym c.self.view_is ∙ (elim c.if-frame-eq1.branch [
      | then-frame-eq1 w ↦
          places-popped xs w.pop.new.self.items n f f whole some is (w.pop.ensures.rest ∙ ap (λ k. take (k - 1) xs) (sym c.deref.ensures.len)) w.if-frame-eq1.true
          ∙ ap (λ (ps : List Place). f.place ∷ ps) (sym w.self-is)
      | else-frame-eq1 w ↦
          places-lessened xs w.len-last.result f w.one_fewer.result f (w.len-last.ensures ∙ sym c.deref.ensures.len ∙ whole) (omega (arith, some, w.len-last.ensures, c.deref.ensures.len)) (is ∙ ap (λ k. get_or xs (k - 1) f) (c.deref.ensures.len ∙ sym w.len-last.ensures)) w.one_fewer.ensures.place (omega (arith, w.one_fewer.ensures.count))
          ∙ ap (λ (ps : List Place). f.place ∷ ps) (sym w.self-is)
    ])

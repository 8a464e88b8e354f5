use Rattle.std.proofs.Common.{◌≡◌, ℕ, List, min, ap, sym, ◌∙◌, arith, slice_index}
use lib.ListN.{get_elem?}
use Rattle.sf_incumbent.proofs.Common.{place, Word, Knows}
use Rattle.sf_incumbent.proofs.Steps.{least, word_at}
use Rattle.sf_incumbent.proofs.Incumbent.finish.Goals as goal

pub returns-clause-least : goal.returns-clause-least
returns-clause-least c =
    let f = c.close_with-closed.ensures.values.2 in
    let all : c.seat.inside.seat.me.0.parts ≡ c.self.inside.table.shared.key.seats = ap (λ (k : Knows). k.parts) c.seat.view_is ∙ (c.requires.all ∙ sym (ap (λ (w : Word). w.seats) c.self.view_is)) in
    let word : slice_index f.0.words place ≡ c.word-word.result = word_at place f.0.words c.word-word.result (ap (λ (ws : List ℕ). get_elem? ws place) f.2 ∙ c.word-word.ensures) in
    let known = least _ _ _ _ _ _ f.1.0 f.1.1 c.seat.invariant.0 all in
    sym word ∙ (known.0 ∙ (λ i. min (c.self.view_is i).start (c.seat.view_is i).offered))

pub returns-clause-seen : goal.returns-clause-seen
returns-clause-seen c =
    let f = c.close_with-closed.ensures.values.2 in
    let all : c.seat.inside.seat.me.0.parts ≡ c.self.inside.table.shared.key.seats = ap (λ (k : Knows). k.parts) c.seat.view_is ∙ (c.requires.all ∙ sym (ap (λ (w : Word). w.seats) c.self.view_is)) in
    let word : slice_index f.0.words place ≡ c.word-word.result = word_at place f.0.words c.word-word.result (ap (λ (ws : List ℕ). get_elem? ws place) f.2 ∙ c.word-word.ensures) in
    let known = least _ _ _ _ _ _ f.1.0 f.1.1 c.seat.invariant.0 all in
    let seen = ap (λ (k : Knows). k.seen) c.seat.view_is in
    omega (arith, word, known.1, seen)

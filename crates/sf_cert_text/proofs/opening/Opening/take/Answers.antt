use Rattle.std.proofs.Common.{◌≡◌, ◌++◌, ◌∷◌, ◌-◌, [], false, length, take, drop, ap, sym, subst, ◌∙◌, arith}
use Rattle.sf_cert_text.proofs.Common.{nat_tests, is_line_feed, codes, word_in, IsHeader, IsPart, open_from}
use Rattle.sf_cert_text.proofs.OpenLines.{BeginsAt, begins-more, begins-new, header-ended, open-is, part-line, part-more, tests-other, tests-tree}
use Rattle.sf_cert_text.proofs.opening.Opening.take.Goals as goal

pub invariant_of-self-then-byte-ne10 : goal.invariant_of-self-then-byte-ne10
invariant_of-self-then-byte-ne10 c =
    let other : is_line_feed c.args.byte ≡ false = grind (arith, nat_tests, c.if-byte-ne10.true) in
    subst (BeginsAt c.self.inside.line) (sym c.in_ok-push.ensures.items) (begins-more c.self.inside.line c.self.inside.text.items c.args.byte other c.self.invariant)

pub returns-then-byte-ne10-clause-part : goal.returns-then-byte-ne10-clause-part
returns-then-byte-ne10-clause-part c none =
    let other : is_line_feed c.args.byte ≡ false = grind (arith, nat_tests, c.if-byte-ne10.true) in
    subst IsPart (sym c.in_ok-push.ensures.items) (part-more c.self.inside.text.items c.args.byte other (subst IsPart (sym c.self.view_is) c.requires))

pub invariant_of-self-2 : goal.invariant_of-self-2
invariant_of-self-2 c =
    let text = c.self.inside.text.items in
    let items : c.push.new.self.items ≡ text ++ 10 ∷ [] = c.in_ok-push.ensures.items ∙ ap (λ b. text ++ b ∷ []) c.if-byte-ne10.false in
    subst (BeginsAt c.len-self-inside.result) (sym items) (begins-new c.len-self-inside.result text (c.len-self-inside.ensures ∙ c.push.new.self.ok.0 ∙ ap length items))

pub returns-clause-part : goal.returns-clause-part
returns-clause-part c other =
    let text = c.self.inside.text.items in
    let items : c.push.new.self.items ≡ text ++ 10 ∷ [] = c.in_ok-push.ensures.items ∙ ap (λ b. text ++ b ∷ []) c.if-byte-ne10.false in
    let line = ap (λ t. take (c.len-end.result - c.self.inside.line) (drop c.self.inside.line t)) (c.deref.ensures.value ∙ items) ∙ open-is c.self.inside.line c.len-end.result text c.self.invariant (c.len-end.ensures ∙ c.self.inside.text.ok.0) in
    subst IsPart (sym items) (part-line text (subst IsPart (sym c.self.view_is) c.requires) (tests-other c.is_only.result (open_from [] text) (c.is_only.ensures ∙ ap (word_in (codes "tree")) line) other))

pub returns-clause-whole : goal.returns-clause-whole
returns-clause-whole c tree =
    let text = c.self.inside.text.items in
    let items : c.push.new.self.items ≡ text ++ 10 ∷ [] = c.in_ok-push.ensures.items ∙ ap (λ b. text ++ b ∷ []) c.if-byte-ne10.false in
    let line = ap (λ t. take (c.len-end.result - c.self.inside.line) (drop c.self.inside.line t)) (c.deref.ensures.value ∙ items) ∙ open-is c.self.inside.line c.len-end.result text c.self.invariant (c.len-end.ensures ∙ c.self.inside.text.ok.0) in
    subst IsHeader (sym items) (header-ended text (subst IsPart (sym c.self.view_is) c.requires) (tests-tree c.is_only.result (open_from [] text) (c.is_only.ensures ∙ ap (word_in (codes "tree")) line) tree))

use Rattle.std.proofs.Common.{ap, sym, ◌∙◌, ◌∷◌, Some, None}
use Rattle.sf_cert_text.proofs.Common.{LineWord, letter_of, tags_said, Whole, First}
use Rattle.sf_cert_text.proofs.TreeReads.{second-said, letter-said}
use Rattle.sf_cert_text.proofs.tree.TreeReader.said.Goals as goal

pub returns-in-Some-clause-said : goal.returns-in-Some-clause-said
returns-in-Some-clause-said c last others =
    let word : LineWord = record { line = c.args.line; text = c.args.word.now } in
    let at = c.in-Some.half in
    second-said c.args.self.now.version c.args.self.now.half word at (ap (λ r. r.half) (sym c.self.view_is) ∙ c.in-Some.is) last others
    ∙ ap (λ t. record { line = at.line; tag = t } ∷ tags_said c.args.self.now.version last None others) (sym c.tag_by.ensures)

pub returns-in-Some-Whole-clause-said : goal.returns-in-Some-Whole-clause-said
returns-in-Some-Whole-clause-said c =
    let word : LineWord = record { line = c.args.line; text = c.args.word.now } in
    letter-said c.args.self.now.version c.args.self.now.half word (Some (Whole c.in-Some-Whole.tag)) (ap (λ r. r.half) (sym c.self.view_is) ∙ c.in_default.is)
    (ap (λ r. letter_of r.version c.args.word.now) (sym c.self.view_is) ∙ sym c.letter_of.ensures ∙ c.in-Some-Whole.is ∙ ap Some c.in-Some-Whole.field-0-is)

pub returns-in-Some-First-clause-first : goal.returns-in-Some-First-clause-first
returns-in-Some-First-clause-first c =
    let word : LineWord = record { line = c.args.line; text = c.args.word.now } in
    letter-said c.args.self.now.version c.args.self.now.half word (Some (First c.in-Some-First.second)) (ap (λ r. r.half) (sym c.self.view_is) ∙ c.in_default.is)
    (ap (λ r. letter_of r.version c.args.word.now) (sym c.self.view_is) ∙ sym c.letter_of.ensures ∙ c.in-Some-First.is ∙ ap Some c.in-Some-First.field-0-is)

pub returns-in-None-clause-said : goal.returns-in-None-clause-said
returns-in-None-clause-said c =
    let word : LineWord = record { line = c.args.line; text = c.args.word.now } in
    letter-said c.args.self.now.version c.args.self.now.half word None (ap (λ r. r.half) (sym c.self.view_is) ∙ c.in_default.is)
    (ap (λ r. letter_of r.version c.args.word.now) (sym c.self.view_is) ∙ sym c.letter_of.ensures ∙ c.in-None.is)

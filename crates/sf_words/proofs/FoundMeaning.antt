-- What clap's texts mean is what the words mean.
use Rattle.std.proofs.Common.{◌≡◌, List, Option, Some, None, option_map, sym, ap, subst, ◌∙◌}
use Rattle.clap.specs.Words.{Text}
use Rattle.sf_words.proofs.Common.{Row, Mode, Token, HasForm, Command, Values, value_in, mode_of, Says, Means, HasNoMeaning, texts_in, rows_for}
use Rattle.sf_words.proofs.Unique.{form_unique}
use Rattle.sf_words.proofs.KeptTexts.{texts_are}

-- what clap gives as a subcommand's rows are the rows that were found
pub rows_same : (rows : List Row) (o : Option (Text × List Row)) (name : Text) (found : List Row) → Some rows ≡ option_map (λ p. p.1) o → o ≡ Some (name, found) → rows ≡ found
rows_same rows None name found e h = cc
rows_same rows (Some p) name found e h = let first : rows ≡ p.1 = cc in let second : p ≡ (name, found) = cc in first ∙ ap (λ (q : Text × List Row). q.1) second

-- each option has in clap's rows the text that it has in the words
texts_same : (m : Mode) (ts : List Token) (words : List Text) (rows : List Row) → HasForm words m ts → rows ≡ rows_for m ts → texts_in rows ≡ value_in ts
texts_same m ts words rows form e = ap texts_in e ∙ texts_are m ts form.options

-- words of this form mean each command that the texts of their rows say
pub means : (m : Mode) (ts : List Token) (words : List Text) (rows : List Row) (c : Command) → HasForm words m ts → rows ≡ rows_for m ts → mode_of c ≡ m → Says (texts_in rows) c → Means words c
means m ts words rows c form e same says =
    let Form : Mode → Type 0 = λ n. HasForm words n ts in
    let Saying : Values → Type 0 = λ v. Says v c in
    (ts, subst Form (sym same) form, subst Saying (texts_same m ts words rows form e) says)

-- words of this form mean nothing where the texts of their rows say no command of their mode
pub has_none : (m : Mode) (ts : List Token) (words : List Text) (rows : List Row) → HasForm words m ts → rows ≡ rows_for m ts → ((c : Command) → mode_of c ≡ m → Says (texts_in rows) c → ⊥) → HasNoMeaning words
has_none m ts words rows form e none c meaning =
    let same = form_unique words (mode_of c) m meaning.0 ts meaning.1 form in
    let SayingIn : List Token → Type 0 = λ us. Says (value_in us) c in
    let Saying : Values → Type 0 = λ v. Says v c in
    none c same.0 (subst Saying (sym (texts_same m ts words rows form e)) (subst SayingIn same.1 meaning.2))

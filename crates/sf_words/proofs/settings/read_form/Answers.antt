use Rattle.std.proofs.Common.{sym, subst, ◌∙◌, string_bytes}
use Rattle.sf_words.proofs.Common.{Mode, AreOptions}
use Rattle.sf_words.proofs.Texts.{mode_text-injective}
use Rattle.sf_words.proofs.Tokens.{first_of_map, heads_same, tails_same}
use Rattle.sf_words.proofs.settings.read_form.Goals as goal

pub returns-in-None-clause-none : goal.returns-in-None-clause-none
returns-in-None-clause-none c mode tokens form =
    let cut = first_of_map string_bytes c.args.words.now c.command-item.result c.in-len1-up.len_at_least c.command-item.is in
    let both = sym cut ∙ form.words_are in
    let same = mode_text-injective c.in-Some.mode mode (sym c.in-Some.ensures.mode.1 ∙ (c.as_str.ensures.value ∙ heads_same both)) in
    (rw c.in-None.is at c.in_ok-settings.ensures.none) tokens (let P : Mode → Type 0 = λ m. AreOptions m tokens in subst P (sym same) form.options) (tails_same both)

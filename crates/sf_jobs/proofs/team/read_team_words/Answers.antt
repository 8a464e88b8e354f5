use Rattle.std.proofs.Common.{List, ℕ, string_bytes, sym, subst, ◌∙◌}
use Rattle.sf_jobs.proofs.Common.{IsWithin}
use Rattle.sf_jobs.proofs.Four.{four, last_same}
use Rattle.sf_jobs.proofs.team.read_team_words.Goals as goal

pub returns-in_default-read_team-clause-none : goal.returns-in_default-read_team-clause-none
returns-in_default-read_team-clause-none c = λ o says.
    let listed = four string_bytes c.args.words.now _ _ _ _ c.in-len4.len_at_least c.in-len4.len_below c.first-item.is c.jobs-item.is c.second-item.is c.number-item.is in
    let same = last_same (sym listed ∙ says.words_are) in
    let within : List ℕ → Type 0 = λ t. IsWithin t o.team (1, 16) in
    c.in_default-read_team.ensures.none o.team (subst within (sym (c.as_str.ensures.value ∙ same)) says.team)

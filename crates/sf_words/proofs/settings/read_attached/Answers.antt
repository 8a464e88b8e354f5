use Rattle.std.proofs.Common.{arith}
use Rattle.sf_words.proofs.Common.{split_after, key_text}
use Rattle.sf_words.proofs.Texts.{inner_at, named}
use Rattle.sf_words.proofs.settings.read_attached.Goals as goal

pub returns-in_err-name-clause-none : goal.returns-in_err-name-clause-none
returns-in_err-name-clause-none c =
    rw c.from_residual.ensures
    (λ k v inside e.
    let cut = split_after 61 c.args.text.now (key_text k) v c.split_once.result c.split_once.ensures.cases (omega arith) e (inner_at (key_text k) (named k).inner) in
    rw c.in_err-name.was at cut)

pub returns-in_err-key-clause-none : goal.returns-in_err-key-clause-none
returns-in_err-key-clause-none c =
    rw c.from_residual-in_err-key.ensures
    (λ k v inside e.
    let cut = split_after 61 c.args.text.now (key_text k) v c.split_once.result c.split_once.ensures.cases (omega arith) e (inner_at (key_text k) (named k).inner) in
    let both = rw c.in_ok-name.was at cut in
    let none = c.in_err-key.ensures.none in
    grind arith)

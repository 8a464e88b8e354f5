use Rattle.std.proofs.Common.{arith, ◌∷◌}
use Rattle.sf_words.proofs.Common.{strip_prefix_char}
use Rattle.sf_words.proofs.Hyphens.{behind_two}
use Rattle.sf_words.proofs.settings.after_hyphens.Goals as goal

pub returns-in_err-strip_prefix : goal.returns-in_err-strip_prefix
returns-in_err-strip_prefix c =
    let first = strip_prefix_char 45 c.args.word.now _ c.strip_prefix.ensures.cases (omega arith) in
    rw (c.from_residual.ensures) (λ rest e. (rw c.in_err-strip_prefix.was at first) (45 ∷ rest) e)

pub returns : goal.returns
returns c =
    let first = strip_prefix_char 45 c.args.word.now _ c.strip_prefix.ensures.cases (omega arith) in
    behind_two c.args.word.now _ _ (rw c.in_ok-strip_prefix.was at first) (strip_prefix_char 45 _ _ c.strip_prefix-2.ensures.cases (omega arith))

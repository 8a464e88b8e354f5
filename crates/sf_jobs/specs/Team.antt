-- The words of the batch program.
use Rattle.std.specs.Prelude.{◌≡◌, ℕ, List, [], ◌∷◌, codes}
use Rattle.sf_options.specs.Options.{Text}
use Rattle.sf_words.specs.Words.{IsValue}
use Rattle.sf_words.specs.Numbers.{IsWithin}

-- the file of the jobs, and how many workers there may be
pub record TeamOptions : Type 0 where
  pub jobs : Text
  pub team : ℕ

-- the words are `--jobs FILE --team N`, in this order and in this spelling alone, with N from 1 to 16
pub record TeamSays (words : List Text) (o : TeamOptions) : Type 0 where
  pub number : Text
  pub words_are : words ≡ codes "--jobs" ∷ o.jobs ∷ codes "--team" ∷ number ∷ []
  pub jobs : IsValue o.jobs
  pub team : IsWithin number o.team (1, 16)

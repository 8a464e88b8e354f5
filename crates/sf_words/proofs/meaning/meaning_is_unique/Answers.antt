use Rattle.sf_words.proofs.Unique.{meaning_unique}
use Rattle.sf_words.proofs.meaning.meaning_is_unique.Goals as goal

pub returns : goal.returns
returns c = meaning_unique

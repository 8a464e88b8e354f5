use Rattle.sf_measuring.proofs.Common.{uncounted}
use Rattle.sf_measuring.proofs.shaping.read_tokens_file.Goals as goal

pub returns-clause-shelf : goal.returns-clause-shelf
returns-clause-shelf g c = (c.in_ok-text.ensures.shelf.0, uncounted c.parse_tokens.result _ _ c.parse_tokens.ensures.tells)

use Rattle.std.proofs.Common.{◌/◌, ◌∙◌, ap}
use Rattle.sf_anneal.proofs.Walks.{slack-is}
use Rattle.sf_anneal.proofs.walking.slack.Goals as goal

pub returns : goal.returns
returns c = ap (λ z. z / 16) c.part_left.ensures ∙ slack-is c.args.c c.args.moves c.args.left

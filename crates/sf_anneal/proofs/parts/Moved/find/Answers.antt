use Rattle.std.proofs.Common.{◌∙◌}
use Rattle.sf_anneal.proofs.Common.{OnTrue_at}
use Rattle.sf_anneal.proofs.Renewing.{joint-some, known-joint}
use Rattle.sf_anneal.proofs.parts.Moved.find.Goals as goal

pub returns-then-joins_known-clause-sizes : goal.returns-then-joins_known-clause-sizes
returns-then-joins_known-clause-sizes c =
    let known = c.if-joins_known.ensures in
    let lt = OnTrue_at known.stays c.stands_at-stays.ensures.inside in
    let at = OnTrue_at known.stays c.stands_at-stays.ensures.there ∙ c.requires.token in
    (known-joint _ _ _ _ _ _ _ c.args.place c.args.direction c.requires.normal c.requires.inside c.requires.token c.requires.known c.requires.renewed lt at known.before known.left known.right).0

pub returns-then-joins_known-clause-falls : goal.returns-then-joins_known-clause-falls
returns-then-joins_known-clause-falls c =
    let known = c.if-joins_known.ensures in
    let lt = OnTrue_at known.stays c.stands_at-stays.ensures.inside in
    let at = OnTrue_at known.stays c.stands_at-stays.ensures.there ∙ c.requires.token in
    (known-joint _ _ _ _ _ _ _ c.args.place c.args.direction c.requires.normal c.requires.inside c.requires.token c.requires.known c.requires.renewed lt at known.before known.left known.right).1

pub make-requires-clause-some : goal.make-requires-clause-some
make-requires-clause-some c = joint-some _ _ _ _ _ _ _ c.args.place c.args.direction c.requires.normal c.requires.inside c.requires.renewed c.requires.token

use Rattle.sf_cuts.proofs.Whole.{among_by_number, cut_found, distinct_by_number, none_found}
use Rattle.sf_cuts.proofs.cutting.cut.Goals as goal

pub cut_some-requires-clause-distinct : goal.cut_some-requires-clause-distinct
cut_some-requires-clause-distinct c = distinct_by_number c.args.spots.now c.requires.by_number

pub returns-clause-cut : goal.returns-clause-cut
returns-clause-cut c =
    cut_found c.args.spots.now c.requires.by_number c.cut_some.result (c.cut_some.ensures c.args.spots.now (among_by_number c.args.spots.now c.requires.by_number))

pub returns-clause-none : goal.returns-clause-none
returns-clause-none c =
    none_found c.args.spots.now c.requires.by_number c.cut_some.result (c.cut_some.ensures c.args.spots.now (among_by_number c.args.spots.now c.requires.by_number))

use Rattle.sf_place.proofs.Common.{IsListed, LiesIn}
use Rattle.sf_place.proofs.Legality.{none_without, none_over}
use Rattle.sf_place.proofs.verdict.check_spots.Goals as goal

pub returns-in-Some-clause-legal : goal.returns-in-Some-clause-legal
returns-in-Some-clause-legal c legal =
    absurd (none_without (IsListed c.args.design.now) c.args.spots.now c.in-Some.block legal.by_number legal.listed c.in-Some.ensures)

pub returns-in-Some-first_outside-clause-legal : goal.returns-in-Some-first_outside-clause-legal
returns-in-Some-first_outside-clause-legal c legal =
    absurd (none_without (LiesIn c.args.design.now.outline) c.args.spots.now c.in-Some-first_outside.block legal.by_number legal.inside c.in-Some-first_outside.ensures)

pub returns-in-Some-first_overlap-clause-legal : goal.returns-in-Some-first_overlap-clause-legal
returns-in-Some-first_overlap-clause-legal c legal =
    absurd (none_over c.args.spots.now c.in-Some-first_overlap.first c.in-Some-first_overlap.second legal.by_number legal.apart c.in-Some-first_overlap.ensures)

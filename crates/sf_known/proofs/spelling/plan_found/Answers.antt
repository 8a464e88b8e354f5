use Rattle.sf_known.proofs.Common.{tree_of}
use Rattle.sf_known.proofs.Spelled.{floorplan-fitting, floorplan-normal}
use Rattle.sf_known.proofs.spelling.plan_found.Goals as goal

pub plan_of-requires : goal.plan_of-requires
plan_of-requires c = record { normal = floorplan-normal c.requires.0 c.in-Some.expr c.in-Some.field-0-1 (rw c.in-Some.is at c.requires.1) }

pub returns-in_ok-plan_of-in-Some : goal.returns-in_ok-plan_of-in-Some
returns-in_ok-plan_of-in-Some c design h =
    floorplan-fitting design c.in-Some.expr c.in-Some.field-0-1 (rw c.in-Some.is at h) (tree_of c.in_ok-plan_of-in-Some.field-0) c.in_ok-plan_of-in-Some.ensures.spelled

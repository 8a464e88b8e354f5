use Rattle.std.proofs.Common.{◌≤◌, ◌-◌, length}
use Rattle.sf_resume.proofs.Common.{IsReach}
use Rattle.sf_resume.proofs.Reached.{IsAhead}
use Rattle.sf_resume.proofs.reaching.longest.Given as goal

abbrev pub invariant-loop-ahead : goal.invariant-loop-ahead
invariant-loop-ahead g l = record {
  ahead : IsAhead l.design (g.V.Values.value l.values l.design) l.tags l.reading l.low l.ahead;
  reached : IsReach l.design (g.V.Values.value l.values l.design) l.tags l.reading l.floor l.end;
  behind : l.end.at ≤ l.ahead.at;
}

abbrev pub decreases-loop-ahead : goal.decreases-loop-ahead
decreases-loop-ahead g l = length l.tags - l.ahead.at

use Rattle.std.proofs.Common.{map}
use Rattle.sf_team.proofs.Common.{arc_value}
use Rattle.sf_team.proofs.Tables.{IsFilled}
use Rattle.sf_team.proofs.join.fill.Given as goal

abbrev pub invariant-loop-number : goal.invariant-loop-number
invariant-loop-number g l = IsFilled g.W.Gives.gives (map arc_value l.given) l.number l.table

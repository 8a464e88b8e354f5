use Rattle.std.proofs.Common.{List, vec_len}
use Rattle.sf_team.proofs.Common.{AreRight, IsTable}
use Rattle.sf_team.proofs.join.note.Given as goal

abbrev pub invariant-loop-done : goal.invariant-loop-done
invariant-loop-done g l = (given : List _) → IsTable g.W.Gives.gives given l.fn.table → AreRight g.W.Gives.gives given l.fn.all.items
    → IsTable g.W.Gives.gives given l.table × AreRight g.W.Gives.gives given l.all.items

abbrev pub decreases-loop-done : goal.decreases-loop-done
decreases-loop-done g l = vec_len l.all

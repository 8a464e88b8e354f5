use Rattle.sf_cursor.proofs.Parting.{IsOnWay}
use Rattle.sf_cursor.proofs.cursor.Cursor.part_off.Given as goal

-- the way is walked again, and so far no step but these has later siblings that are beyond the floor
abbrev pub invariant-loop-level : goal.invariant-loop-level
invariant-loop-level g l = IsOnWay l.design (g.V.Values.value l.values l.design) l.floor l.self l.part l.level

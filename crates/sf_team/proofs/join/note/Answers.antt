use Rattle.sf_team.proofs.Tables.{table_noted, right_front, right_last}
use Rattle.sf_team.proofs.join.note.Goals as goal

pub loop-done-preserved-then-number-table : goal.loop-done-preserved-then-number-table
loop-done-preserved-then-number-table g c =
    λ given is right.
    let h = c.loop-done.invariant given is right in
    let items = c.in-Some.ensures.items in (
      table_noted g.W.Gives.gives given c.loop-done.table c.in-Some.done.number c.in-Some.done.answer h.0 (right_last g.W.Gives.gives given c.pop.new.self.items c.in-Some.done c.loop-done.all.items items h.1),
      right_front g.W.Gives.gives given c.pop.new.self.items c.in-Some.done c.loop-done.all.items items h.1,
    )

pub loop-done-preserved-then-number-table-2 : goal.loop-done-preserved-then-number-table-2
loop-done-preserved-then-number-table-2 g c =
    λ given is right.
    let h = c.loop-done.invariant given is right in
    let items = c.in-Some.ensures.items in (
      table_noted g.W.Gives.gives given c.loop-done.table c.in-Some.done.number c.in-Some.done.answer h.0 (right_last g.W.Gives.gives given c.pop.new.self.items c.in-Some.done c.loop-done.all.items items h.1),
      right_front g.W.Gives.gives given c.pop.new.self.items c.in-Some.done c.loop-done.all.items items h.1,
    )

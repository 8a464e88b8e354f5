use Rattle.std.proofs.Common.{◌∙◌, sym, subst, map}
use Rattle.sf_team.proofs.Common.{arc_value, IsTable}
use Rattle.sf_team.proofs.Tables.{whole}
use Rattle.sf_team.proofs.team.Team.finish.Goals as goal

pub join_all-requires-clause-caller : goal.join_all-requires-clause-caller
join_all-requires-clause-caller g c = (map arc_value c.self.inside.given.items, c.stop_all.ensures.caller _ c.self.invariant.1)

pub fill-requires-clause-table : goal.fill-requires-clause-table
fill-requires-clause-table g c =
    let given = map arc_value c.self.inside.given.items in
    let table = subst (IsTable g.W.Gives.gives given) (sym c.deref_mut.ensures.value) c.self.invariant.3 in
    let joined = c.join_all.ensures given (c.stop_all.ensures.caller given c.self.invariant.1) table in
    let size = joined.count ∙ sym c.self.invariant.3.count in
    let same = c.deref_mut-2.ensures.value ∙ whole c.self.inside.table.len c.join_all.new.table c.self.inside.table.items c.self.inside.table.ok.0 size in
    let placed = subst (IsTable g.W.Gives.gives given) (sym same) joined in
    subst (λ l. IsTable g.W.Gives.gives (map arc_value l) c.deref_mut-2.result.now) (sym c.deref.ensures.value) placed

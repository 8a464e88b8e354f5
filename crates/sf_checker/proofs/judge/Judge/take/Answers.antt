use Rattle.std.proofs.Common.{◌≡◌, sym, subst, ◌∙◌, None}
use Rattle.sf_checker.proofs.Common.{Judged, IsFound}
use Rattle.sf_checker.proofs.Judged.{found-next, found-fault, none-of}
use Rattle.sf_checker.proofs.judge.Judge.take.Goals as goal

pub returns-in-Err-clause-found : goal.returns-in-Err-clause-found
returns-in-Err-clause-found g c cert tags more same is found =
    let old : Judged = record { walk = c.self.inside.walk; found = c.self.inside.found } in
    let none : c.self.inside.found ≡ None = none-of c.self.inside.found (sym c.is_some.ensures ∙ c.if-is_some.false) in
    found-fault c.args.design.now (g.B.Values.value c.args.bounds.now c.args.design.now) (g.B.Bounds.part_value c.args.bounds.now c.args.design.now) cert tags more c.args.tag old (subst (IsFound c.args.design.now (g.B.Values.value c.args.bounds.now c.args.design.now) (g.B.Bounds.part_value c.args.bounds.now c.args.design.now) cert tags) (sym c.self.view_is) found)
    c.args.cost none same is c.in-Err.why (rw c.in-Err.is at c.in_ok-why.ensures.visited)

pub returns-in_default-clause-found : goal.returns-in_default-clause-found
returns-in_default-clause-found g c cert tags more same is found =
    let old : Judged = record { walk = c.self.inside.walk; found = c.self.inside.found } in
    let none : c.self.inside.found ≡ None = none-of c.self.inside.found (sym c.is_some.ensures ∙ c.if-is_some.false) in
    found-next c.args.design.now (g.B.Values.value c.args.bounds.now c.args.design.now) (g.B.Bounds.part_value c.args.bounds.now c.args.design.now) cert tags more c.args.tag old (subst (IsFound c.args.design.now (g.B.Values.value c.args.bounds.now c.args.design.now) (g.B.Bounds.part_value c.args.bounds.now c.args.design.now) cert tags) (sym c.self.view_is) found)
    c.args.cost none same is (record { walk = c.visit.new.self; found = c.self.inside.found }) none (rw c.in_default.is at c.in_ok-why.ensures.visited)

use Rattle.std.proofs.Common.{List, Option, Ok, Err, subst, ◌∙◌}
use Rattle.sf_program.proofs.Common.{Bool, Contents, IfNamed, PlacementRead, Stops, admitted_in, err_from_is_err_and, plan_seen}
use Rattle.sf_program.proofs.InputRead.{begun-read, begun-stops}
use Rattle.sf_program.proofs.plan_input.read_input.Goals as goal

pub returns-in_err-begin-clause-input : goal.returns-in_err-begin-clause-input
returns-in_err-begin-clause-input g c =
    let held = (g.S.Shelf.seen c.args.shelf.now).holds in
    let o = plan_seen c.args.words.now in
    let design = c.in_ok-design.design in
    let stop = c.in_err-begin.field-0.0 in
    let Fails : Option Contents → List Bool → Type 0 = λ h soft. Stops stop (λ why. IfNamed (PlacementRead h o.design.per_unit soft design) o.begin (Err why)) in
    let failed = subst (Fails held) (c.deref.ensures.value ∙ c.in_ok-soft.ensures) (subst (λ h. Fails h c.deref.result.now) c.in_ok-admitted.ensures.shelf.0.unchanged c.in_err-begin.ensures.begin) in
    let p = err_from_is_err_and c.from_residual-in_err-begin.result c.from_residual-in_err-begin.ensures.1 in
    rw (p.1, p.2) (begun-stops held o (admitted_in c.in_ok-admitted.admitted) c.in_ok-admitted.ensures.parts design c.in_ok-design.ensures.design stop failed)

pub returns-clause-input : goal.returns-clause-input
returns-clause-input g c =
    let held = (g.S.Shelf.seen c.args.shelf.now).holds in
    let o = plan_seen c.args.words.now in
    let design = c.in_ok-design.design in
    let Begins : Option Contents → List Bool → Type 0 = λ h soft. IfNamed (PlacementRead h o.design.per_unit soft design) o.begin (Ok c.in_ok-begin.begin) in
    let begun = subst (Begins held) (c.deref.ensures.value ∙ c.in_ok-soft.ensures) (subst (λ h. Begins h c.deref.result.now) c.in_ok-admitted.ensures.shelf.0.unchanged c.in_ok-begin.ensures.begin) in
    begun-read held o (admitted_in c.in_ok-admitted.admitted) c.in_ok-admitted.ensures.parts design c.in_ok-design.ensures.design c.in_ok-begin.begin begun

use Rattle.std.proofs.Common.{◌<◌, length, arith, refl, inl, inr, ap, subst}
use Rattle.sf_rounds.proofs.Common.{AreParts, nil_from_length, tags_in, nat_tests}
use Rattle.sf_rounds.proofs.Gone.{gone-none, goes-on, goes-less, leg-is, step-few}
use Rattle.sf_rounds.proofs.legs.go_on.Goals.{else-loop-budget-test, then-loop-budget-test+then-is_empty}
use Rattle.sf_rounds.proofs.legs.go_on.Goals as goal

pub loop-budget-init : goal.loop-budget-init
loop-budget-init g c =
    let design = c.args.design.now in
    let n = gone-none design (g.B.Values.value c.args.bounds.now design) (g.B.Bounds.part_value c.args.bounds.now design) c.args.stretches.items c.args.value _ refl c.new.ensures.items refl c.requires.stretches c.requires.best in
    (n.0, omega (arith, n.1))

pub left_of-budget-requires : goal.left_of-budget-requires
left_of-budget-requires g c =
    let design = c.args.design.now in
    let few = step-few design (g.B.Values.value c.args.bounds.now design) (g.B.Bounds.part_value c.args.bounds.now design) c.in_ok-parts.parts.items c.loop-budget.leg.value c.loop-budget.budget c.in_ok-out.out c.in_ok-out.ensures in
    record { few = omega (arith, few, ap tags_in c.deref.ensures.value) }

pub loop-budget-smaller : goal.loop-budget-smaller
loop-budget-smaller g c =
    let design = c.args.design.now in
    let bound = g.B.Values.value c.args.bounds.now design in
    let cut = subst (λ left. AreParts design bound left.items c.in_ok-parts.parts.items) c.replace-left.ensures.value c.in_ok-parts.ensures in
    let some : 0 < length c.loop-budget.leg.left.items = grind (arith, nat_tests, c.is_empty.ensures, c.if-is_empty.false) in
    goes-less design bound (g.B.Bounds.part_value c.args.bounds.now design) c.args.stretches.items c.args.value c.loop-budget.budget c.left_of-budget.result c.loop-budget.leg c.in_ok-parts.parts.items c.in_ok-out.out cut some c.in_ok-out.ensures
    (omega (arith, c.left_of-budget.ensures.left, ap tags_in c.deref.ensures.value))

pub loop-budget-preserved : goal.loop-budget-preserved
loop-budget-preserved g c =
    let design = c.args.design.now in
    let bound = g.B.Values.value c.args.bounds.now design in
    let cut = subst (λ left. AreParts design bound left.items c.in_ok-parts.parts.items) c.replace-left.ensures.value c.in_ok-parts.ensures in
    goes-on design bound (g.B.Bounds.part_value c.args.bounds.now design) c.args.stretches.items c.args.value c.args.options.nodes c.loop-budget.budget c.left_of-budget.result c.loop-budget.leg _ c.absorb.new.leg c.in_ok-parts.parts.items c.in_ok-out.out
    c.loop-budget.invariant cut c.in_ok-out.ensures refl refl c.in_ok-absorb.ensures (omega (arith, c.left_of-budget.ensures.left, ap tags_in c.deref.ensures.value))

pub returns : goal.returns
returns g c =
    let design = c.args.design.now in
    let leg = c.loop-budget.leg in
    leg-is design (g.B.Values.value c.args.bounds.now design) (g.B.Bounds.part_value c.args.bounds.now design) c.args.stretches.items c.args.value c.args.options.nodes c.loop-budget.budget leg c.loop-budget.invariant (elim c.loop-budget-test.branch [
      | else-loop-budget-test w ↦ inr (let k = w.loop-budget-test.false in omega arith)
      | then-loop-budget-test+then-is_empty w ↦ inl (nil_from_length leg.left.items (grind (arith, nat_tests, w.is_empty.ensures, w.if-is_empty.true)))
    ])

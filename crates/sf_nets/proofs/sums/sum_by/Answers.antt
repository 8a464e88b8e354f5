use Rattle.std.proofs.Common.{◌≡◌, refl, ap, sym, subst, ◌∙◌, inl, inr}
use Rattle.sf_nets.proofs.Common.{nets_by, wires_by, Part}
use Rattle.sf_nets.proofs.sums.sum_by.Goals as goal

pub returns-in-Full : goal.returns-in-Full
returns-in-Full c = c.full_sum.ensures ∙ ap (wires_by c.args.design.now c.args.node.now) (sym c.in-Full.is)

pub returns-in-Area : goal.returns-in-Area
returns-in-Area c =
    let d = c.args.design.now in
    let n = c.args.node.now in
    let same : Part → Type 0 = λ p. nets_by d n p ≡ wires_by d n p in
    let by : same c.args.part = elim c.in-Area.is [
      | inl is ↦ subst same (sym is) refl
      | inr others ↦ elim others [
        | inl is ↦ subst same (sym is) refl
        | inr rest ↦ elim rest [ inl is ↦ subst same (sym is) refl | inr is ↦ subst same (sym is) refl ]
      ]
    ] in
    c.sum_and_rest-sum.ensures.sum ∙ by

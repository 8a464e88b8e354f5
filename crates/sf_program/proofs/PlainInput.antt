-- What `plan` reads where no placement is given.
use Rattle.std.proofs.Common.{◌≡◌, inl, inr, Option, None, Ok, Err, refl, sym, subst, ap}
use Rattle.sf_program.proofs.Common.{Beginning, BeginRead, Contents, Design, IfNamed, PlacementRead, PlanDesign, PlanInput, PlanOptions, Refusal, softness}
use Rattle.sf_parts.specs.declared.raw.Parts.{Parts}

-- a design is refused before what its search begins with is read
pub refused-first : (held : Option Contents) (o : PlanOptions) (why : Refusal) → PlanDesign held o (Err why) → PlanInput held o (Err why)
refused-first held o why h =
    elim h [
      | inl m ↦ inl (m.0, m.1, inr (why, m.2, refl))
      | inr m ↦ inr (m.0, m.1, (let same : why ≡ m.0 = (let e = m.2 in cc) in ap Err same))
    ]

module _ (held : Option Contents) (o : PlanOptions) (none : o.begin ≡ None) where
  -- a search begins with nothing where no file is named
  nothing-read : (parts : Parts) (design : Design) → BeginRead held o parts design (Ok None)
  nothing-read parts design = subst (λ name. IfNamed (PlacementRead held o.design.per_unit (softness parts) design) name (Ok None)) (sym none) refl

  -- and with nothing else
  nothing-else : (parts : Parts) (design : Design) (begin : Option Beginning) → BeginRead held o parts design (Ok begin) → begin ≡ None
  nothing-else parts design begin h =
      let e : Ok begin ≡ Ok None = subst (λ name. IfNamed (PlacementRead held o.design.per_unit (softness parts) design) name (Ok begin)) none h in cc

  -- so all that is read is the design
  pub design-alone : (design : Design) → PlanDesign held o (Ok design) → PlanInput held o (Ok (design, None))
  design-alone design h =
      elim h [
        | inl m ↦ inl (m.0, m.1, inl (design, m.2, (refl, nothing-read m.0.parts design)))
        | inr m ↦ (let e = m.2 in absurd (cc))
      ]

  -- and nothing is read beside it
  pub nothing-beside : (input : Design × Option Beginning) → PlanInput held o (Ok input) → input.1 ≡ None
  nothing-beside input h =
      elim h [
        | inl m ↦ elim m.2 [
          | inl n ↦ nothing-else m.0.parts n.0 input.1 n.2.1
          | inr n ↦ (let e = n.2 in absurd (cc))
        ]
        | inr m ↦ (let e = m.2 in absurd (cc))
      ]

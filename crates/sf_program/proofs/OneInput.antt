-- What `plan` reads is one design, or is refused for one reason.
use Rattle.std.proofs.Common.{◌≡◌, ◌<◌, inl, inr, ℕ, Bool, List, [], ◌∷◌, length, Option, Some, Result, Ok, Err, refl, sym, ap, subst, ◌∙◌, arith}
use Rattle.sf_program.proofs.Common.{codes, Beginning, BeginRead, BegunDesign, BudgetedDesign, Contents, Design, HasBlocksOf, HasEachOnce, HasShapeFor, IsByNumber, IsFirstWithout, IsPacked, IsPackedBeginning, IsSlicing, Packs, PartsAdmitted, PartsRead, PlacementRead, PlacementRefused, PlanInput, PlanOptions, Refusal, Spot, SpotsRead, Tree, WeighedParts, With, block_count, design_fault, name_of, softness}
use Rattle.sf_place.proofs.Legality.{none_without}
use Rattle.sf_program.proofs.Once.{GivesAlike, named-alike, then-alike, unseen, with-alike}
use Rattle.sf_program.proofs.OneDesign.{admitted-parts, budgeted-made, budgeted-one, made-blocks, parts-admitted-one}
use Rattle.sf_program.proofs.PlacedSpots.{spots-one, spots-stand}
use Rattle.sf_parts.specs.declared.raw.Parts.{Parts}

-- one block is the first whose spot isn't as P says
one-first : (P : Spot → Type 0) (spots : List Spot) (a b : ℕ) → IsFirstWithout P spots a → IsFirstWithout P spots b → a ≡ b
one-first P spots a b f g =
    let above : ¬ (a < b) = λ less. f.without (g.before a less) in
    let below : ¬ (b < a) = λ less. g.without (f.before b less) in
    omega (arith, above, below)

module _ (soft : List Bool) (design : Design) (spots : List Spot) (numbered : IsByNumber spots) (one_each : length spots ≡ block_count design) where
  -- a tree cuts what is packed
  packed-slicing : (tree : Tree) → IsPacked design soft spots tree → IsSlicing spots
  packed-slicing tree p = (tree, subst (λ n. HasEachOnce n tree) (sym one_each) p.legal.blocks, p.cuts)

  -- so what is packed isn't refused
  packed-refused : (begin : Beginning) (why : Refusal) → IsPackedBeginning design soft spots begin → PlacementRefused soft design spots why → ⊥
  packed-refused begin why p r =
      elim r [
        | inl n ↦ n.0 (packed-slicing p.tree p.packed)
        | inr u ↦ none_without (HasShapeFor design soft) spots u.0 numbered p.packed.each_shaped u.2
      ]

  -- and there is one reason to refuse a placement
  refused-one : (v w : Refusal) → PlacementRefused soft design spots v → PlacementRefused soft design spots w → v ≡ w
  refused-one v w a b =
      elim a [
        | inl m ↦ elim b [ inl n ↦ m.1 ∙ sym n.1 | inr n ↦ absurd (m.0 n.1) ]
        | inr m ↦ elim b [
          | inl n ↦ absurd (n.0 m.1)
          | inr n ↦ m.3 ∙ ap (λ k. design_fault (codes "Unlisted" ∷ name_of design k ∷ [])) (one-first (HasShapeFor design soft) spots m.0 n.0 m.2 n.2) ∙ sym n.3
        ]
      ]

  -- a placement is packed, or refused for one reason
  packs-alike : {any : Bool} → GivesAlike any unseen (Packs soft design spots)
  packs-alike (Ok x) (Ok y) a b told = refl
  packs-alike (Ok x) (Err w) a b told = packed-refused x w a b
  packs-alike (Err v) (Ok y) a b told = packed-refused y v b a
  packs-alike (Err v) (Err w) a b told = refused-one v w a b

-- the design that is read beside what its search begins with
abbrev pub design_in : Design × Option Beginning → Design
design_in input = input.0

module _ (contents : Contents) where
  -- so is the placement of a file
  placement-alike : (scale : ℕ) (soft : List Bool) (design : Design) (name : List ℕ) → GivesAlike contents.may_fail unseen (PlacementRead (Some contents) scale soft design name)
  placement-alike scale soft design name =
      then-alike unseen (SpotsRead (Some contents) scale name design) (Packs soft design) (spots-one contents scale name design)
      (λ spots read. let stand = spots-stand contents scale name design spots read in packs-alike soft design spots stand.0 stand.1)

  -- also where it may be left out
  begin-alike : (o : PlanOptions) (parts : Parts) (design : Design) → GivesAlike contents.may_fail unseen (BeginRead (Some contents) o parts design)
  begin-alike o parts design =
      named-alike (PlacementRead (Some contents) o.design.per_unit (softness parts) design) (placement-alike o.design.per_unit (softness parts) design) o.begin

  -- what `plan` reads is one design, or is refused for one reason
  pub input-alike : (o : PlanOptions) → GivesAlike contents.may_fail design_in (PlanInput (Some contents) o)
  input-alike o =
      then-alike design_in (PartsAdmitted (Some contents) o.design o.weights) (BegunDesign (Some contents) o) (parts-admitted-one contents o.design o.weights)
      (λ read admitted. then-alike design_in (BudgetedDesign o read) (With (BeginRead (Some contents) o read.parts)) (budgeted-one o read)
      (λ design made. with-alike (BeginRead (Some contents) o read.parts) design (begin-alike o read.parts design)))

-- the design has the blocks that its files name
pub input-blocks : (contents : Contents) (o : PlanOptions) (read : WeighedParts) (input : Design × Option Beginning) → PartsRead (Some contents) o.design.per_unit o.design.input o.weights.net_weights (Ok read) → PlanInput (Some contents) o (Ok input)
    → HasBlocksOf read.parts.blocks input.0
input-blocks contents o read input said stands =
    elim stands [
      | inl m ↦ elim m.2 [
        | inl n ↦ subst (λ (d : Design). HasBlocksOf read.parts.blocks d) (sym n.2.0)
            (subst (λ (p : WeighedParts). HasBlocksOf p.parts.blocks n.0) (admitted-parts contents o.design o.weights read m.0 said m.1) (made-blocks o.design o.weights m.0 n.0 (budgeted-made o m.0 n.0 n.1)))
        | inr n ↦ (let e = n.2 in absurd (cc))
      ]
      | inr m ↦ (let e = m.2 in absurd (cc))
    ]

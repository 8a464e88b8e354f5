-- What the search of `plan` begins with where the file of a placement is named.
use Rattle.std.specs.Prelude.{◌≡◌, ℕ, ◌⊎◌, List, [], ◌∷◌, map, codes, Option, Result, Ok, Err, Bool, true, false, slice_index_or}
use Rattle.sf_io.specs.Outside.{Contents}
use Rattle.sf_model.specs.declared.design.Design.{Design}
use Rattle.sf_model.specs.declared.plan.Spot.{Spot}
use Rattle.sf_parts.specs.declared.raw.Kind.{Kind}
use Rattle.sf_parts.specs.declared.raw.Kind.TheVariants.{Hard, Soft}
use Rattle.sf_parts.specs.declared.raw.Parts.{Parts}
use Rattle.sf_parts.specs.declared.raw.RawBlock.{RawBlock}
use Rattle.sf_anneal.specs.declared.beginning.Beginning.{Beginning}
use Rattle.sf_cuts.specs.Cuts.{IsSlicing}
use Rattle.sf_cuts.specs.Packed.{HasShapeFor}
use Rattle.sf_known.specs.Packed.{IsPackedBeginning}
use Rattle.sf_place.specs.Verdict.{IsFirstWithout}
use Rattle.sf_options.specs.Options.{PlanOptions}
use Rattle.sf_designs.specs.Outcome.{Refusal, Then}
use Rattle.sf_designs.specs.Reading.{IfNamed}
use Rattle.sf_designs.specs.Refusals.{design_fault}
use Rattle.sf_measuring.specs.Measured.{SpotsRead}

-- whether a block of this kind is soft
abbrev pub is_soft : Kind → Bool
is_soft (Hard w h) = false
is_soft (Soft area min max) = true

-- the same of each block, by number
abbrev pub softness : Parts → List Bool
softness parts = map (λ (block : RawBlock). is_soft block.kind) parts.blocks

-- the name of a block, by its number
abbrev pub name_of : Design → ℕ → List ℕ
name_of design b = (slice_index_or design.blocks b (record { name = []; shapes = [] })).name

-- a placement is refused where no slicing tree cuts it, and else where this is the first hard block whose size isn't listed
abbrev pub PlacementRefused : List Bool → Design → List Spot → Refusal → Type 0
PlacementRefused soft design spots why =
    (¬ (IsSlicing spots) × (why ≡ design_fault (codes "NotSlicing" ∷ [])))
    ⊎ ((b : ℕ) × IsSlicing spots × IsFirstWithout (HasShapeFor design soft) spots b × (why ≡ design_fault (codes "Unlisted" ∷ name_of design b ∷ [])))

-- the plan to which a placement is packed, or why there is none
abbrev pub Packs : List Bool → Design → List Spot → Result Beginning Refusal → Type 0
Packs soft design spots (Ok begin) = IsPackedBeginning design soft spots begin
Packs soft design spots (Err why) = PlacementRefused soft design spots why

-- the same of the placement that the file of this name gives the blocks of a design
abbrev pub PlacementRead : Option Contents → ℕ → List Bool → Design → List ℕ → Result Beginning Refusal → Type 0
PlacementRead held scale soft design name = Then (SpotsRead held scale name design) (Packs soft design)

-- what a search begins with by the file of a placement, or nothing where none is named
abbrev pub BeginRead : Option Contents → PlanOptions → Parts → Design → Result (Option Beginning) Refusal → Type 0
BeginRead held o parts design = IfNamed (PlacementRead held o.design.per_unit (softness parts) design) o.begin

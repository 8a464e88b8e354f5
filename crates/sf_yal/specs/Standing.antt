-- What a YAL text stands for, and the first fault of one that stands for nothing.
use Rattle.std.specs.Prelude.{◌≡◌, ◌≢◌, ◌⊎◌, ℕ, true, false, List, [], ◌∷◌, ◌++◌, map, Option, Some, None}
use Rattle.std.specs.List.{AllZip}
use Rattle.sf_parts.specs.declared.raw.Parts.{Parts}
use Rattle.sf_yal.specs.declared.fault.YalFault.{YalFault}
use Rattle.sf_yal.specs.declared.fault.YalFault.TheVariants.{Truncated, NoParent}
use Rattle.sf_yal.specs.Statements.{statements_of, is_ended, last_line}
use Rattle.sf_yal.specs.Modules.{Worded, worded, Cut, Nothing, AreCut, modules, parent_place, pads_of, instances_of}
use Rattle.sf_yal.specs.Faults.{fault_at, IsBlockOf, FirstInstanceFault}
use Rattle.sf_yal.specs.Nets.{nets_of}

-- no statement has a fault where it stands
abbrev pub AreSound : ℕ → List Worded → Type 0
AreSound scale statements = (before after : List Worded) (s : Worded) (c : Cut) → statements ≡ before ++ s ∷ after → AreCut before c → fault_at scale c s ≡ None

-- the first statement that has one
pub record FirstFault (scale : ℕ) (statements : List Worded) (fault : YalFault) : Type 0 where
  pub before : List Worded
  pub s : Worded
  pub after : List Worded
  pub statements_are : statements ≡ before ++ s ∷ after
  pub sound : AreSound scale before
  pub cut : Cut
  pub are_cut : AreCut before cut
  pub faulty : fault_at scale cut s ≡ Some fault

-- the statements of a text have no fault, and are cut so
pub record IsCut (scale : ℕ) (text : List ℕ) (cut : Cut) : Type 0 where
  pub sound : AreSound scale (worded (statements_of text))
  pub are_cut : AreCut (worded (statements_of text)) cut

-- at the end no comment, no statement, no list and no module is open
abbrev pub IsEnded : List ℕ → Cut → Type 0
IsEnded text cut = (is_ended text ≡ true) × (cut.rest ≡ Nothing)

-- a text and the parts of a design: a block for each instance of the parent, a net for each distinct signal of these,
-- and the parent's pads
pub record StandsFor (scale : ℕ) (text : List ℕ) (out : Parts) : Type 0 where
  pub cut : Cut
  pub is_cut : IsCut scale text cut
  pub ended : IsEnded text cut
  pub parent : ℕ
  pub parent_is : parent_place (modules cut) ≡ Some parent
  pub blocks : AllZip (IsBlockOf scale (modules cut) parent) (instances_of cut) out.blocks
  pub nets : out.nets ≡ nets_of (map (λ i. i.signals) (instances_of cut)) (map (λ p. p.name) (pads_of scale cut))
  pub pads : out.pads ≡ pads_of scale cut
  pub strangers : out.strangers ≡ []
  pub pads_in : out.pads_in ≡ true

-- there is no parent, or one of its instances has a fault
abbrev pub PartsFault : ℕ → Cut → Option ℕ → YalFault → Type 0
PartsFault scale cut None fault = fault ≡ NoParent
PartsFault scale cut (Some parent) fault = FirstInstanceFault scale (modules cut) parent (instances_of cut) fault

-- after the statements: something is open at the end, or there are no parts
abbrev pub EndFault : ℕ → List ℕ → Cut → YalFault → Type 0
EndFault scale text cut fault = (((is_ended text ≡ false) ⊎ (cut.rest ≢ Nothing)) × (fault ≡ Truncated (last_line text)))
    ⊎ (IsEnded text cut × PartsFault scale cut (parent_place (modules cut)) fault)

-- the first fault of a text: that of a statement, or one after the statements
abbrev pub HasFault : ℕ → List ℕ → YalFault → Type 0
HasFault scale text fault = FirstFault scale (worded (statements_of text)) fault ⊎ ((cut : Cut) × IsCut scale text cut × EndFault scale text cut fault)

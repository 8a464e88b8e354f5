-- Which part each closed subproblem of a certificate names.
use Rattle.std.specs.Prelude.{◌≡◌, ℕ, List, [], ◌∷◌, map, All, ⊤}
use Rattle.sf_model.specs.declared.design.Design.{Design}
use Rattle.sf_node.specs.declared.part.Part.{Part}
use Rattle.sf_node.specs.declared.part.Part.TheVariants.{Full}
use Rattle.sf_node.specs.Parts.{Parts}
use Rattle.sf_node.specs.Subproblem.{root}
use Rattle.sf_node.specs.ByPart.{first_part}
use Rattle.sf_certificate.specs.declared.cert.Cert.{Cert}
use Rattle.sf_certificate.specs.declared.mark.Mark.{Mark}
use Rattle.sf_certificate.specs.declared.tag.Tag.{Tag}
use Rattle.sf_certificate.specs.declared.tag.Tag.TheVariants.{Extend, Split, Closed, Open}
use Rattle.sf_certificate.specs.Marks.{marks}

-- a closed subproblem names the first part whose value is at least the cost
abbrev pub NamesFirst : (Parts → Part → ℕ) → ℕ → Tag → Parts → Type 0
NamesFirst part cost Extend node = ⊤
NamesFirst part cost (Split b) node = ⊤
NamesFirst part cost (Closed p) node = p ≡ first_part (part node) cost
NamesFirst part cost Open node = ⊤

-- each closed subproblem of the certificate's tree does
abbrev pub AllNameFirst : Design → (Parts → Part → ℕ) → ℕ → List Tag → Type 0
AllNameFirst design part cost tags = All (λ mark. NamesFirst part cost mark.tag mark.node) (marks (root design ∷ []) tags)

-- a tag without the part that it names: the full one stands for any
abbrev pub unnamed : Tag → Tag
unnamed Extend = Extend
unnamed (Split b) = Split b
unnamed (Closed p) = Closed Full
unnamed Open = Open

-- a subproblem with its tag, without the part that it names
abbrev pub unnamed_mark : Mark → Mark
unnamed_mark mark = record { node = mark.node; tag = unnamed mark.tag }

-- the certificates differ in the parts that they name alone
pub record AreAlikeButNames (old new : Cert) : Type 0 where
  pub blocks : new.blocks ≡ old.blocks
  pub plan : new.plan ≡ old.plan
  pub cost : new.cost ≡ old.cost
  pub bound : new.bound ≡ old.bound
  pub paths : new.paths ≡ old.paths
  pub tags : map unnamed new.tags ≡ map unnamed old.tags

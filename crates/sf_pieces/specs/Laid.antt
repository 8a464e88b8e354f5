-- Pieces that hold one tree, and the certificate that they make when they are laid end to end.
use Rattle.std.specs.Prelude.{◌≡◌, ℕ, List, [], ◌∷◌, map, All, Option, IsPermutation}
use Rattle.std.specs.List.{flat_map}
use Rattle.sf_model.specs.declared.design.Design.{Design}
use Rattle.sf_model.specs.Legal.{block_count}
use Rattle.sf_polish.specs.declared.expr.Expr.{Expr}
use Rattle.sf_node.specs.declared.part.Part.{Part}
use Rattle.sf_node.specs.Parts.{Parts}
use Rattle.sf_node.specs.Subproblem.{root}
use Rattle.sf_certificate.specs.declared.cert.Cert.{Cert}
use Rattle.sf_certificate.specs.declared.mark.Mark.{Mark}
use Rattle.sf_certificate.specs.declared.tag.Tag.{Tag}
use Rattle.sf_certificate.specs.declared.tag.Tag.TheVariants.{Extend, Split, Closed, Open}
use Rattle.sf_certificate.specs.Marks.{IsFair, made, marks}
use Rattle.sf_certificate.specs.Valid.{IsValid}
use Rattle.sf_pieces.specs.declared.piece.Piece.{Piece}
use Rattle.sf_pieces.specs.Told.{IsRead, told_by}

-- the subproblem, where its tag leaves it open
abbrev pub open_at : Tag → Parts → List Parts
open_at Extend node = []
open_at (Split b) node = []
open_at (Closed p) node = []
open_at Open node = node ∷ []

-- the subproblems that are left open
abbrev pub open_in : List Mark → List Parts
open_in marks = flat_map (λ m. open_at m.tag m.node) marks

-- the pieces hold one tree: the root and what the tags make are, in some order, the subproblems that have tags, and each tag may stand where it does
pub record HoldTree (design : Design) (part : Parts → Part → ℕ) (cost : ℕ) (pieces : List Piece) : Type 0 where
  pub read : All (IsRead design) pieces
  pub once : IsPermutation (root design ∷ flat_map (λ m. made m.tag m.node) (told_by design pieces)) (map (λ m. m.node) (told_by design pieces))
  pub fair : All (λ m. IsFair part cost m.tag m.node) (told_by design pieces)

-- the certificate is valid, its tree has just the subproblems and tags of the pieces, plan, cost and bound are these, and the paths are those of the design
pub record IsLaid (design : Design) (value : Parts → ℕ) (part : Parts → Part → ℕ) (pieces : List Piece) (plan : Option Expr) (cost bound : ℕ) (cert : Cert) : Type 0 where
  pub valid : IsValid design value part cert
  pub same : IsPermutation (told_by design pieces) (marks (root design ∷ []) cert.tags)
  pub blocks : cert.blocks ≡ block_count design
  pub plan_is : cert.plan ≡ plan
  pub cost_is : cert.cost ≡ cost
  pub bound_is : cert.bound ≡ bound
  pub paths_is : cert.paths ≡ design.routes.paths

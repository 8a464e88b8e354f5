-- A certificate whose tree goes on where it was left open.
use Rattle.std.specs.Prelude.{◌≡◌, ℕ, ◌+◌, ◌≤◌, List, [], ◌∷◌, ◌++◌, length, map, All, Option, IsPermutation}
use Rattle.sf_model.specs.declared.design.Design.{Design}
use Rattle.sf_model.specs.Legal.{block_count}
use Rattle.sf_polish.specs.declared.expr.Expr.{Expr}
use Rattle.sf_node.specs.declared.part.Part.{Part}
use Rattle.sf_node.specs.Parts.{Parts}
use Rattle.sf_node.specs.Subproblem.{root}
use Rattle.sf_search_core.specs.declared.entry.Entry.{Entry}
use Rattle.sf_search_core.specs.Conserved.{IsConserved}
use Rattle.sf_certificate.specs.declared.cert.Cert.{Cert}
use Rattle.sf_certificate.specs.declared.tag.Tag.{Tag}
use Rattle.sf_certificate.specs.Marks.{marks}
use Rattle.sf_certificate.specs.Named.{AllNameFirst}
use Rattle.sf_certificate.specs.Valid.{AreTrees, IsValid, decided, least, left_open}
use Rattle.sf_pieces.specs.declared.piece.Piece.{Piece}
use Rattle.sf_pieces.specs.Told.{AreTold, IsRead, open_mark, told_by}

-- the old pieces are what the tree of these tags decided, closed against the cost before; the new ones tell what was decided from its open subproblems on and what is left open now, no entry was decided by a value below the cost, and the bound is the least of the cost and of what is left open
pub record CanGraft (design : Design) (value : Parts → ℕ) (part : Parts → Part → ℕ) (tags : List Tag) (before : ℕ) (old new : List Piece) (cost bound : ℕ) (entries : List Entry) (left : List Parts) : Type 0 where
  pub trees : AreTrees part before (root design ∷ []) tags
  pub read : All (IsRead design) old
  pub told_old : IsPermutation (told_by design old ++ map open_mark (left_open (root design ∷ []) tags)) (marks (root design ∷ []) tags)
  pub conserved : IsConserved value (left_open (root design ∷ []) tags) entries left
  pub told : AreTold design part cost entries left new
  pub fresh : All (λ e. cost ≤ e.value) entries
  pub lower : cost ≤ before
  pub lowest : bound ≡ least cost (map value left)

-- the certificate is valid, each closed subproblem of it names the first part that is at least the cost, and it decides what the tags and the entries do
pub record IsGrafted (design : Design) (value : Parts → ℕ) (part : Parts → Part → ℕ) (tags : List Tag) (entries : List Entry) (plan : Option Expr) (cost bound : ℕ) (cert : Cert) : Type 0 where
  pub valid : IsValid design value part cert
  pub named : AllNameFirst design part cost cert.tags
  pub counted : decided cert.tags ≡ decided tags + length entries
  pub blocks : cert.blocks ≡ block_count design
  pub plan_is : cert.plan ≡ plan
  pub cost_is : cert.cost ≡ cost
  pub bound_is : cert.bound ≡ bound
  pub paths_is : cert.paths ≡ design.routes.paths

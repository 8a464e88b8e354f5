-- The pieces of a search, and its certificate.
use Rattle.std.specs.Prelude.{◌≡◌, ℕ, ◌≤◌, List, [], ◌∷◌, ◌++◌, length, map, All, Option, IsPermutation}
use Rattle.sf_model.specs.declared.design.Design.{Design}
use Rattle.sf_model.specs.Legal.{block_count}
use Rattle.sf_polish.specs.declared.expr.Expr.{Expr}
use Rattle.sf_node.specs.declared.part.Part.{Part}
use Rattle.sf_node.specs.ByPart.{ArePartsOf}
use Rattle.sf_node.specs.Parts.{Parts}
use Rattle.sf_node.specs.Subproblem.{root}
use Rattle.sf_search_core.specs.declared.entry.Entry.{Entry}
use Rattle.sf_search_core.specs.Conserved.{IsConserved}
use Rattle.sf_certificate.specs.declared.cert.Cert.{Cert}
use Rattle.sf_certificate.specs.Marks.{marks}
use Rattle.sf_certificate.specs.Named.{AllNameFirst, unnamed}
use Rattle.sf_certificate.specs.Valid.{IsValid, decided, least}
use Rattle.sf_pieces.specs.declared.piece.Piece.{Piece}
use Rattle.sf_pieces.specs.Told.{AreTold, mark_of, open_mark}

-- for a bound function with its parts: the pieces tell entries and open subproblems that are conserved from the root, no entry was decided by a value below the cost, and the bound is the least of the cost and of what is left open
pub record IsSearched (design : Design) (value : Parts → ℕ) (part : Parts → Part → ℕ) (cost bound : ℕ) (pieces : List Piece) (entries : List Entry) (left : List Parts) : Type 0 where
  pub parts : ArePartsOf design value part
  pub conserved : IsConserved value (root design ∷ []) entries left
  pub told : AreTold design part cost entries left pieces
  pub fresh : All (λ e. cost ≤ e.value) entries
  pub lowest : bound ≡ least cost (map value left)

-- the certificate is valid, each closed subproblem of it names the first part that is at least the cost, and but for these names its tree is that of the entries and the open subproblems
pub record IsAssembled (design : Design) (value : Parts → ℕ) (part : Parts → Part → ℕ) (entries : List Entry) (left : List Parts) (plan : Option Expr) (cost bound : ℕ) (cert : Cert) : Type 0 where
  pub valid : IsValid design value part cert
  pub named : AllNameFirst design part cost cert.tags
  pub placed : IsPermutation (map mark_of entries ++ map open_mark left) (marks (root design ∷ []) (map unnamed cert.tags))
  pub counted : decided cert.tags ≡ length entries
  pub blocks : cert.blocks ≡ block_count design
  pub plan_is : cert.plan ≡ plan
  pub cost_is : cert.cost ≡ cost
  pub bound_is : cert.bound ≡ bound
  pub paths_is : cert.paths ≡ design.routes.paths

-- What a search that went on from a certificate hands over.
use Rattle.std.specs.Prelude.{◌≡◌, ℕ, ◌+◌, ◌<◌, ◌≤◌, [], ◌∷◌, sum_by}
use Rattle.sf_model.specs.declared.design.Design.{Design}
use Rattle.sf_model.specs.Legal.{block_count}
use Rattle.sf_node.specs.declared.part.Part.{Part}
use Rattle.sf_node.specs.Parts.{Parts}
use Rattle.sf_node.specs.Subproblem.{root}
use Rattle.sf_certificate.specs.declared.cert.Cert.{Cert}
use Rattle.sf_certificate.specs.Named.{AllNameFirst}
use Rattle.sf_certificate.specs.Valid.{IsValid, decided, left_open}
use Rattle.sf_count.specs.Given.{full_of}
use Rattle.sf_rounds.specs.declared.found.Found.{Found}

-- the full counts of what a certificate leaves open, in sum
abbrev pub full_open : Design → Cert → ℕ
full_open design cert = sum_by (full_of design) (left_open (root design ∷ []) cert.tags)

-- from this certificate on, with this budget
pub record IsResumed (design : Design) (value : Parts → ℕ) (part : Parts → Part → ℕ) (read : Cert) (nodes : ℕ) (found : Found) : Type 0 where
  -- the certificate is valid, and what is handed over beside it is its own
  pub valid : IsValid design value part found.cert
  pub blocks : found.cert.blocks ≡ block_count design
  pub plan_is : found.plan ≡ found.cert.plan
  pub cost_is : found.cost ≡ found.cert.cost
  pub bound_is : found.bound ≡ found.cert.bound
  pub paths_is : found.cert.paths ≡ design.routes.paths
  pub decided_is : found.decided ≡ decided found.cert.tags
  -- the cost is no higher than it was, and what was decided before stays so
  pub lower : found.cost ≤ read.cost
  -- the budget is kept, and spent where the bound is below the cost
  pub few : found.decided ≤ decided read.tags + nodes
  pub spent : found.bound < found.cost → found.decided ≡ decided read.tags + nodes
  -- with a budget of the full counts of what was open the search ends
  pub ended : full_open design read ≤ nodes → found.bound ≡ found.cost
  -- each closed subproblem names the first part of the bound that is at least the cost
  pub named : AllNameFirst design part found.cert.cost found.cert.tags

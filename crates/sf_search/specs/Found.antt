-- What a search hands over.
use Rattle.std.specs.Prelude.{◌≡◌, ⊤, ℕ, ◌<◌, ◌≤◌, ◌∷◌, ◌++◌, [], List, map, All, IsTrue, IsPermutation, Option, Some, None}
use Rattle.sf_model.specs.declared.design.Design.{Design}
use Rattle.sf_model.specs.Legal.{block_count}
use Rattle.sf_polish.specs.declared.expr.Expr.{Expr}
use Rattle.sf_node.specs.Parts.{Parts}
use Rattle.sf_node.specs.Subproblem.{root, is_solved}
use Rattle.sf_node.specs.Full.{IsFirstSplit, full}
use Rattle.sf_node.specs.declared.part.Part.{Part}
use Rattle.sf_bound.specs.Cheapest.{IsPlanOf, IsLeastTrace}
use Rattle.sf_search_core.specs.declared.entry.Entry.{Entry}
use Rattle.sf_search_core.specs.declared.entry.Kind.TheVariants as kind
use Rattle.sf_search_core.specs.State.{State}
use Rattle.sf_certificate.specs.declared.cert.Cert.{Cert}
use Rattle.sf_certificate.specs.declared.tag.Tag.{Tag}
use Rattle.sf_certificate.specs.declared.tag.Tag.TheVariants.{Extend, Split, Closed, Open}
use Rattle.sf_certificate.specs.Marks.{given_marks, marks}
use Rattle.sf_certificate.specs.Named.{AllNameFirst, unnamed}
use Rattle.sf_certificate.specs.Valid.{IsValid, decided, least}
use Rattle.sf_rounds.specs.declared.found.Found.{Found}

-- the plan of the subproblem that brought the word: the first entry whose value is the word is of this subproblem, which is solved. Where only areas count the plan is the trace of the least area; else the subproblem has no other plan
pub record IsOfFirst (design : Design) (entries : List Entry) (word : ℕ) (expr : Expr) : Type 0 where
  pub before : List Entry
  pub node : Parts
  pub after : List Entry
  pub at : entries ≡ before ++ record { node = node; kind = kind.Closed; value = word } ∷ after
  pub first : All (λ entry. word < entry.value) before
  pub solved : IsTrue (is_solved design node)
  pub plan : IsPlanOf design node expr word
  pub traced : design.weights.wire ≡ 0 → IsLeastTrace design node expr

-- of plans of one cost the first one found is kept
abbrev pub IsFirst : Design → State → Option Expr → Type 0
IsFirst design state None = ⊤
IsFirst design state (Some expr) = IsOfFirst design state.entries state.word expr

-- the certificate of a state in which no worker holds a task: the tree's subproblems with their tags are the entries and the open tasks, but for the parts that are named
pub record IsCertOf (design : Design) (state : State) (cert : Cert) : Type 0 where
  pub placed : IsPermutation (given_marks state.entries state.waiting) (marks (root design ∷ []) (map unnamed cert.tags))
  pub cost : cert.cost ≡ state.word
  pub bound : cert.bound ≡ least state.word (map (λ task. task.bound) state.waiting)
  pub paths : cert.paths ≡ design.routes.paths
  pub plan : IsFirst design state cert.plan

-- a split is of the first block whose span isn't single, at a complete subproblem that isn't solved
abbrev pub SplitsFirst : Design → Tag → Parts → Type 0
SplitsFirst design Extend node = ⊤
SplitsFirst design (Split b) node = IsFirstSplit design node b
SplitsFirst design (Closed p) node = ⊤
SplitsFirst design Open node = ⊤

-- each split of the tree is of the first block whose span is not single
abbrev pub AllSplitFirst : Design → List Tag → Type 0
AllSplitFirst design tags = All (λ mark. SplitsFirst design mark.tag mark.node) (marks (root design ∷ []) tags)

-- what a search with this budget hands over, however many workers it has
pub record IsFound (design : Design) (bound : Parts → ℕ) (part : Parts → Part → ℕ) (budget : ℕ) (found : Found) : Type 0 where
  -- the certificate is valid, and what is handed over beside it is its own
  pub valid : IsValid design bound part found.cert
  pub blocks : found.cert.blocks ≡ block_count design
  pub plan_is : found.plan ≡ found.cert.plan
  pub cost_is : found.cost ≡ found.cert.cost
  pub bound_is : found.bound ≡ found.cert.bound
  pub paths_is : found.cert.paths ≡ design.routes.paths
  pub decided_is : found.decided ≡ decided found.cert.tags
  -- the budget is kept, and spent where the bound is below the cost
  pub few : found.decided ≤ budget
  pub spent : found.bound < found.cost → found.decided ≡ budget
  -- no search decides more than there is, and with so large a budget each one ends
  pub splits : AllSplitFirst design found.cert.tags
  pub full_is : found.decided ≤ full design
  pub ended : full design ≤ budget → found.bound ≡ found.cost
  -- each closed subproblem names the first part of the bound that is at least the cost
  pub named : AllNameFirst design part found.cert.cost found.cert.tags

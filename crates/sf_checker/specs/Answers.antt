-- What the check answers.
use Rattle.std.specs.Prelude.{◌≡◌, ◌≢◌, ℕ, [], ◌∷◌, map, Bool, true, false, ◌⊎◌, MatchOption, All, Contains, Some, Err}
use Rattle.sf_model.specs.declared.design.Design.{Design}
use Rattle.sf_model.specs.declared.TheConstants.{MAX}
use Rattle.sf_model.specs.Tree.{Tree, leaves}
use Rattle.sf_model.specs.Legal.{shapes_of, Fits}
use Rattle.sf_polish.specs.declared.expr.Expr.{Expr}
use Rattle.sf_polish.specs.Postfix.{Spells}
use Rattle.sf_node.specs.declared.part.Part.{Part}
use Rattle.sf_node.specs.Parts.{Parts}
use Rattle.sf_node.specs.Subproblem.{root}
use Rattle.sf_certificate.specs.declared.cert.Cert.{Cert}
use Rattle.sf_certificate.specs.Valid.{HasCost, AreTrees, left_open, least, decided, IsValid}
use Rattle.sf_checker.specs.declared.answer.Why.{Why}
use Rattle.sf_checker.specs.declared.answer.Why.TheVariants.{BadPath, BadPlan, CostDiffers, BoundDiffers}
use Rattle.sf_checker.specs.declared.answer.Answer.{Answer}
use Rattle.sf_checker.specs.declared.answer.Answer.TheVariants.{Yes, No}
use Rattle.sf_checker.specs.Walking.{walked, start}

-- the plan is legal, fits and costs what is said, or there is none
abbrev pub IsPlanRight : Design → Cert → Type 0
IsPlanRight design cert = MatchOption cert.plan (cert.cost ≡ MAX) (λ expr. HasCost design expr cert.cost)

-- the expression spells a plan that has an unlisted shape or does not fit
pub record IsUnfit (design : Design) (expr : Expr) : Type 0 where
  pub tree : Tree
  pub spells : Spells expr tree
  pub unfit : All (λ leaf. Contains (shapes_of design leaf.0) leaf.1) (leaves tree) → Fits design.outline tree → ⊥

-- the plan is one of these
pub record IsBadPlan (design : Design) (cert : Cert) : Type 0 where
  pub expr : Expr
  pub planned : cert.plan ≡ Some expr
  pub unfit : IsUnfit design expr

-- the plan costs this, and not what is said
pub record IsOtherCost (design : Design) (cert : Cert) (is : ℕ) : Type 0 where
  pub expr : Expr
  pub planned : cert.plan ≡ Some expr
  pub costs : HasCost design expr is
  pub differs : cert.cost ≢ is

-- the plan is right, and this is what the walk over the tags finds first, by the parts that the closed subproblems name
pub record IsBadTree (design : Design) (bound : Parts → ℕ) (part : Parts → Part → ℕ) (cert : Cert) (why : Why) : Type 0 where
  pub plan : IsPlanRight design cert
  pub found : walked bound part cert.cost (start (root design) cert.cost) cert.tags ≡ Err why

-- plan and tree are right, and this is the least of the cost and the open bounds
pub record IsOtherBound (design : Design) (bound : Parts → ℕ) (part : Parts → Part → ℕ) (cert : Cert) (is : ℕ) : Type 0 where
  pub plan : IsPlanRight design cert
  pub tree : AreTrees part cert.cost (root design ∷ []) cert.tags
  pub lowest : is ≡ least cert.cost (map bound (left_open (root design ∷ []) cert.tags))
  pub differs : cert.bound ≢ is

-- the first failure
abbrev pub IsFirst : Design → (Parts → ℕ) → (Parts → Part → ℕ) → Cert → Why → Type 0
IsFirst design bound part cert why =
    ((why ≡ BadPlan) × IsBadPlan design cert)
    ⊎ (((is : ℕ) × (why ≡ CostDiffers cert.cost is) × IsOtherCost design cert is)
    ⊎ (IsBadTree design bound part cert why
    ⊎ ((is : ℕ) × (why ≡ BoundDiffers cert.bound is) × IsOtherBound design bound part cert is)))

-- valid, with the cost, the bound and how many subproblems are decided
pub record IsRight (design : Design) (bound : Parts → ℕ) (part : Parts → Part → ℕ) (cert : Cert) (z low count : ℕ) : Type 0 where
  pub valid : IsValid design bound part cert
  pub cost : z ≡ cert.cost
  pub bound_is : low ≡ cert.bound
  pub count_is : count ≡ decided cert.tags

-- what an answer means: the certificate is valid, or this is its first failure
abbrev pub IsAnswer : Design → (Parts → ℕ) → (Parts → Part → ℕ) → Cert → Answer → Type 0
IsAnswer design bound part cert (Yes z low count) = IsRight design bound part cert z low count
IsAnswer design bound part cert (No why) = IsFirst design bound part cert why

-- the answer is that the certificate is valid
abbrev pub is_yes : Answer → Bool
is_yes (Yes z low count) = true
is_yes (No why) = false

-- what is answered where a path is not legal: a failure of plan or cost comes first, and all else behind it
abbrev pub with_bad_path : ℕ → Answer → Answer
with_bad_path n (No BadPlan) = No BadPlan
with_bad_path n (No (CostDiffers said is)) = No (CostDiffers said is)
with_bad_path n other = No (BadPath n)

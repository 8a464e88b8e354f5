-- A search that begins with a plan, or with none.
use Rattle.std.proofs.Common.{◌≡◌, ◌<◌, ◌≤◌, ℕ, Option, Some, None, Result, Ok, Err, IfOk, sym, subst, ◌∙◌, IfSome}
use Rattle.sf_program.proofs.Common.{Design, block_count, Expr, HasCost, decided, Part, IsSearchedBy, IsWritable, opening, turns, IfOk-weaker}
use Rattle.sf_node.specs.Parts.{Parts}
use Rattle.sf_anneal.specs.Measured.{IsFloorplan}
use Rattle.sf_rounds.specs.declared.found.Found.{Found}
use Rattle.sf_search.specs.Found.{IsCertOf, IsFound}
use Rattle.sf_rounds.proofs.Formed.{can-write}

-- a floorplan costs what is said and can be written
pub floorplan-costs : (design : Design) (expr : Expr) (z : ℕ) → IsFloorplan design expr z → HasCost design expr z × IsWritable (block_count design) expr
floorplan-costs design expr z p =
    (record { tree = p.tree; spells = p.spells; legal = p.legal; fits = p.fits; costs = sym p.costs }, can-write design p.tree expr p.legal p.spells p.skewed p.one_each)

-- what a search hands over, whose cost is no higher than that of the plan that it began with
pub found-searched : (value : Parts → ℕ) (part : Parts → Part → ℕ) (design : Design) (workers budget : ℕ) (start : Option (Expr × ℕ)) (found : Found) → IsFound design value part budget found → IfSome start (λ plan. found.cert.cost ≤ plan.1)
    → (workers ≡ 1 → start ≡ None → IsCertOf design (turns design value budget (opening design value 1)) found.cert) → IsSearchedBy value part design workers budget start found.cert
found-searched value part design workers budget start found e lower run = record {
  valid = e.valid;
  named = e.named;
  blocks = e.blocks;
  paths = e.paths_is;
  few = subst (λ k. k ≤ budget) e.decided_is e.few;
  spent = λ below. sym e.decided_is ∙ e.spent (subst (λ b. b < found.cost) (sym e.bound_is) (subst (λ z. found.cert.bound < z) (sym e.cost_is) below));
  ended = λ large. sym e.bound_is ∙ e.ended large ∙ e.cost_is;
  lower = lower;
  run = run;
}

-- what is handed over beside the certificate is its own
module _ {E : Type 0} (value : Parts → ℕ) (part : Parts → Part → ℕ) (design : Design) (budget : ℕ) (r : Result Found E) (e : IfOk r (IsFound design value part budget)) where
  -- the plan is that of the certificate
  pub own-plan : IfOk r (λ found. found.plan ≡ found.cert.plan)
  own-plan = IfOk-weaker r _ _ (λ found h. h.plan_is) e

  -- so is the count
  pub own-count : IfOk r (λ found. found.decided ≡ decided found.cert.tags)
  own-count = IfOk-weaker r _ _ (λ found h. h.decided_is) e

-- a search that begins with no plan
pub fresh-searched : {E : Type 0} (value : Parts → ℕ) (part : Parts → Part → ℕ) (design : Design) (workers budget : ℕ) (r : Result Found E) → IfOk r (IsFound design value part budget)
    → IfOk r (λ found. workers ≡ 1 → IsCertOf design (turns design value budget (opening design value 1)) found.cert) → IfOk r (λ found. IsSearchedBy value part design workers budget None found.cert)
fresh-searched value part design workers budget (Ok found) e run = found-searched value part design workers budget None found e tt (λ single none. run single)
fresh-searched value part design workers budget (Err w) e run = tt

-- a search that begins with one
pub begun-searched : {E : Type 0} (value : Parts → ℕ) (part : Parts → Part → ℕ) (design : Design) (workers budget : ℕ) (plan : Expr) (cost : ℕ) (r : Result Found E) → IfOk r (IsFound design value part budget) → IfOk r (λ found. found.cost ≤ cost)
    → IfOk r (λ found. IsSearchedBy value part design workers budget (Some (plan, cost)) found.cert)
begun-searched value part design workers budget plan cost (Ok found) e lower =
    found-searched value part design workers budget (Some (plan, cost)) found e (subst (λ z. z ≤ cost) e.cost_is lower) (λ single none. absurd (cc))
begun-searched value part design workers budget plan cost (Err w) e lower = tt

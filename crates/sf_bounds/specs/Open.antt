-- How the code goes, and nothing that the crate promises: what the area and the wires of a subproblem cost.
use Rattle.std.specs.Prelude.{◌≡◌, ℕ, ◌+◌, ◌*◌, ◌^◌, ◌<◌, Option, MatchOption}
use Rattle.sf_model.specs.declared.design.Design.{Design}
use Rattle.sf_model.specs.declared.TheConstants.{MAX}
use Rattle.sf_node.specs.Parts.{Parts}
use Rattle.sf_standard.specs.Standard.{wires_by, plans_of, bounded, AllHavePlans}
use Rattle.sf_nets.specs.declared.wire_parts.WireParts.{WireParts}
use Rattle.sf_nets.specs.WireParts.{AreAtMost, AreByPart}

-- what the area costs at least where each item and each unused block has a plan and they have room: the value is that with what the wires cost
pub record IsAreaCost (design : Design) (node : Parts) (v : ℕ) : Type 0 where
  pub some : AllHavePlans design node
  pub value : (wires : ℕ) → bounded design wires (plans_of design node) ≡ v + design.weights.wire * wires
  pub small : v < 2 ^ 57

-- or none where the value is the mark of no cost, whatever the wires are
abbrev pub IsAreaCostOrNone : Design → Parts → Option ℕ → Type 0
IsAreaCostOrNone design node found = MatchOption found ((wires : ℕ) → bounded design wires (plans_of design node) ≡ MAX) (IsAreaCost design node)

-- what the wires cost by each part of the bound
pub record AreWireCosts (design : Design) (node : Parts) (w : WireParts) : Type 0 where
  pub values : AreByPart (λ part. design.weights.wire * wires_by design node part) w
  pub small : AreAtMost (2 ^ 63) w

-- What is known of a stored bound, and what a kit makes of it.
use Rattle.std.specs.Prelude.{◌≡◌, ◌↔◌, ℕ, ◌≤◌, max}
use Rattle.sf_model.specs.declared.design.Design.{Design}
use Rattle.sf_model.specs.declared.TheConstants.{MAX}
use Rattle.sf_node.specs.declared.part.Part.{Part}
use Rattle.sf_node.specs.declared.part.Part.TheVariants as by
use Rattle.sf_node.specs.Parts.{Parts}
use Rattle.sf_node.specs.Bounds.{IsBelowAll}
use Rattle.sf_node.specs.Children.{IsSubproblem}
use Rattle.sf_standard.specs.Standard.{standard, part_value}

-- f may be asked at every subproblem of every design, and gives just this number there
pub record Keeps {F : Type 0} (may : F → Design → Parts → Type 0) (gives : F → Design → Parts → ℕ → Type 0) (own : Design → Parts → ℕ) (f : F) : Type 0 where
  pub may_ask : (design : Design) (node : Parts) → IsSubproblem design node → may f design node
  pub answers : (design : Design) (node : Parts) (r : ℕ) → IsSubproblem design node → gives f design node r ↔ (r ≡ own design node)

-- at every subproblem of every design the number is at most MAX, and no plan of the subproblem that fits costs less
abbrev pub IsBelow : (Design → Parts → ℕ) → Type 0
IsBelow own = (design : Design) (node : Parts) → IsSubproblem design node → (own design node ≤ MAX) × IsBelowAll design node (own design node)

-- the value of a kit: the greater of the standard bound and the stored one
abbrev pub kit_value : (Design → Parts → ℕ) → Design → Parts → ℕ
kit_value own design node = max (standard design node) (own design node)

-- the value of each part of a kit: only the full one takes the stored bound into account
abbrev pub kit_part : (Design → Parts → ℕ) → Design → Parts → Part → ℕ
kit_part own design node by.Full = kit_value own design node
kit_part own design node part = part_value design node part

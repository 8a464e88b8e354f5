-- What wires take by each part of the bound that looks at them.
use Rattle.std.specs.Prelude.{◌≡◌, ℕ, ◌≤◌}
use Rattle.sf_model.specs.declared.design.Design.{Design}
use Rattle.sf_node.specs.declared.part.Part.{Part}
use Rattle.sf_node.specs.declared.part.Part.TheVariants.{Range, Pair, Hull, Full}
use Rattle.sf_node.specs.Parts.{Parts}
use Rattle.sf_standard.specs.Standard.{wires_by}
use Rattle.sf_nets.specs.declared.wire_parts.WireParts.{WireParts}

-- the numbers that belong to the parts with wires
pub record AreByPart (f : Part → ℕ) (w : WireParts) : Type 0 where
  pub range : w.range ≡ f Range
  pub pair : w.pair ≡ f Pair
  pub hull : w.hull ≡ f Hull
  pub full : w.full ≡ f Full

-- what the wires take at least by each part of the bound
abbrev pub AreWireParts : Design → Parts → WireParts → Type 0
AreWireParts design node w = AreByPart (wires_by design node) w

-- none of them is greater
pub record AreAtMost (most : ℕ) (w : WireParts) : Type 0 where
  pub range : w.range ≤ most
  pub pair : w.pair ≤ most
  pub hull : w.hull ≤ most
  pub full : w.full ≤ most

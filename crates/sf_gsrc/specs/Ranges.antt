-- Pins that are in range whatever the counts.
use Rattle.std.specs.Prelude.{ℕ, List}
use Rattle.std.specs.List.{All}
use Rattle.sf_parts.specs.declared.raw.RawNet.{RawNet}
use Rattle.sf_parts.specs.Admitted.{IsPinInRange}

-- however many blocks and pads there are, the pins are in range
pub record HasPinsInAnyRange (nets : List RawNet) : Type 0 where
  pub in_range : (blocks pads : ℕ) → All (λ n. All (IsPinInRange blocks pads) n.pins) nets

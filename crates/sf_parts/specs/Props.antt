-- Facts of parts that have one proof at most, so that a struct can keep them.
use Rattle.std.specs.Prelude.{ℕ}
use Rattle.std.specs.Coded.{×_prop, Unit-prop, le_prop}
use Rattle.sf_parts.specs.declared.raw.Kind.{Kind}
use Rattle.sf_parts.specs.declared.raw.Kind.TheVariants as kind
use Rattle.sf_parts.specs.declared.raw.RawPin.{RawPin}
use Rattle.sf_parts.specs.declared.raw.RawPin.TheVariants as raw
use Rattle.sf_parts.specs.Admitted.{IsPinInRange, IsSized}

-- that the sides or the area are at least 1
pub IsSized-prop : (kind : Kind) → IsProp (IsSized kind)
IsSized-prop (kind.Hard w h) = ×_prop le_prop le_prop
IsSized-prop (kind.Soft area least most) = le_prop

-- that the block or pad of a pin is there
pub IsPinInRange-prop : (blocks pads : ℕ) (pin : RawPin) → IsProp (IsPinInRange blocks pads pin)
IsPinInRange-prop blocks pads (raw.Named n) = Unit-prop
IsPinInRange-prop blocks pads (raw.Block b) = le_prop
IsPinInRange-prop blocks pads (raw.Pad p) = le_prop

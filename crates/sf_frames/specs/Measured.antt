-- What a measurement answers.
use Rattle.std.specs.Prelude.{◌≡◌, true}
use Rattle.std.specs.List.{list_any}
use Rattle.sf_model.specs.declared.design.Design.{Design}
use Rattle.sf_node.specs.Parts.{Parts}
use Rattle.sf_standard.specs.Standard.{has_none, plans_of}
use Rattle.sf_frames.specs.declared.measured.Measured.{Measured}
use Rattle.sf_frames.specs.declared.measured.Measured.TheVariants.{TooLarge, FitsInNoWay, Takes}
use Rattle.sf_frames.specs.Room.{NeedsMore}
use Rattle.sf_frames.specs.Sums.{AreSums}

-- the sums over the items and the unused blocks, or that one of them has no plan; or that the tokens need more points than are kept
abbrev pub IsMeasured : Design → Parts → Measured → Type 0
IsMeasured design node TooLarge = NeedsMore design node.tokens
IsMeasured design node FitsInNoWay = list_any has_none (plans_of design node) ≡ true
IsMeasured design node (Takes sums) = AreSums (plans_of design node) sums

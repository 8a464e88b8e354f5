-- The design that knows what was asked for.
use Rattle.std.specs.Prelude.{Option, Result, Ok, Err}
use Rattle.sf_io.specs.Outside.{Contents}
use Rattle.sf_model.specs.declared.design.Design.{Design}
use Rattle.sf_known.specs.Known.{Knows}
use Rattle.sf_options.specs.declared.command.BoundsChoice.{BoundsChoice}
use Rattle.sf_options.specs.Options.{DesignOptions, WeightOptions}
use Rattle.sf_designs.specs.Outcome.{Refusal, Then}
use Rattle.sf_designs.specs.Reading.{DesignRead}

-- the design that knows what the bounds that were asked for take into account; nothing is refused
abbrev pub MadeKnown : BoundsChoice → Design → Result Design Refusal → Type 0
MadeKnown bounds design (Ok known) = Knows bounds design known
MadeKnown bounds design (Err why) = ⊥

-- the design for which the files stand, which knows what was asked for
abbrev pub KnownRead : Option Contents → DesignOptions → WeightOptions → BoundsChoice → Result Design Refusal → Type 0
KnownRead held o w bounds = Then (DesignRead held o w) (MadeKnown bounds)

-- The paths that a design takes where strong bounds are asked for.
use Rattle.std.specs.Prelude.{◌≡◌, ℕ}
use Rattle.sf_model.specs.declared.design.Design.{Design}
use Rattle.sf_model.specs.declared.paths.Paths.{Paths}
use Rattle.sf_model.specs.Paths.{IsFirstWrong}
use Rattle.sf_model.specs.Routed.{HasPaths}
use Rattle.sf_options.specs.declared.command.BoundsChoice.{BoundsChoice}
use Rattle.sf_options.specs.declared.command.BoundsChoice.TheVariants.{Strong}

-- the design with these paths where strong bounds are asked for, and as it was by others
abbrev pub Takes : BoundsChoice → Design → Paths → Design → Type 0
Takes Strong design paths routed = HasPaths design paths routed
Takes bounds design paths routed = routed ≡ design

-- where strong bounds are asked for, this is the first of the paths that is not legal
abbrev pub Breaks : BoundsChoice → Design → Paths → ℕ → Type 0
Breaks Strong design paths n = IsFirstWrong design.pads design.nets paths n
Breaks bounds design paths n = ⊥

-- the design with some legal paths where strong bounds are asked for, and as it was by others
abbrev pub IsRouted : BoundsChoice → Design → Design → Type 0
IsRouted bounds design routed = (paths : Paths) × Takes bounds design paths routed

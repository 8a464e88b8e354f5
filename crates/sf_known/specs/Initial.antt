-- The plan that a search begins with.
use Rattle.std.specs.Prelude.{◌≡◌, ℕ, ◌*◌, min, Option, Some, None}
use Rattle.sf_model.specs.declared.design.Design.{Design}
use Rattle.sf_model.specs.Legal.{block_count}
use Rattle.sf_anneal.specs.declared.beginning.Beginning.{Beginning}
use Rattle.sf_anneal.specs.Starts.{IsImprovedStarts}
use Rattle.sf_polish.specs.declared.expr.Expr.{Expr}
use Rattle.sf_known.specs.Known.{IsKnownBy, Knows, cheaper}
use Rattle.sf_known.specs.Routed.{IsRouted}
use Rattle.sf_options.specs.declared.command.BoundsChoice.{BoundsChoice}
use Rattle.sf_options.specs.Options.{StartOptions}

-- how many trials make a start better: what was asked for, or the default for so many blocks
abbrev pub trials_of : Option ℕ → ℕ → ℕ
trials_of None blocks = min (8_000 * blocks) 800_000
trials_of (Some trials) blocks = trials

-- the cheaper of a plan that costs no more than the least of what the walks that are asked for find, nor than the packed plan of a placement that is given, and of the one that is known by the bounds; none where there is neither. The walks go over the design as it was read, and the other one has the same floorplans and knows what was asked for
pub record IsInitialPlan (starts : StartOptions) (bounds : BoundsChoice) (design : Design) (begin : Option Beginning) (known : Design) (start : Option (Expr × ℕ)) : Type 0 where
  pub walked : Option (Expr × ℕ)
  pub least : Option (Expr × ℕ)
  pub walks : IsImprovedStarts design begin starts.seed starts.count starts.moves (trials_of starts.improve (block_count design)) walked
  pub knows : IsKnownBy bounds known least
  pub is : start ≡ cheaper walked least

-- what a search begins with: the design that knows what was asked for, with the paths that were found for it, and a plan or none
pub record IsSearchInput (starts : StartOptions) (bounds : BoundsChoice) (design : Design) (begin : Option Beginning) (routed : Design) (start : Option (Expr × ℕ)) : Type 0 where
  pub known : Design
  pub knows : Knows bounds design known
  pub routes : IsRouted bounds known routed
  pub begun : IsInitialPlan starts bounds design begin known start

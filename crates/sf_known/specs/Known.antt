-- What a design knows of itself by the bounds that were asked for, and the plan that is known with it.
use Rattle.std.specs.Prelude.{◌≡◌, ℕ, ◌*◌, ◌<◌, ◌≤◌, nat_lt, Option, None, Some, MatchOption, if◌then◌else◌}
use Rattle.sf_model.specs.declared.design.Design.{Design}
use Rattle.sf_model.specs.Cost.{NoneFits}
use Rattle.sf_model.specs.Legal.{block_count}
use Rattle.sf_model.specs.Tree.{width, height}
use Rattle.sf_anneal.specs.Measured.{IsFloorplan}
use Rattle.sf_polish.specs.declared.expr.Expr.{Expr}
use Rattle.sf_subsets.specs.Floors.{KnowsArea}
use Rattle.sf_options.specs.declared.command.BoundsChoice.{BoundsChoice}
use Rattle.sf_options.specs.declared.command.BoundsChoice.TheVariants.{Strong}

-- the first design where it knows more: one of at most 16 blocks knows its least area, and a larger one is as it was
pub record KnowsMore (design known : Design) : Type 0 where
  pub few : block_count design ≤ 16 → KnowsArea design known
  pub many : 16 < block_count design → known ≡ design

-- the first design where it knows what the bounds that were asked for take into account
abbrev pub Knows : BoundsChoice → Design → Design → Type 0
Knows Strong design known = KnowsMore design known
Knows bounds design known = known ≡ design

-- a plan that fits and costs so much, whose area is the floor that the design knows
pub record HasKnownArea (design : Design) (expr : Expr) (z : ℕ) : Type 0 where
  pub plan : IsFloorplan design expr z
  pub area : width plan.tree * height plan.tree ≡ design.area_floor

-- such a plan of a design of at most 16 blocks, or none where none fits; none of a larger one
pub record IsKnownPlan (design : Design) (plan : Option (Expr × ℕ)) : Type 0 where
  pub few : block_count design ≤ 16 → MatchOption plan (NoneFits design) (λ p. HasKnownArea design p.0 p.1)
  pub many : 16 < block_count design → plan ≡ None

-- the plan that is known by the bounds that were asked for
abbrev pub IsKnownBy : BoundsChoice → Design → Option (Expr × ℕ) → Type 0
IsKnownBy Strong design plan = IsKnownPlan design plan
IsKnownBy bounds design plan = plan ≡ None

-- of two plans the cheaper one, and the first where they cost the same
abbrev pub cheaper : Option (Expr × ℕ) → Option (Expr × ℕ) → Option (Expr × ℕ)
cheaper None other = other
cheaper (Some plan) None = Some plan
cheaper (Some plan) (Some other) = if nat_lt other.1 plan.1 then Some other else Some plan

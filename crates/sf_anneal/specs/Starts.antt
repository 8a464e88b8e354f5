-- The first least of several walks, and what improvements behind them come to.
use Rattle.std.specs.Prelude.{◌≡◌, ℕ, ◌+◌, ◌%◌, ◌^◌, ◌<◌, ◌≤◌, nat_lt, List, length, fold, slice_index_or, Option, Some, None, IfSome, if◌then◌else◌}
use Rattle.rand_core.specs.Stream.{Stream}
use Rattle.rand_core.specs.Steps.{stream_of, steps_u32}
use Rattle.rand_pcg.specs.Lcg.{started, increment_of}
use Rattle.rand_pcg.specs.Pcg.{multiplier_64, pcg32}
use Rattle.sf_model.specs.declared.design.Design.{Design}
use Rattle.sf_polish.specs.declared.expr.Expr.{Expr}
use Rattle.sf_anneal.specs.declared.beginning.Beginning.{Beginning}
use Rattle.sf_anneal.specs.Measured.{IsFloorplan}
use Rattle.sf_anneal.specs.Walk.{IsWalk}

-- the words of walk i: PCG32 (XSH RR 64/32) at the state seed + i, which wraps, in stream 2
abbrev pub words_of : ℕ → ℕ → Stream
words_of seed i = stream_of (steps_u32 pcg32) (started 64 multiplier_64 ((seed + i) % 2 ^ 64) (increment_of 64 2))

-- the second where it costs less
abbrev pub lesser : Option (Expr × ℕ) → Option (Expr × ℕ) → Option (Expr × ℕ)
lesser None b = b
lesser (Some a) None = Some a
lesser (Some a) (Some b) = if nat_lt b.1 a.1 then Some b else Some a

-- the result of least cost, of these the first, or none where all are none
abbrev pub first_least : List (Option (Expr × ℕ)) → Option (Expr × ℕ)
first_least results = fold lesser None results

-- what walk i finds, which is a floorplan
pub record IsOwnWalk (design : Design) (seed moves i : ℕ) (found : Option (Expr × ℕ)) : Type 0 where
  pub walk : IsWalk design (words_of seed i) moves found
  pub floorplan : IfSome found (λ pair. IsFloorplan design pair.0 pair.1)

-- what so many walks find, walk i over its own words
pub record IsStarts (design : Design) (seed count moves : ℕ) (found : Option (Expr × ℕ)) : Type 0 where
  pub results : List (Option (Expr × ℕ))
  pub many : length results ≡ count
  pub walks : (i : ℕ) (d : Option (Expr × ℕ)) → i < count → IsWalk design (words_of seed i) moves (slice_index_or results i d)
  pub least : found ≡ first_least results

-- the second is a result of no greater cost where the first is one
abbrev pub IsNoDearer : Option (Expr × ℕ) → Option (Expr × ℕ) → Type 0
IsNoDearer was found = (p : Expr × ℕ) → was ≡ Some p → (q : Expr × ℕ) × (found ≡ Some q) × (q.1 ≤ p.1)

-- what walk i finds, made better by so many trials
pub record IsImproved (design : Design) (seed moves trials i : ℕ) (found : Option (Expr × ℕ)) : Type 0 where
  pub was : Option (Expr × ℕ)
  pub walk : IsWalk design (words_of seed i) moves was
  pub floorplan : IfSome found (λ pair. IsFloorplan design pair.0 pair.1)
  pub no_dearer : IsNoDearer was found
  pub unimproved : trials ≡ 0 → found ≡ was

-- what start i comes to: walk i, made better, where it is one of so many, and else a floorplan or none, and none without trials
pub record IsStart (design : Design) (seed count moves trials i : ℕ) (found : Option (Expr × ℕ)) : Type 0 where
  pub walk : i < count → IsImproved design seed moves trials i found
  pub floorplan : IfSome found (λ pair. IsFloorplan design pair.0 pair.1)
  pub unimproved : count ≤ i → trials ≡ 0 → found ≡ None

-- the plan that was begun with
abbrev pub begun_plan : Option Beginning → Option (Expr × ℕ)
begun_plan None = None
begun_plan (Some begin) = begin.plan

-- a floorplan that costs no more than the least of what so many walks find, nor than the plan that was begun with, or none; without trials it is the lesser of these, and where nothing was asked for there is none
pub record IsImprovedStarts (design : Design) (begin : Option Beginning) (seed count moves trials : ℕ) (found : Option (Expr × ℕ)) : Type 0 where
  pub walked : Option (Expr × ℕ)
  pub starts : IsStarts design seed count moves walked
  pub floorplan : IfSome found (λ pair. IsFloorplan design pair.0 pair.1)
  pub no_dearer : IsNoDearer walked found
  pub no_dearer_begun : IsNoDearer (begun_plan begin) found
  pub unimproved : trials ≡ 0 → found ≡ lesser walked (begun_plan begin)
  pub none : count ≡ 0 → begin ≡ None → found ≡ None

-- The workers of a round, before and after.
use Rattle.std.specs.Prelude.{◌≡◌, ℕ, ◌+◌, min, ◌<◌, ◌≤◌, ◌⊎◌, ⊤, List, [], ◌∷◌, ◌++◌, map, sum_by, All, Any, Option, Some, None, IfSome, IsOk, IfOk}
use Rattle.std.specs.List.{flat_map}
use Rattle.sf_model.specs.declared.design.Design.{Design}
use Rattle.sf_model.specs.declared.TheConstants.{MAX}
use Rattle.sf_polish.specs.declared.expr.Expr.{Expr}
use Rattle.sf_node.specs.declared.part.Part.{Part}
use Rattle.sf_node.specs.Parts.{Parts}
use Rattle.sf_cursor.specs.declared.stretch.Stretch.{Stretch}
use Rattle.sf_cursor.specs.Stretches.{IsStretch}
use Rattle.sf_pieces.specs.declared.piece.Piece.{Piece}
use Rattle.sf_incumbent.specs.Seen.{Word, Knows}
use Rattle.sf_budget.specs.Seen.{BudgetView}
use Rattle.sf_frontier.specs.declared.place.Place.{Place}
use Rattle.sf_frontier.specs.Ends.{with_put as owner_with}
use Rattle.sf_frontier.specs.Team.{IsTeam, IsNewPlace}
use Rattle.sf_worker.specs.declared.state.PassEnd.{PassEnd}
use Rattle.sf_worker.specs.declared.state.WorkerState.{WorkerState}
use Rattle.sf_worker.specs.Tasks.{IsBest}
use Rattle.sf_worker.specs.Took.{IsReady, Passed, PassEnds, first_of, put_of, stretches_weigh, thieves_weigh}
use Rattle.sf_rounds.specs.declared.job.Job.{Job}
use Rattle.sf_rounds.specs.declared.job.Member.{Member}
use Rattle.sf_rounds.specs.declared.job.Gathering.{Gathering}

-- R holds at each place of two lists of one length
abbrev pub EachTwo : {X : Type 0} (R : X → X → Type 0) → List X → List X → Type 0
EachTwo R [] [] = ⊤
EachTwo R [] (y ∷ ys) = ⊥
EachTwo R (x ∷ xs) [] = ⊥
EachTwo R (x ∷ xs) (y ∷ ys) = R x y × EachTwo R xs ys

-- the stretch, or none
abbrev pub as_list : Option Stretch → List Stretch
as_list (Some s) = s ∷ []
as_list None = []

-- the stretch that stood last was taken out, or there was none
abbrev pub IsLast : List Stretch → List Stretch → Option Stretch → Type 0
IsLast old new None = (old ≡ []) × (new ≡ [])
IsLast old new (Some s) = old ≡ new ++ s ∷ []

module _ {T : Type 0} where
  -- the place of a worker: its deque, and where it steals
  abbrev pub place_of : Job T → Place T
  place_of j = j.state.place

  -- the pieces of what a worker decided
  abbrev pub log_of : Job T → List Piece
  log_of j = j.state.log.items

  -- the stretches that a worker has, but those in its deque
  abbrev pub open_of : Job T → List Stretch
  open_of j = as_list j.state.first ++ j.state.kept.items

  -- what a worker's pass did, where it ended so
  pub record Passes (design : Design) (bound : Parts → ℕ) (part : Parts → Part → ℕ) (old new : Job T) (end : PassEnd) : Type 0 where
    pub ready : IsReady design bound new.state
    pub passed : Passed design bound part old.state new.state []
    pub ends : PassEnds old.state new.state passed end

  -- what a worker's pass did, where memory sufficed
  abbrev pub Ran : Design → (Parts → ℕ) → (Parts → Part → ℕ) → Job T → Job T → Type 0
  Ran design bound part old new = IfOk new.end (Passes design bound part old new)

  -- the worker with a quota of so many more
  abbrev pub with_more : Job T → ℕ → Job T
  with_more j more = record j { state = record j.state { quota = j.state.quota + more } }

  -- the worker had spent its quota, has drawn another, and takes up the stretch that it kept last
  pub record IsRefilled (old new : WorkerState T) (drawn : ℕ) : Type 0 where
    pub spent : old.quota ≡ 0
    pub no_first : old.first ≡ None
    pub some : 0 < drawn
    pub last : IsLast old.kept.items new.kept.items new.first
    pub frame : new ≡ record old { first = new.first; kept = new.kept; quota = drawn }

  -- the conditions of a worker's passes: what it keeps after one is of that pass
  pub record CanPass (design : Design) (bound : Parts → ℕ) (word : Word) (j : Job T) : Type 0 where
    pub ready : IsReady design bound j.state
    pub word_is : j.state.seat.word ≡ word.id
    pub nothing_kept : j.state.kept.items ≡ []

  -- they hold, and the account is of the budget
  abbrev pub CanStart : Design → (Parts → ℕ) → Word → BudgetView → Member T → Type 0
  CanStart design bound word budget m = CanPass design bound word m.job × (m.account.budget ≡ budget.id)

  -- all passes of a worker did what one pass does of a quota that is larger by what the worker drew
  pub record Worked (design : Design) (bound : Parts → ℕ) (part : Parts → Part → ℕ) (old new : Member T) : Type 0 where
    pub drawn : ℕ
    pub account : new.account ≡ record old.account { drawn = old.account.drawn + drawn }
    pub ran : Ran design bound part (with_more old.job drawn) new.job

  -- the worker with a larger quota
  abbrev pub IsLarger : Job T → Job T → Type 0
  IsLarger old new = (more : ℕ) × (new ≡ with_more old more)

  -- each worker did what one pass does of a larger quota, and all of these are larger by no more than the rest
  pub record IsPooled (design : Design) (bound : Parts → ℕ) (part : Parts → Part → ℕ) (rest : ℕ) (old new : List (Job T)) : Type 0 where
    pub larger : List (Job T)
    pub are : EachTwo IsLarger old larger
    pub within : sum_by (λ j. j.state.quota) larger ≤ sum_by (λ j. j.state.quota) old + rest
    pub ran : EachTwo (Ran design bound part) larger new

  -- a worker at the start of a round
  pub record IsFresh (value : ℕ) (word : Word) (j : Job T) : Type 0 where
    pub log : j.state.log.items ≡ []
    pub kept : j.state.kept.items ≡ []
    pub best : j.state.best ≡ None
    pub seat : j.state.seat ≡ record { word = word.id; seen = value; offered = MAX; parts = 1 }
    pub taken : j.state.place.owner.taken ≡ []
    pub stolen : (w : Stretch → ℕ) → thieves_weigh w j.state.place.thieves.items ≡ 0

  -- worker i has stretch i and quota i
  abbrev pub FirstsAre : List Stretch → List ℕ → List (Job T) → Type 0
  FirstsAre ts [] [] = ⊤
  FirstsAre ts [] (j ∷ js) = ⊥
  FirstsAre ts (q ∷ qs) [] = ⊥
  FirstsAre [] (q ∷ qs) (j ∷ js) = ((j.state.first ≡ None) × (j.state.quota ≡ q)) × FirstsAre [] qs js
  FirstsAre (t ∷ ts) (q ∷ qs) (j ∷ js) = ((j.state.first ≡ Some t) × (j.state.quota ≡ q)) × FirstsAre ts qs js

  -- what a worker has been given
  abbrev pub has_weight : Design → (Parts → ℕ) → Job T → ℕ
  has_weight design w j = first_of design w j.state + put_of design w j.state

  -- the workers in their places, each with its first stretch and its quota, and with nothing in its deque
  pub record IsSeated (value : ℕ) (word : Word) (stretches : List Stretch) (quotas : List ℕ) (places : List (Place T)) (jobs : List (Job T)) : Type 0 where
    pub places_are : map place_of jobs ≡ places
    pub fresh : All IsNewPlace places → All (IsFresh value word) jobs
    pub empty : All IsNewPlace places → (design : Design) (w : Parts → ℕ) → sum_by (λ j. put_of design w j.state) jobs ≡ 0
    pub firsts : FirstsAre stretches quotas jobs

  -- the worker with one stretch more in its deque
  abbrev pub with_put : Job T → Stretch → Job T
  with_put j stretch = record j { state = record j.state { place = record j.state.place { owner = owner_with j.state.place.owner stretch } } }

  -- the worker is the same but for the stretches in its deque
  abbrev pub IsSameBut : Job T → Job T → Type 0
  IsSameBut old new = (put : List Stretch) × (stack : List Stretch) × (new ≡ record old { state = record old.state { place = record old.state.place { owner = record old.state.place.owner { put = put; stack = stack } } } })

  -- the stretches are put into the deques of the workers
  pub record Handed (design : Design) (old new : List (Job T)) (stretches : List Stretch) : Type 0 where
    pub same : EachTwo IsSameBut old new
    pub weight : (w : Parts → ℕ) → sum_by (has_weight design w) new ≡ sum_by (has_weight design w) old + stretches_weigh design w stretches

  -- all stretches are dealt
  pub record Dealt (design : Design) (bound : Parts → ℕ) (value : ℕ) (word : Word) (given : List Stretch) (quotas : List ℕ) (jobs : List (Job T)) : Type 0 where
    pub fresh : All (IsFresh value word) jobs
    pub team : IsTeam (map place_of jobs)
    pub weight : (w : Parts → ℕ) → sum_by (has_weight design w) jobs ≡ stretches_weigh design w given
    pub firsts : FirstsAre given quotas jobs
    pub first_are : All (λ j. IfSome j.state.first (IsStretch design bound)) jobs

  -- what holds of each worker that is gathered, where memory sufficed
  abbrev pub IsDone : Design → Word → Job T → Type 0
  IsDone design word j = IfOk j.end (λ end. (j.state.seat.word ≡ word.id) × IsBest design j.state.best j.state.seat.offered)

  -- what the workers leave, and the seat into which theirs are joined
  pub record Gathers (design : Design) (jobs : List (Job T)) (old new : Knows) (places : List (Place T)) (pieces : List Piece) (left : List Stretch) (best : Option (Expr × ℕ)) : Type 0 where
    pub places_are : places ≡ map place_of jobs
    pub pieces_are : pieces ≡ flat_map log_of jobs
    pub left_are : left ≡ flat_map open_of jobs
    pub word : new.word ≡ old.word
    pub parts : new.parts ≡ old.parts + sum_by (λ j. j.state.seat.parts) jobs
    pub least : (new.offered ≤ old.offered) × All (λ j. new.offered ≤ j.state.seat.offered) jobs
    pub offered : (new.offered ≡ old.offered) ⊎ Any (λ j. j.state.seat.offered ≡ new.offered) jobs
    pub seen : All (λ j. new.seen ≤ j.state.seat.seen) jobs
    pub best_is : IsBest design best new.offered
    pub ends : All (λ j. IsOk j.end) jobs

  -- what one worker adds
  pub record Adds (design : Design) (j : Job T) (old new : Knows) (before after : Gathering T) : Type 0 where
    pub places : after.places.items ≡ before.places.items ++ place_of j ∷ []
    pub pieces : after.pieces.items ≡ before.pieces.items ++ log_of j
    pub left : after.left.items ≡ before.left.items ++ open_of j
    pub seat : new ≡ record old { seen = min old.seen j.state.seat.seen; offered = min old.offered j.state.seat.offered; parts = old.parts + j.state.seat.parts }
    pub best : IsBest design after.best new.offered
    pub end : IsOk j.end

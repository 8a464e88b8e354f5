-- What a worker takes, and what it puts or keeps.
use Rattle.std.specs.Prelude.{◌≡◌, ℕ, ◌+◌, List, ◌++◌, sum_by, All, Option, Some, None, IfSome}
use Rattle.sf_cursor.specs.declared.stretch.Stretch.{Stretch}
use Rattle.sf_frontier.specs.Ends.{OwnerView, ThiefView}
use Rattle.sf_frontier.specs.declared.place.Place.{Place}
use Rattle.sf_frontier.specs.Team.{thief_deques_of}
use Rattle.sf_worker.specs.Took.{CountsAll, NeverFell, Rose, ThievesNeverFell, ThievesRose, maybe_weighs, thieves_weigh}

-- a try at each thief: none had a task, or one gave this one
abbrev pub IsStolen : (Stretch → Type 0) → List ThiefView → List ThiefView → Option Stretch → Type 0
IsStolen Serves old new found =
    (thief_deques_of new ≡ thief_deques_of old) × ThievesNeverFell old new × IfSome found Serves
    × ((w : Stretch → ℕ) → thieves_weigh w new ≡ thieves_weigh w old + maybe_weighs w found)
    × (found ≡ None → ThievesRose old new)

-- the worker's task, where there was one, is the one found
abbrev pub IsFirst : Option Stretch → Option Stretch → Option Stretch → Type 0
IsFirst (Some t) first' found = (first' ≡ None) × (found ≡ Some t)
IsFirst None first' found = first' ≡ None

module _ {T : Type 0} where
  -- the owner put nothing, and the deques are the same
  abbrev pub SamePuts : Place T → Place T → Type 0
  SamePuts old new =
      (new.owner.deque ≡ old.owner.deque) × (new.owner.put ≡ old.owner.put) × (new.owner.refused_puts ≡ old.owner.refused_puts)
      × (thief_deques_of new.thieves.items ≡ thief_deques_of old.thieves.items)

  -- the task found left `first`, the owner's deque or a thief's; where none was found, all counts of empty takes rose
  abbrev pub IsFound : (Stretch → Type 0) → Option Stretch → Place T → Option Stretch → Place T → Option Stretch → Type 0
  IsFound Serves first old first' new found =
      IsFirst first first' found × IfSome found Serves
      × NeverFell old.owner.empty_takes new.owner.empty_takes × ThievesNeverFell old.thieves.items new.thieves.items
      × ((w : Stretch → ℕ) → (sum_by w new.owner.taken + thieves_weigh w new.thieves.items) + maybe_weighs w first ≡ (sum_by w old.owner.taken + thieves_weigh w old.thieves.items) + maybe_weighs w found)
      × (found ≡ None → Rose old.owner.empty_takes new.owner.empty_takes × ThievesRose old.thieves.items new.thieves.items)

-- each task was put, or came back and is kept
pub record PutsAll (Serves : Stretch → Type 0) (old new : OwnerView) (kept kept' tasks : List Stretch) : Type 0 where
  pub refused : List Stretch
  pub kept_are : kept' ≡ kept ++ refused
  pub served : All Serves refused
  pub deque : new.deque ≡ old.deque
  pub taken : new.taken ≡ old.taken
  pub empty_takes : new.empty_takes ≡ old.empty_takes
  pub put : (w : Stretch → ℕ) → sum_by w new.put + sum_by w refused ≡ sum_by w old.put + sum_by w tasks
  pub refusals : CountsAll old.refused_puts new.refused_puts refused

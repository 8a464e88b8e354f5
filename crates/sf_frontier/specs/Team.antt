-- A team: each worker's owner and thieves, and what was put and taken.
use Rattle.std.specs.Prelude.{◌≡◌, ℕ, ◌⊎◌, ◌<◌, ◌≤◌, List, [], ◌∷◌, ◌++◌, sum_by, map, length, All, ⊤}
use Rattle.std.specs.List.{flat_map}
use Rattle.sf_cursor.specs.declared.stretch.Stretch.{Stretch}
use Rattle.sf_frontier.specs.Ends.{Deque, OwnerView, ThiefView, with_stolen, IsDrained}
use Rattle.sf_frontier.specs.declared.place.Place.{Place}

-- the deques on which these thieves stand
abbrev pub thief_deques_of : List ThiefView → List Deque
thief_deques_of ts = map (λ (t : ThiefView). t.deque) ts

-- the first of a list comes last: each thief stands at the worker before the one whose deque it has
abbrev pub turned : {X : Type 0} → List X → List X
turned [] = []
turned (x ∷ xs) = xs ++ x ∷ []

-- an owner that has put and taken nothing, and has counted nothing
abbrev pub IsNewOwner : OwnerView → Type 0
IsNewOwner o = (o.put ≡ []) × (o.taken ≡ []) × (o.empty_takes ≡ 0) × (o.refused_puts ≡ 0) × (o.stack ≡ []) × (o.stolen ≡ [])

-- a thief that has taken nothing, and has counted nothing
abbrev pub IsNewThief : ThiefView → Type 0
IsNewThief t = (t.taken ≡ []) × (t.empty_takes ≡ 0)

-- of the owners and the tasks that thieves took from each deque: what was put is what the owner took, what the thief took, and the rest; and on the owner's stack what the thief took stands first
abbrev pub AreSettled : List OwnerView → List (List Stretch) → List (List Stretch) → Type 0
AreSettled [] [] [] = ⊤
AreSettled [] [] (r ∷ rs) = ⊥
AreSettled [] (s ∷ ss) rs = ⊥
AreSettled (o ∷ os) [] rs = ⊥
AreSettled (o ∷ os) (s ∷ ss) [] = ⊥
AreSettled (o ∷ os) (s ∷ ss) (r ∷ rs) = IsDrained (with_stolen o s) r × AreSettled os ss rs

module _ {T : Type 0} where
  -- the owners of the workers' places
  abbrev pub owners_of : List (Place T) → List OwnerView
  owners_of places = map (λ place. place.owner) places

  -- the deques of the workers' places
  abbrev pub deques_of : List (Place T) → List Deque
  deques_of places = map (λ place. place.owner.deque) places

  -- the deques on which each worker has a thief
  abbrev pub preys_of : List (Place T) → List (List Deque)
  preys_of places = map (λ place. thief_deques_of place.thieves.items) places

  -- what the thieves of a worker took
  abbrev pub stolen_by : Place T → List Stretch
  stolen_by place = flat_map (λ (t : ThiefView). t.taken) place.thieves.items

  -- a worker alone with its deque, or a ring in which each worker has one thief, on the next worker's deque
  abbrev pub IsTeam : List (Place T) → Type 0
  IsTeam places =
      (0 < length places)
      × (((length places ≡ 1) × All (λ place. (place.owner.deque.parts ≡ 1) × (place.thieves.items ≡ [])) places)
      ⊎ (All (λ place. place.owner.deque.parts ≡ 2) places × (preys_of places ≡ map (λ d. d ∷ []) (turned (deques_of places)))))

  -- the owner of the place is new, and so are its thieves
  abbrev pub IsNewPlace : Place T → Type 0
  IsNewPlace place = IsNewOwner place.owner × All IsNewThief place.thieves.items

  -- the worker's deque was made with so many slots or more: none of the first so many puts comes back
  abbrev pub HasSlots : ℕ → Place T → Type 0
  HasSlots slots place = slots ≤ place.owner.deque.first_slots

  -- of each deque, what was put is what its owner took, what its thief took, and what is left of it; what the owner put and did not take is, in its order, what the thief took and what is left
  pub record IsFinished (places : List (Place T)) (left : List Stretch) : Type 0 where
    pub stolen : List (List Stretch)
    pub rests : List (List Stretch)
    pub thieves : map stolen_by places ≡ turned stolen
    pub settled : AreSettled (owners_of places) stolen rests
    pub left_are : (w : Stretch → ℕ) → sum_by w left ≡ sum_by (λ rest. sum_by w rest) rests

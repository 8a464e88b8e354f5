-- The rule of the word: what the word is, beside what each seat has seen and offered.
use Rattle.std.specs.Prelude.{◌≡◌, ℕ, ◌+◌, ◌-◌, ◌<◌, ◌≤◌, ◌⊎◌, List, min, sum_by, slice_index}
use mathlib.Core.Option.{some}
use lib.ListN.{get_elem?}
use Rattle.atomic_table.specs.Table.{Step, Me}
use Rattle.sf_incumbent.specs.declared.rule.View.{View}

-- the greatest u64, which stands for no offer
abbrev pub most : ℕ
most = 18446744073709551615

-- what a seat has seen, what it has offered, and its parts
abbrev pub view : ℕ → ℕ → ℕ → View
view seen offered parts = record { seen = seen; offered = offered; parts = parts }

-- the first seat has seen the start and has all parts
abbrev pub first_seat : ℕ → ℕ → View
first_seat start seats = view start most seats

-- a seat that is split keeps all but one part
abbrev pub split_seat : View → View
split_seat v = view v.seen v.offered (v.parts - 1)

-- the new seat has offered nothing and has one part
abbrev pub new_seat : View → View
new_seat v = view v.seen most 1

-- two seats that are joined: the lesser values, and the parts of both
abbrev pub joined_seat : View → View → View
joined_seat v w = view (min v.seen w.seen) (min v.offered w.offered) (v.parts + w.parts)

-- a seat that was joined into another is left without parts
abbrev pub empty_seat : View
empty_seat = view most most 0

-- the view v stands at the number `seat`, and isn't spent
abbrev pub IsLive : List View → ℕ → View → Type 0
IsLive views seat v = (get_elem? views seat ≡ some v) × (0 < v.parts)

-- the word is at most its start and at most what any live seat has seen or offered, and it is the start or one of the offers; all parts add up
pub record IsWord (start seats word : ℕ) (views : List View) : Type 0 where
  pub small : start ≤ most
  pub below_start : word ≤ start
  pub below_seats : (seat : ℕ) (v : View) → IsLive views seat v → (word ≤ v.seen) × (word ≤ v.offered)
  pub is_one : (word ≡ start) ⊎ ((seat : ℕ) × (v : View) × IsLive views seat v × (word ≡ v.offered))
  pub parts_add_up : sum_by (λ (v : View). v.parts) views ≡ seats
  pub idle : (seat : ℕ) (v : View) → get_elem? views seat ≡ some v → v.parts ≡ 0 → v.offered ≡ most

-- where the word stands in its table, whose other words nobody reads or writes
abbrev pub place : ℕ
place = 16

-- the table has that word at its place
abbrev pub IsIncumbent : ℕ → ℕ → List ℕ → List View → Type 0
IsIncumbent start seats words views = IsWord start seats (slice_index words place) views

-- what a load tells: the word found, which is at most what the seat had seen and offered
abbrev pub Looks : Step (Unit {0}) → Me (Unit {0}) View → ℕ → Me (Unit {0}) View → Type 0
Looks step v found w = (w ≡ (view found v.0.offered v.0.parts, v.1)) × (found ≤ v.0.seen) × (found ≤ v.0.offered)

-- what a fetch-min tells: the lesser of the cost and the word found
abbrev pub Offers : Step (Unit {0}) → Me (Unit {0}) View → ℕ → Me (Unit {0}) View → Type 0
Offers step v found w = (w ≡ (view (min found step.first) (min v.0.offered step.first) v.0.parts, v.1)) × (found ≤ v.0.seen) × (found ≤ v.0.offered)

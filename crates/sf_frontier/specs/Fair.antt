-- The rule of a deque: what was put is what was taken and what the deque holds, and it holds it in the order in which it was put.
use Rattle.std.specs.Prelude.{◌≡◌, ℕ, ◌+◌, ◌-◌, ◌<◌, List, [], ◌++◌, sum_by, length, drop, All}
use mathlib.Core.Option.{some}
use lib.ListN.{get_elem?}
use Rattle.sf_cursor.specs.declared.stretch.Stretch.{Stretch}
use Rattle.sf_frontier.specs.declared.rule.View.{View}

-- the view of the pass that has the back of the deque, the front or both
abbrev pub view : ℕ → ℕ → List Stretch → List Stretch → List Stretch → List Stretch → View
view backs fronts put taken stack stolen = record { backs = backs; fronts = fronts; put = put; taken = taken; stack = stack; stolen = stolen }

-- how many of the two ends a pass has
abbrev pub ends : View → ℕ
ends v = v.backs + v.fronts

-- a pass without ends has put and taken nothing
abbrev pub IdleIsEmpty : List View → Type 0
IdleIsEmpty views = (port : ℕ) (v : View) → get_elem? views port ≡ some v → ends v ≡ 0 → (v.put ≡ []) × (v.taken ≡ [])

-- the stack of the pass at the back is what the pass at the front stole, and then what the deque holds
abbrev pub IsOrdered : List Stretch → List View → Type 0
IsOrdered items views = (port : ℕ) (v : View) → get_elem? views port ≡ some v → 0 < v.backs
    → (stolen : List Stretch) × (v.stack ≡ stolen ++ items) × ((other : ℕ) (u : View) → get_elem? views other ≡ some u → 0 < u.fronts → u.stolen ≡ stolen)

-- the weights of what a pass has put, and of what it has taken
abbrev pub weight_put : (Stretch → ℕ) → View → ℕ
weight_put w v = sum_by w v.put

-- the weight of what a pass has taken
abbrev pub weight_taken : (Stretch → ℕ) → View → ℕ
weight_taken w v = sum_by w v.taken

-- what was put weighs as much as what was taken and what the deque holds; there is one back and one front,
-- the deque holds what is left of the stack in its order, and the tasks held are ones that the team serves
pub record Balanced (Serves : Stretch → Type 0) (items : List Stretch) (views : List View) : Type 0 where
  pub kept : (w : Stretch → ℕ) → sum_by (weight_put w) views ≡ sum_by (weight_taken w) views + sum_by w items
  pub one_back : sum_by (λ (v : View). v.backs) views ≡ 1
  pub one_front : sum_by (λ (v : View). v.fronts) views ≡ 1
  pub idle : IdleIsEmpty views
  pub ordered : IsOrdered items views
  pub served : All Serves items

-- of two lists as multisets: however the tasks are weighed, both weigh the same
abbrev pub SameTasks : List Stretch → List Stretch → Type 0
SameTasks xs ys = (w : Stretch → ℕ) → sum_by w xs ≡ sum_by w ys

-- the tasks join the stack at its end
abbrev pub Put : View → List Stretch → View → Type 0
Put v xs u = u ≡ view v.backs v.fronts (v.put ++ xs) v.taken (v.stack ++ xs) v.stolen

-- the tasks were the last of the stack; who has both ends has taken fewer than it put
abbrev pub Taken : (Stretch → Type 0) → View → List Stretch → View → Type 0
Taken Serves v xs u =
    (u ≡ view v.backs v.fronts v.put (v.taken ++ xs) u.stack v.stolen) × (v.stack ≡ u.stack ++ xs) × All Serves xs
    × (ends v ≡ 2 → length v.taken + length xs < length v.put + 1)

-- the tasks are stolen
abbrev pub Stolen : (Stretch → Type 0) → View → List Stretch → View → Type 0
Stolen Serves v xs u = (u ≡ view v.backs v.fronts v.put (v.taken ++ xs) v.stack (v.stolen ++ xs)) × All Serves xs

-- who has both ends of an empty deque knows that all was taken
abbrev pub IsAllTaken : View → Type 0
IsAllTaken v = ends v ≡ 2 → SameTasks v.put v.taken × (v.stack ≡ v.stolen)

-- the back alone: what was stolen is no longer on the stack
abbrev pub back_alone : View → View
back_alone v = view v.backs (v.fronts - 1) v.put v.taken (drop (length v.stolen) v.stack) []

-- the front alone
abbrev pub front_alone : View → View
front_alone v = view 0 1 [] [] [] []

-- both ends together
abbrev pub both_ends : View → View → View
both_ends v u = view (v.backs + u.backs) (v.fronts + u.fronts) (v.put ++ u.put) (v.taken ++ u.taken) v.stack (v.stolen ++ u.stolen)

-- no end
abbrev pub no_end : View
no_end = view 0 0 [] [] [] []

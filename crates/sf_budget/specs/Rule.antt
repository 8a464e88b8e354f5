-- The rule of the word: what is left and what was drawn come to the amount.
use Rattle.std.specs.Prelude.{◌≡◌, ℕ, ◌+◌, ◌-◌, ◌==◌, List, sum_by, slice_index}
use prog.Atomic.{either}
use Rattle.atomic_table.specs.Table.{Step, Me}
use Rattle.sf_budget.specs.declared.rule.View.{View}

-- what an account has drawn
abbrev pub view : ℕ → View
view drawn = record { drawn = drawn }

-- where the word stands in its table, whose other words nobody reads or writes
abbrev pub place : ℕ
place = 16

-- what is left and what all accounts have drawn are the amount
abbrev pub IsBudget : ℕ → List ℕ → List View → Type 0
IsBudget amount words views = slice_index words place + sum_by (λ (v : View). v.drawn) views ≡ amount

-- what a draw takes that would leave `new` of `old`, where this number was found
abbrev pub taken : ℕ → ℕ → ℕ → ℕ
taken old new found = either (found == old) (old - new) 0

-- what a draw tells: the account has drawn so much more
abbrev pub Draws : Step (Unit {0}) → Me (Unit {0}) View → ℕ → Me (Unit {0}) View → Type 0
Draws step v found w = w ≡ (view (v.0.drawn + taken step.first step.second found), v.1)

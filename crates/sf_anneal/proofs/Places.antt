-- How many operands and runs normal tokens have.
use Rattle.std.proofs.Common.{◌≡◌, ℕ, ◌+◌, ◌≤◌, List, [], ◌∷◌, arith, Bool, true, false, cond, not}
use Rattle.sf_polish.specs.declared.expr.Token.TheVariants as token
use Rattle.sf_anneal.proofs.Common.{Token, IsNormal, Reads-counts, normal-reads, is_operand, operands, operators, runs, runs_from, sum_by-cons, both-kinds}

-- one operator less than operands, and as many operands as blocks
pub normal-operands : (n : ℕ) (ts : List Token) → IsNormal n ts → operands ts ≡ n
normal-operands n ts normal = omega (arith, normal.whole, both-kinds ts, Reads-counts ts 0 1 (normal-reads n ts normal))

-- runs that began stay begun
runs-kept : (inside : Bool) (begun : ℕ) (ts : List Token) → begun ≤ runs_from inside begun ts
runs-kept inside begun [] = omega arith
runs-kept true begun (token.Beside ∷ ts) = runs-kept true begun ts
runs-kept false begun (token.Beside ∷ ts) = omega (arith, runs-kept true (begun + 1) ts)
runs-kept true begun (token.Above ∷ ts) = runs-kept true begun ts
runs-kept false begun (token.Above ∷ ts) = omega (arith, runs-kept true (begun + 1) ts)
runs-kept inside begun (token.Block b ∷ ts) = runs-kept false begun ts

-- an operator begins a run
runs-one : (begun : ℕ) (ts : List Token) → 1 ≤ operators ts → begun + 1 ≤ runs_from false begun ts
runs-one begun [] h = absurd (omega (arith, h))
runs-one begun (token.Beside ∷ ts) h = runs-kept true (begun + 1) ts
runs-one begun (token.Above ∷ ts) h = runs-kept true (begun + 1) ts
runs-one begun (token.Block b ∷ ts) h = runs-one begun ts (omega (arith, h, sum_by-cons (λ t. cond (not (is_operand t)) 1 0) (token.Block b) ts))

-- with two blocks there is a run
pub runs-some : (n : ℕ) (ts : List Token) → IsNormal n ts → 2 ≤ n → 1 ≤ runs ts
runs-some n ts normal h = omega (arith, runs-one 0 ts (omega (arith, h, normal.whole, both-kinds ts, normal-operands n ts normal)))

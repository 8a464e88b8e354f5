-- The operands of tokens.
use Rattle.std.proofs.Common.{ℕ, ◌+◌, ◌-◌, ◌<◌, ◌≤◌, List, [], ◌∷◌}
use Rattle.sf_standard.proofs.Common.{IsFalse, AllByRecursion, Token, is_outside, Reads, inside-number}
use Rattle.sf_polish.specs.declared.expr.Token.TheVariants as token

-- the rest of the tokens finds its operands
abbrev pub Runs : ℕ → ℕ → List Token → Type 0
Runs n depth [] = Unit {0}
Runs n depth (token.Block b ∷ tokens) = (b < n) × Runs n (depth + 1) tokens
Runs n depth (token.Beside ∷ tokens) = (2 ≤ depth) × Runs n (depth - 1) tokens
Runs n depth (token.Above ∷ tokens) = (2 ≤ depth) × Runs n (depth - 1) tokens

-- tokens that leave g items when h stand there before, each block below n, find their operands
pub runs-from : (n h g : ℕ) (ts : List Token) → Reads h ts g → AllByRecursion (λ t. IsFalse (is_outside n t)) ts → Runs n h ts
runs-from n h g [] r i = tt
runs-from n h g (token.Block b ∷ ts) r i = (inside-number n b i.0, runs-from n (h + 1) g ts r i.1)
runs-from n h g (token.Beside ∷ ts) r i = (r.0, runs-from n (h - 1) g ts r.1 i.1)
runs-from n h g (token.Above ∷ ts) r i = (r.0, runs-from n (h - 1) g ts r.1 i.1)

-- What a token finds on a stack of items.
use Rattle.std.specs.Prelude.{ℕ, ◌<◌, ◌≤◌}
use Rattle.sf_polish.specs.declared.expr.Token.{Token}
use Rattle.sf_polish.specs.declared.expr.Token.TheVariants as token

-- a block is one of n, and an operator finds two items
abbrev pub HasOperands : ℕ → ℕ → Token → Type 0
HasOperands n depth (token.Block b) = b < n
HasOperands n depth token.Beside = 2 ≤ depth
HasOperands n depth token.Above = 2 ≤ depth

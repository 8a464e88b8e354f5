-- How subproblems branch, and which subproblems a design has.
use Rattle.std.specs.Prelude.{◌≡◌, ℕ, ◌+◌, ◌/◌, ◌<◌, List, [], ◌∷◌, ◌++◌, length, map, filter, count_by, Bool, true, false, ◌&&◌, not, ◌==◌, nat_le, nat_lt, IsTrue, slice_set, ⊤}
use Rattle.std.specs.List.{range_with_len}
use Rattle.sf_model.specs.declared.design.Design.{Design}
use Rattle.sf_polish.specs.declared.expr.Token.{Token}
use Rattle.sf_polish.specs.declared.expr.Token.TheVariants as token
use Rattle.sf_polish.specs.Normal.{operands, operators, is_block, ends_in}
use Rattle.sf_node.specs.declared.step.Step.{Step}
use Rattle.sf_node.specs.declared.step.Step.TheVariants.{Beside, Above, Block, Left, Right}
use Rattle.sf_node.specs.Parts.{Parts}
use Rattle.sf_node.specs.Subproblem.{root, span_of, is_wide}

-- whether an operator may come next: the stack has two items, and the last token is another one
abbrev pub may_join : Token → List Token → Bool
may_join t tokens = nat_le (operators tokens + 2) (operands tokens) && not (ends_in t tokens)

-- whether a block may come next: it isn't there yet
abbrev pub is_unused : ℕ → List Token → Bool
is_unused b tokens = count_by (is_block b) tokens == 0

-- the token, where it may come
abbrev pub when : Bool → Token → List Token
when true t = t ∷ []
when false t = []

-- the tokens that may come next, in order
abbrev pub next_tokens : Parts → List Token
next_tokens node =
    when (may_join token.Beside node.tokens) token.Beside
    ++ when (may_join token.Above node.tokens) token.Above
    ++ map (λ b. token.Block b) (filter (λ b. is_unused b node.tokens) (range_with_len 0 (length node.spans)))

-- the step by which a token comes
abbrev pub step_of : Token → Step
step_of token.Beside = Beside
step_of token.Above = Above
step_of (token.Block b) = Block b

-- the place between the halves of a span
abbrev pub middle : ℕ × ℕ → ℕ
middle span = (span.0 + span.1) / 2

-- the subproblem with one more step and one more token
abbrev pub with_token : Parts → Step → Token → Parts
with_token node step t = record node { steps = node.steps ++ step ∷ []; tokens = node.tokens ++ t ∷ [] }

-- the subproblem with one more step and another span of a block
abbrev pub with_span : Parts → Step → ℕ → ℕ × ℕ → Parts
with_span node step b span = record node { steps = node.steps ++ step ∷ []; spans = slice_set node.spans b span }

-- the subproblem after one more step
abbrev pub after : Parts → Step → Parts
after node Beside = with_token node Beside token.Beside
after node Above = with_token node Above token.Above
after node (Block b) = with_token node (Block b) (token.Block b)
after node (Left b) = let span = span_of node b in with_span node (Left b) b (span.0, middle span)
after node (Right b) = let span = span_of node b in with_span node (Right b) b (middle span, span.1)

-- the children by extending, in order
abbrev pub extended : Parts → List Parts
extended node = map (λ t. after node (step_of t)) (next_tokens node)

-- the children by splitting a block's span
abbrev pub split : Parts → ℕ → List Parts
split node b = after node (Left b) ∷ after node (Right b) ∷ []

-- whether the block is one of the design, and its span has more than one place
abbrev pub can_split : Parts → ℕ → Bool
can_split node b = nat_lt b (length node.spans) && is_wide (span_of node b)

-- the block's span may be split
abbrev pub CanSplit : Parts → ℕ → Type 0
CanSplit node b = (b < length node.spans) × IsTrue (is_wide (span_of node b))

-- the step leads to a child
abbrev pub CanStep : Parts → Step → Type 0
CanStep node Beside = IsTrue (may_join token.Beside node.tokens)
CanStep node Above = IsTrue (may_join token.Above node.tokens)
CanStep node (Block b) = (b < length node.spans) × IsTrue (is_unused b node.tokens)
CanStep node (Left b) = CanSplit node b
CanStep node (Right b) = CanSplit node b

-- the subproblem that steps lead to, and that each of them leads to a child
abbrev pub walk : Parts → List Step → Parts
walk node [] = node
walk node (s ∷ ss) = walk (after node s) ss

-- each of these steps leads to a child of where those before it led
abbrev pub CanWalk : Parts → List Step → Type 0
CanWalk node [] = ⊤
CanWalk node (s ∷ ss) = CanStep node s × CanWalk (after node s) ss

-- a subproblem of the design: its steps lead to it from the root
pub record IsSubproblem (design : Design) (node : Parts) : Type 0 where
  pub reached : CanWalk (root design) node.steps
  pub is : node ≡ walk (root design) node.steps

-- What comes after a subproblem in preorder.
use Rattle.std.specs.Prelude.{◌≡◌, ℕ, ◌+◌, ◌-◌, ◌<◌, List, [], ◌∷◌, ◌++◌, length, map, filter, Bool, true, false, ⊤}
use Rattle.std.specs.List.{range_with_len}
use Rattle.sf_model.specs.declared.design.Design.{Design}
use Rattle.sf_polish.specs.declared.expr.Token.TheVariants as token
use Rattle.sf_node.specs.declared.step.Step.{Step}
use Rattle.sf_node.specs.declared.step.Step.TheVariants.{Beside, Above, Block, Left, Right}
use Rattle.sf_node.specs.Parts.{Parts}
use Rattle.sf_node.specs.Subproblem.{root, span_of}
use Rattle.sf_node.specs.Children.{may_join, is_unused, after, CanStep, IsSubproblem}

-- the step, where it may be taken
abbrev pub when_step : Bool → Step → List Step
when_step true s = s ∷ []
when_step false s = []

-- the steps by a block that isn't there yet, from the number b on
abbrev pub blocks_from : Parts → ℕ → List Step
blocks_from node b = map (λ c. Block c) (filter (λ c. is_unused c node.tokens) (range_with_len b (length node.spans - b)))

-- the steps from a subproblem that come after this one, in order
abbrev pub later : Parts → Step → List Step
later node Beside = when_step (may_join token.Above node.tokens) Above ++ blocks_from node 0
later node Above = blocks_from node 0
later node (Block b) = blocks_from node (b + 1)
later node (Left b) = Right b ∷ []
later node (Right b) = []

-- the steps by which a subproblem is extended
abbrev pub extending : Parts → List Step
extending node = when_step (may_join token.Beside node.tokens) Beside ++ later node Beside

-- on the way over these steps: where the later steps lead to, those of the last step first
abbrev pub behind : Parts → List Step → List Parts
behind node [] = []
behind node (s ∷ ss) = behind (after node s) ss ++ map (after node) (later node s)

-- the subproblems that are not visited yet, in preorder: this one and what is behind it, or none where all are
abbrev pub pending : Design → Bool → Parts → List Parts
pending design true node = node ∷ behind (root design) node.steps
pending design false node = []

-- the span that a step halves, or none
abbrev pub halved : Parts → Step → ℕ × ℕ
halved node Beside = (0, 0)
halved node Above = (0, 0)
halved node (Block b) = (0, 0)
halved node (Left b) = span_of node b
halved node (Right b) = span_of node b

-- the block that a step halves is one of the design
abbrev pub HalvesOne : Parts → Step → Type 0
HalvesOne node Beside = ⊤
HalvesOne node Above = ⊤
HalvesOne node (Block b) = ⊤
HalvesOne node (Left b) = b < length node.spans
HalvesOne node (Right b) = b < length node.spans

-- a child of a subproblem, and the subproblem's value
pub record IsChildOf (design : Design) (bound : Parts → ℕ) (value : ℕ) (child : Parts) : Type 0 where
  pub parent : Parts
  pub step : Step
  pub sub : IsSubproblem design parent
  pub can : CanStep parent step
  pub is : child ≡ after parent step
  pub worth : value ≡ bound parent

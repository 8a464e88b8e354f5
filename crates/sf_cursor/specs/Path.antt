-- Where a search in preorder stands.
use Rattle.std.specs.Prelude.{◌≡◌, ℕ, ◌<◌, ◌≤◌, zero, suc, ◌++◌, List, [], ◌∷◌, length, Bool, true, false, not, slice_index_or, slice_set, Option, IfSome, ⊤}
use Rattle.sf_model.specs.declared.design.Design.{Design}
use Rattle.sf_polish.specs.Normal.{operands}
use Rattle.sf_node.specs.declared.step.Step.{Step}
use Rattle.sf_node.specs.declared.step.Step.TheVariants.{Beside, Above, Block, Left, Right}
use Rattle.sf_node.specs.Parts.{Parts}
use Rattle.sf_node.specs.Subproblem.{root}
use Rattle.sf_node.specs.Children.{after, is_unused, CanStep, IsSubproblem}
use Rattle.sf_node.specs.Later.{halved, behind}
use Rattle.sf_cursor.specs.declared.level.Level.{Level}

-- the subproblem that is next, a level for each step of the way to it, which blocks are there, and how many they are
pub record Path : Type 0 where
  pub node : Parts
  pub levels : List Level
  pub used : List Bool
  pub operands : ℕ

-- the most steps that a way has: of 320 blocks there are 639 tokens, and the span of at most 256 shapes of each is halved eight times at most
abbrev pub most_steps : ℕ
most_steps = 3199

-- the level of a step: the span that it halves, and the value of the subproblem before it, where one was told
pub record IsLevel (bound : Parts → ℕ) (node : Parts) (s : Step) (level : Level) : Type 0 where
  pub span : level.span ≡ halved node s
  pub worth : IfSome level.value (λ value. value ≡ bound node)

-- the levels of the way over these steps
abbrev pub AreLevels : (Parts → ℕ) → Parts → List Step → List Level → Type 0
AreLevels bound node [] [] = ⊤
AreLevels bound node [] (level ∷ levels) = ⊥
AreLevels bound node (s ∷ ss) [] = ⊥
AreLevels bound node (s ∷ ss) (level ∷ levels) = IsLevel bound node s level × AreLevels bound (after node s) ss levels

-- for each block by number, whether it is there
pub record AreUsed (node : Parts) (used : List Bool) : Type 0 where
  pub each : length used ≡ length node.spans
  pub flags : (b : ℕ) → b < length used → slice_index_or used b true ≡ not (is_unused b node.tokens)

-- the flags after one more step, or after one is taken back
abbrev pub flags_after : List Bool → Step → Bool → List Bool
flags_after used Beside flag = used
flags_after used Above flag = used
flags_after used (Block b) flag = slice_set used b flag
flags_after used (Left b) flag = used
flags_after used (Right b) flag = used

-- how many blocks a step names
abbrev pub step_blocks : Step → ℕ
step_blocks Beside = 0
step_blocks Above = 0
step_blocks (Block b) = 1
step_blocks (Left b) = 0
step_blocks (Right b) = 0

-- a block that the step names has a flag
abbrev pub NamesOne : Step → List Bool → Type 0
NamesOne Beside used = ⊤
NamesOne Above used = ⊤
NamesOne (Block b) used = b < length used
NamesOne (Left b) used = ⊤
NamesOne (Right b) used = ⊤

-- the way leads from the root
pub record IsPath (design : Design) (bound : Parts → ℕ) (path : Path) : Type 0 where
  pub sub : IsSubproblem design path.node
  pub levels : AreLevels bound (root design) path.node.steps path.levels
  pub used : AreUsed path.node path.used
  pub operands : path.operands ≡ operands path.node.tokens

-- the last step was taken back: it led from here to the subproblem, and this is the value here, where one was told
pub record IsBack (design : Design) (bound : Parts → ℕ) (old : Parts) (s : Step) (value : Option ℕ) (path : Path) : Type 0 where
  pub at : IsPath design bound path
  pub can : CanStep path.node s
  pub is : old ≡ after path.node s
  pub worth : IfSome value (λ v. v ≡ bound path.node)

-- one way and no more: it leads from the root to a subproblem of the design, has at most so many steps, and keeps a level for each of them
pub record IsOneWay (design : Design) (path : Path) : Type 0 where
  pub sub : IsSubproblem design path.node
  pub few : length path.node.steps ≤ most_steps
  pub each : length path.levels ≡ length path.node.steps

-- on the way over these steps: where the later steps lead to, but for those of the first `floor` steps
abbrev pub beyond : ℕ → Parts → List Step → List Parts
beyond zero node ss = behind node ss
beyond (suc k) node [] = []
beyond (suc k) node (s ∷ ss) = beyond k (after node s) ss

-- what waits of a stretch with this floor: the subproblem that is next and what lies beyond the floor, or none
abbrev pub waiting : Design → ℕ → Bool → Parts → List Parts
waiting design floor true node = node ∷ beyond floor (root design) node.steps
waiting design floor false node = []

-- a stretch is cut in two at a level: what it keeps comes first, then what another cursor is given
pub record IsParted (design : Design) (bound : Parts → ℕ) (floor : ℕ) (old : Path) (part : Path) (level : ℕ) : Type 0 where
  pub at : IsPath design bound part
  pub lower : floor ≤ length part.node.steps
  pub keeps : level ≤ length old.node.steps
  pub cut : waiting design floor true old.node ≡ waiting design level true old.node ++ waiting design floor true part.node

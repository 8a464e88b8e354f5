-- What the number of a step is made of.
use Rattle.std.specs.Prelude.{ℕ}
use Rattle.sf_node.specs.declared.step.Step.{Step}
use Rattle.sf_node.specs.declared.step.Step.TheVariants.{Beside, Above, Block, Left, Right}

-- the block that a step names, or 0 where it names none
abbrev pub block_of : Step → ℕ
block_of Beside = 0
block_of Above = 0
block_of (Block b) = b
block_of (Left b) = b
block_of (Right b) = b

-- a number for each kind of step
abbrev pub kind_of : Step → ℕ
kind_of Beside = 0
kind_of Above = 1
kind_of (Block b) = 2
kind_of (Left b) = 3
kind_of (Right b) = 4

-- A stretch of the preorder line: a walk with a floor, and the subproblems that it stands for.
use Rattle.std.specs.Prelude.{◌≡◌, ℕ, ◌≤◌, List, length, true}
use Rattle.sf_model.specs.declared.design.Design.{Design}
use Rattle.sf_node.specs.Parts.{Parts}
use Rattle.sf_cursor.specs.declared.stretch.Stretch.{Stretch}
use Rattle.sf_cursor.specs.Path.{IsPath, waiting}

-- the way leads from the root, and is as long as the floor or longer
pub record IsStretch (design : Design) (bound : Parts → ℕ) (s : Stretch) : Type 0 where
  pub at : IsPath design bound s.cursor
  pub above : s.floor ≤ length s.cursor.node.steps

-- the subproblems that it stands for
abbrev pub waits : Design → Stretch → List Parts
waits design s = waiting design s.floor true s.cursor.node

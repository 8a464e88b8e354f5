-- A stretch over open subproblems.
use Rattle.std.specs.Prelude.{ℕ, ◌≤◌, List, length, Bool, true, false, Option, Some, None, nat_lt, if◌then◌else◌}
use Rattle.sf_model.specs.declared.design.Design.{Design}
use Rattle.sf_node.specs.Parts.{Parts}
use Rattle.sf_certificate.specs.declared.tag.Tag.{Tag}
use Rattle.sf_cursor.specs.Path.{waiting}
use Rattle.sf_resume.specs.declared.reading.Reading.{Reading}
use Rattle.sf_resume.specs.Reading.{IsReadOn, opens}

-- the floor of a stretch that ends before the next subproblem, where that is less deep than all that were read; all of the way where none is next
abbrev pub floor_of : Bool → ℕ → ℕ → Option ℕ
floor_of false depth low = Some 0
floor_of true depth low = if nat_lt depth low then Some depth else None

-- what waits of the stretch from the subproblem that is next are the subproblems that were read, all of them open
pub record IsReach (design : Design) (bound : Parts → ℕ) (tags : List Tag) (old : Reading) (floor : ℕ) (new : Reading) : Type 0 where
  pub above : floor ≤ length old.cursor.node.steps
  pub read : IsReadOn design bound tags old (opens (waiting design floor true old.cursor.node)) new

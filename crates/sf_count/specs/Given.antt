-- How many subproblems there are under one where none is closed early.
use Rattle.std.specs.Prelude.{ℕ, ◌+◌, ◌*◌, length, sum_by}
use Rattle.sf_model.specs.declared.design.Design.{Design}
use Rattle.sf_node.specs.Parts.{Parts}
use Rattle.sf_node.specs.Full.{full_below}

-- the full count of a subproblem: those under it, and itself
abbrev pub full_of : Design → Parts → ℕ
full_of design node = full_below design (2 * length design.blocks + sum_by (λ block. length block.shapes) design.blocks) node

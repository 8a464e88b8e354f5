use Rattle.std.proofs.Common.{◌≡◌, drop}
use Rattle.sf_parts.proofs.Common.{first_shapeless}
use Rattle.sf_parts.proofs.build.first_shapeless.Given as goal

abbrev pub invariant-loop-i : goal.invariant-loop-i
invariant-loop-i l = first_shapeless l.blocks l.lists ≡ first_shapeless (drop l.i l.blocks) (drop l.i l.lists)

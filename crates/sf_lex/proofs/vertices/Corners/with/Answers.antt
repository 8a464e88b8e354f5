use Rattle.std.proofs.Common.{w64, rules, refl}
use Rattle.std.proofs.lemmas.Int.{to_z-of_z}
use Rattle.sf_lex.proofs.vertices.Corners.with.Goals as goal

pub returns : goal.returns
returns c = rw (
  to_z-of_z w64 c.min.result (search rules),
  to_z-of_z w64 c.max.result (search rules),
  to_z-of_z w64 c.min-2.result (search rules),
  to_z-of_z w64 c.max-2.result (search rules),
  c.min.ensures.value,
  c.max.ensures.value,
  c.min-2.ensures.value,
  c.max-2.ensures.value,
  to_z-of_z w64 c.args.self.left (search rules),
  to_z-of_z w64 c.args.self.right (search rules),
  to_z-of_z w64 c.args.self.bottom (search rules),
  to_z-of_z w64 c.args.self.top (search rules),
  to_z-of_z w64 c.args.vertex.0 (search rules),
  to_z-of_z w64 c.args.vertex.1 (search rules),
) refl

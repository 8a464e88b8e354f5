use Rattle.std.proofs.Common.{arith, sym, ◌∙◌}
use Rattle.sf_yal.proofs.Common.{words, is_blank_byte}
use Rattle.sf_yal.proofs.Dimensions.{dimensions_are}
use Rattle.sf_yal.proofs.vertices.read_dimensions.Goals as goal

pub returns-in-Ok : goal.returns-in-Ok
returns-in-Ok c =
    sym (dimensions_are c.args.scale.per_unit c.args.line (words is_blank_byte c.args.places.now) c.count_words-count.result _ c.count_words-count.ensures (omega arith) (omega arith) (sym c.in-Ok.is ∙ c.read_box.ensures))

pub returns-in-Err : goal.returns-in-Err
returns-in-Err c =
    rw c.fault_at.ensures (sym (dimensions_are c.args.scale.per_unit c.args.line (words is_blank_byte c.args.places.now) c.count_words-count.result _ c.count_words-count.ensures (omega arith) (omega arith) (sym c.in-Err.is ∙ c.read_box.ensures)))

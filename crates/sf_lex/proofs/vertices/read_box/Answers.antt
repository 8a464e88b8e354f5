use Rattle.sf_lex.proofs.Common.{words, is_gap, vertices_of}
use Rattle.sf_lex.proofs.Boxes.{box_is}
use Rattle.sf_lex.proofs.vertices.read_box.Goals as goal

pub returns : goal.returns
returns c =
    rw c.size.ensures (box_is (vertices_of c.args.scale.per_unit c.args.count (words (is_gap c.args.gap) c.args.places.now)) _ c.in_ok-corners.ensures)

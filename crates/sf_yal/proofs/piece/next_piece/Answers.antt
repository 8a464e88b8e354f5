use Rattle.std.proofs.Common.{◌<◌, ◌≤◌, length, arith}
use Rattle.sf_yal.proofs.Common.{position_or_len, nat_tests, is_semicolon}
use Rattle.std.proofs.lemmas.List.{drop-drop}
use Rattle.std.proofs.lemmas.List.Splits.{slice_split_first}
use Rattle.sf_yal.proofs.Cutting.{split_whole}
use Rattle.sf_yal.proofs.piece.next_piece.Goals as goal

pub returns-then-is_empty-clause-pieces : goal.returns-then-is_empty-clause-pieces
returns-then-is_empty-clause-pieces c =
    let none : length c.args.bytes.now ≤ position_or_len is_semicolon c.args.bytes.now = grind (arith, nat_tests) in
    split_whole is_semicolon c.args.bytes.now none

pub returns-clause-pieces : goal.returns-clause-pieces
returns-clause-pieces c =
    let some : position_or_len is_semicolon c.args.bytes.now < length c.args.bytes.now = grind (arith, nat_tests) in
    let behind = drop-drop 1 (position_or_len is_semicolon c.args.bytes.now) c.args.bytes.now in
    rw (c.split_at-2.ensures.back, c.split_at.ensures.front, c.split_at.ensures.back, c.len_before.ensures.value, behind) (slice_split_first is_semicolon c.args.bytes.now 0 some)

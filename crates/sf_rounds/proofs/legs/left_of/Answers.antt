use Rattle.std.proofs.Common.{ℕ, length, ap, arith}
use Rattle.sf_rounds.proofs.Common.{drop_all, tags_in, sum_by-drop_more, Piece}
use Rattle.sf_rounds.proofs.legs.left_of.Goals as goal

pub overflow_sub-left : goal.overflow_sub-left
overflow_sub-left c =
    let tags : Piece → ℕ = λ p. length p.tags.items in
    let more = sum_by-drop_more tags c.args.pieces.now c.loop-piece.piece-index c.piece-item.result c.loop-piece-test.true in
    let here = ap tags c.piece-item.is in
    let i = c.loop-piece.invariant in
    omega (arith, more, here, i, c.len.ensures, c.requires.few)

pub loop-piece-preserved : goal.loop-piece-preserved
loop-piece-preserved c =
    let tags : Piece → ℕ = λ p. length p.tags.items in
    let more = sum_by-drop_more tags c.args.pieces.now c.loop-piece.piece-index c.piece-item.result c.loop-piece-test.true in
    let here = ap tags c.piece-item.is in
    let i = c.loop-piece.invariant in
    omega (arith, more, here, i, c.len.ensures, c.requires.few)

pub returns : goal.returns
returns c =
    let none = ap tags_in (drop_all c.loop-piece.piece-index c.args.pieces.now (let k = c.loop-piece-test.false in omega arith)) in
    let i = c.loop-piece.invariant in
    record { left = omega (arith, i, none) }

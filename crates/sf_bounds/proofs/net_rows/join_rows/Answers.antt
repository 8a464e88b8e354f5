use Rattle.std.proofs.Common.{◌≡◌, ◌+◌, ◌*◌, ◌<◌, length, get_or, map, sym, ap, ◌∙◌, subst, arith, All, [], ◌∷◌, length-append}
use Rattle.sf_bounds.proofs.Common.{range_with_len, All-push, Cell, IsFitReach, pushed_reach, joined_cell, weighed_cell, weighed_hull, IsFitCell}
use Rattle.sf_bounds.proofs.Weights.{sum-more}
use Rattle.sf_bounds.proofs.NetRows.{read-old, old-fits, joined-is, row-more}
use Rattle.sf_bounds.proofs.net_rows.join_rows.Goals as goal

pub joined_cell-cell-requires-clause-left : goal.joined_cell-cell-requires-clause-left
joined_cell-cell-requires-clause-left c =
    old-fits c.args.cells.now.items _ c.loop-net.cells.items (c.args.left + c.loop-net.net) c.index-of_left.result.now c.requires.fit c.loop-net.invariant.row (omega (arith, c.loop-net-test.true, c.requires.left)) c.index-of_left.ensures

pub joined_cell-cell-requires-clause-right : goal.joined_cell-cell-requires-clause-right
joined_cell-cell-requires-clause-right c =
    old-fits c.args.cells.now.items _ c.loop-net.cells.items (c.args.right + c.loop-net.net) c.index-of_right.result.now c.requires.fit c.loop-net.invariant.row (omega (arith, c.loop-net-test.true, c.requires.right)) c.index-of_right.ensures

pub joined_cell-cell-requires-clause-under : goal.joined_cell-cell-requires-clause-under
joined_cell-cell-requires-clause-under c =
    old-fits c.args.cells.now.items _ c.loop-net.cells.items (c.args.under + c.loop-net.net) c.index-below.result.now c.requires.fit c.loop-net.invariant.row (omega (arith, c.loop-net-test.true, c.requires.under)) c.index-below.ensures

pub joined_cell-cell-requires-clause-moved : goal.joined_cell-cell-requires-clause-moved
joined_cell-cell-requires-clause-moved c =
    let r = read-old c.args.cells.now.items _ c.loop-net.cells.items (c.args.right + c.loop-net.net) c.index-of_right.result.now c.loop-net.invariant.row (omega (arith, c.loop-net-test.true, c.requires.right)) c.index-of_right.ensures in
    subst (λ v. IsFitReach (pushed_reach c.args.direction c.args.by v.reach)) (sym r) (c.requires.near c.loop-net.net c.loop-net-test.true)

pub with_cell-wires-requires-clause-sums : goal.with_cell-wires-requires-clause-sums
with_cell-wires-requires-clause-sums c =
    let s = c.loop-net.invariant.sums.small in
    record { part = omega (arith, s.part, c.loop-net-test.true, c.requires.few); hull = omega (arith, s.hull, c.loop-net-test.true, c.requires.few) }

pub loop-net-preserved : goal.loop-net-preserved
loop-net-preserved c =
    let old = c.args.cells.now.items in
    let j = c.loop-net.net in
    let f = joined_cell old c.args.direction c.args.by c.args.left c.args.right c.args.under in
    let made = map f (range_with_len 0 j) in
    let lt : j < length c.args.weights.now = c.loop-net-test.true in
    let l = read-old old made c.loop-net.cells.items (c.args.left + j) c.index-of_left.result.now c.loop-net.invariant.row (omega (arith, lt, c.requires.left)) c.index-of_left.ensures in
    let r = read-old old made c.loop-net.cells.items (c.args.right + j) c.index-of_right.result.now c.loop-net.invariant.row (omega (arith, lt, c.requires.right)) c.index-of_right.ensures in
    let u = read-old old made c.loop-net.cells.items (c.args.under + j) c.index-below.result.now c.loop-net.invariant.row (omega (arith, lt, c.requires.under)) c.index-below.ensures in
    let cell = c.joined_cell-cell.result in
    let weights = c.args.weights.now in
    let sums = c.loop-net.invariant.sums in
    let same = joined-is old c.args.direction c.args.by c.args.left c.args.right c.args.under j c.index-of_left.result.now c.index-of_right.result.now c.index-below.result.now cell l r u c.joined_cell-cell.ensures.is in
    let from_zero : 0 + j ≡ j = omega arith in
    let part : get_or weights j 0 * cell.part ≡ weighed_cell weights f j = ap (λ (v : Cell). get_or weights j 0 * v.part) same in
    let hull : get_or weights j 0 * cell.hull ≡ weighed_hull weights f j = ap (λ (v : Cell). get_or weights j 0 * v.hull) same in
    record {
      row = row-more f old c.loop-net.cells.items c.push_reserved.new.self.items j cell c.loop-net.invariant.row c.push_reserved.ensures.items same;
      room = omega (arith, c.loop-net.invariant.room, c.push_reserved.ensures.capacity, ap length c.push_reserved.ensures.items, length-append c.loop-net.cells.items (cell ∷ []));
      at = c.with_cell-wires.ensures.at ∙ c.loop-net.invariant.at;
      sums = record {
        part = omega (arith, sums.part, c.with_cell-wires.ensures.sum, part, sum-more (weighed_cell weights f) 0 j, ap (weighed_cell weights f) from_zero);
        hull = omega (arith, sums.hull, c.with_cell-wires.ensures.hull, hull, sum-more (weighed_hull weights f) 0 j, ap (weighed_hull weights f) from_zero);
        small = record { part = omega (arith, sums.small.part, c.with_cell-wires.ensures.small); hull = omega (arith, sums.small.hull, c.with_cell-wires.ensures.hull_small) };
      };
      fit = subst (All IsFitCell) (sym c.push_reserved.ensures.items) (All-push IsFitCell c.loop-net.cells.items cell c.loop-net.invariant.fit c.joined_cell-cell.ensures.fit);
    }

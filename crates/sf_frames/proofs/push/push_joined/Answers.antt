use Rattle.std.proofs.Common.{◌≡◌, [], ◌++◌, ◌∷◌, length, sym, ap, ◌∙◌, subst, arith, rules, length-append}
use Rattle.sf_frames.proofs.Common.{MatchOption, Token, IsStored, at_end, IsLeastOf}
use Rattle.sf_frames.proofs.Keeping.{stored-appended}
use Rattle.sf_frames.proofs.Rooms.{needs-more}
use Rattle.sf_frames.proofs.Pushing.{joined-within, joined-top, joined-pushed}
use Rattle.sf_frames.proofs.Topping.{some-first, left-there, pair-read}
use Rattle.sf_frames.proofs.push.push_joined.Goals as goal

pub overflow_sub-len : goal.overflow_sub-len
overflow_sub-len c =
    omega (arith, c.len.ensures, some-first c.args.design.now c.args.node.now (length c.args.stored.now.frames.items) c.args.direction c.requires.subproblem c.requires.next)

pub index-right-requires : goal.index-right-requires
index-right-requires c =
    omega (arith, c.len.ensures, some-first c.args.design.now c.args.node.now (length c.args.stored.now.frames.items) c.args.direction c.requires.subproblem c.requires.next)

pub overflow_sub-right : goal.overflow_sub-right
overflow_sub-right c =
    (left-there c.args.design.now c.args.node.now c.args.stored.now c.args.direction c.requires.subproblem c.requires.frames.stored c.requires.next c.len.result c.index-right.result.now c.len.ensures c.index-right.ensures).0

pub index-left-requires : goal.index-left-requires
index-left-requires c =
    let t = left-there c.args.design.now c.args.node.now c.args.stored.now c.args.direction c.requires.subproblem c.requires.frames.stored c.requires.next c.len.result c.index-right.result.now c.len.ensures c.index-right.ensures in
    omega (arith, t.0, t.1)

pub join-requires : goal.join-requires
join-requires c =
    let p = pair-read c.args.design.now c.args.node.now c.args.stored.now c.args.direction c.requires.subproblem c.requires.frames.stored c.requires.next c.len.result c.index-right.result.now c.len.ensures c.index-right.ensures c.index-left.result.now c.index-left.ensures in
    search rules

pub joined-sums-requires : goal.joined-sums-requires
joined-sums-requires c =
    let s = c.args.stored.now in
    let o = c.least_of-least.result in
    joined-within c.args.design.now c.args.node.now s.points.items c.join.new.list.items s.whole s.frames.items c.args.direction c.index-left.result.now c.index-right.result.now (pair-read c.args.design.now c.args.node.now s c.args.direction c.requires.subproblem c.requires.frames.stored c.requires.next c.len.result c.index-right.result.now c.len.ensures c.index-right.ensures c.index-left.result.now c.index-left.ensures) c.in_ok-join.ensures.combines c.sums_now-sums.result o c.requires.subproblem c.sums_now-sums.ensures
    (subst (λ v. MatchOption o (v ≡ []) (IsLeastOf v)) c.deref.ensures.value c.least_of-least.ensures)

pub returns-in_err-push-clause-frames : goal.returns-in_err-push-clause-frames
returns-in_err-push-clause-frames c =
    let s = c.args.stored.now in
    record {
      stored = subst (IsStored c.args.design.now c.args.node.now.tokens c.append.new.points.items s.blocks.items s.whole) (sym c.in_err-push.ensures.items)
          (subst (λ v. IsStored c.args.design.now c.args.node.now.tokens v s.blocks.items s.whole s.frames.items) (sym c.in_ok-curve.ensures.points)
          (stored-appended c.args.design.now c.args.node.now.tokens s.points.items _ s.blocks.items s.whole s.frames.items c.requires.frames.stored));
      all = c.requires.frames.all;
      few = omega (arith, ap length c.in_ok-curve.ensures.points, length-append s.points.items c.deref-2.result.now, ap length c.deref-2.ensures.value);
    }

pub returns-clause-frames : goal.returns-clause-frames
returns-clause-frames c =
    let s = c.args.stored.now in
    let F = s.frames.items in
    let l = c.index-left.result.now in
    let o = c.least_of-least.result in
    let k = c.in_ok-curve.curve in
    record {
      stored = joined-pushed c.args.design.now c.args.node.now s.points.items c.join.new.list.items s.whole F c.args.direction l c.index-right.result.now (pair-read c.args.design.now c.args.node.now s c.args.direction c.requires.subproblem c.requires.frames.stored c.requires.next c.len.result c.index-right.result.now c.len.ensures c.index-right.ensures c.index-left.result.now c.index-left.ensures) c.in_ok-join.ensures.combines s.blocks.items c.append.new.points.items c.push.new.self.items c.sums_now-sums.result c.joined-sums.result o k c.requires.frames.stored c.requires.tight c.requires.next c.in_ok-join.ensures.falls
          (subst (λ v. MatchOption o (v ≡ []) (IsLeastOf v)) c.deref.ensures.value c.least_of-least.ensures) c.sums_now-sums.ensures c.joined-sums.ensures
          (c.in_ok-curve.ensures.points ∙ ap (λ v. s.points.items ++ v) c.deref-2.ensures.value)
          (c.in_ok-curve.ensures.kept ∙ ap (λ v. at_end s.points.items v o) c.deref-2.ensures.value)
          (c.in_ok-push.ensures.items ∙ ap (λ (t : Token). F ++ record { token = t; curve = k; below = l.below; end = k.to; sums = c.joined-sums.result } ∷ []) c.operator.ensures);
      all = c.requires.frames.all;
      few = omega (arith, ap length c.in_ok-curve.ensures.points, length-append s.points.items c.deref-2.result.now, ap length c.deref-2.ensures.value);
    }

pub returns-then-len-gt-MOST_POINTS-clause-many : goal.returns-then-len-gt-MOST_POINTS-clause-many
returns-then-len-gt-MOST_POINTS-clause-many c _ =
    let s = c.args.stored.now in
    let r = c.index-right.result.now in
    let made = c.join.new.list.items in
    let top = joined-top c.args.design.now c.args.node.now s.points.items made s.whole s.frames.items c.args.direction c.index-left.result.now r (pair-read c.args.design.now c.args.node.now s c.args.direction c.requires.subproblem c.requires.frames.stored c.requires.next c.len.result c.index-right.result.now c.len.ensures c.index-right.ensures c.index-left.result.now c.index-left.ensures) c.in_ok-join.ensures.combines c.requires.next c.in_ok-join.ensures.falls in
    needs-more c.args.design.now c.args.node.now.tokens s.points.items s.blocks.items s.whole s.frames.items r r.curve c.requires.frames.all c.requires.frames.stored c.requires.tight c.args.direction made c.requires.next top (omega arith)

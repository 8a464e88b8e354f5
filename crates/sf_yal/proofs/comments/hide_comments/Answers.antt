use Rattle.std.proofs.Common.{◌≡◌, ◌<◌, false, length, length-append, sym, ap, ◌∙◌, arith}
use Rattle.sf_yal.proofs.Common.{nat_tests, hide}
use Rattle.sf_yal.proofs.Hiding.{at_mark, at_other, hides, length_hide}
use Rattle.sf_yal.proofs.comments.hide_comments.Goals as goal

pub loop-rest-preserved-then-is_mark : goal.loop-rest-preserved-then-is_mark
loop-rest-preserved-then-is_mark c =
    rw (c.in_ok-extend_from_slice.ensures.items, c.split_at.ensures.back)
    (hides _ _ _ _ _ _ _ c.loop-rest.invariant (at_mark c.loop-rest.inside c.loop-rest.rest.now (sym c.is_mark.ensures ∙ c.if-is_mark.true)))

pub loop-rest-preserved : goal.loop-rest-preserved
loop-rest-preserved c =
    let some : 0 < length c.loop-rest.rest.now = grind (arith, nat_tests) in
    rw (c.in_ok-push.ensures.items, c.split_at-else-is_mark.ensures.back, c.shown_byte.ensures)
    (hides _ _ _ _ _ _ _ c.loop-rest.invariant (at_other c.loop-rest.inside c.loop-rest.rest.now some (sym c.is_mark.ensures ∙ c.if-is_mark.false)))

pub returns-clause-length : goal.returns-clause-length
returns-clause-length c =
    let rest = c.loop-rest.rest.now in
    let none : length rest ≡ 0 = grind (arith, nat_tests) in
    omega (arith, ap length c.loop-rest.invariant.bytes, length-append c.loop-rest.out.items (hide c.loop-rest.inside rest), length_hide c.loop-rest.inside rest, length_hide false c.args.text.now)

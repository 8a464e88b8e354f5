use Rattle.std.proofs.Common.{◌≡◌, ◌-◌, w64, rules, arith, refl, sym, ◌∙◌}
use Rattle.std.proofs.lemmas.Int.{to_z-of_z}
use Rattle.sf_gsrc.proofs.Common.{names_of}
use Rattle.sf_gsrc.proofs.Likes.{first_twice_is}
use Rattle.sf_gsrc.proofs.Names.{one_place_more}
use Rattle.sf_gsrc.proofs.by_name.find_spots.Goals as goal

pub loop-i-preserved-then-is_some : goal.loop-i-preserved-then-is_some
loop-i-preserved-then-is_some c =
    let p = c.index-places-i.result in
    rw (sym c.is_some.ensures ∙ c.if-is_some.true)
    at (one_place_more c.args.places.now (c.loop-i.i - 1) c.loop-i.i p c.as_bytes.result.now _ c.loop-i.by_name c.insert.new.self c.in_ok-later.later _ (omega arith) (omega arith) c.index-places-i.is c.as_bytes.ensures.value
    (rw (to_z-of_z w64 p.x (search rules), to_z-of_z w64 p.y (search rules)) refl) c.in_ok-later.ensures.updates c.in_ok-later.ensures.old c.loop-i.invariant)

pub loop-i-preserved : goal.loop-i-preserved
loop-i-preserved c =
    let p = c.index-places-i.result in
    rw (sym c.is_some.ensures ∙ c.if-is_some.false)
    at (one_place_more c.args.places.now (c.loop-i.i - 1) c.loop-i.i p c.as_bytes.result.now _ c.loop-i.by_name c.insert.new.self c.in_ok-later.later _ (omega arith) (omega arith) c.index-places-i.is c.as_bytes.ensures.value
    (rw (to_z-of_z w64 p.x (search rules), to_z-of_z w64 p.y (search rules)) refl) c.in_ok-later.ensures.updates c.in_ok-later.ensures.old c.loop-i.invariant)

pub returns : goal.returns
returns c =
    let all : c.loop-i.i ≡ 0 = omega arith in
    let known = rw all at c.loop-i.invariant in
    record { by_name = known.by_name; twice = known.twice_is ∙ sym (first_twice_is (names_of c.args.places.now)) }

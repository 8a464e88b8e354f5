use Rattle.std.proofs.Common.{◌≡◌, ◌+◌, ◌<◌, ◌≤◌, length, get_or, sym, subst, ap, ◌∙◌, arith, rules, to_z, of_z, w64, None}
use Rattle.std.proofs.lemmas.Int.{to_z-of_z}
use Rattle.sf_cuts.proofs.Common.{Spot, pos, ints, end_on, int_max, ◌≤ℤ◌, ◌<ℤ◌}
use Rattle.sf_cuts.proofs.Places.{IsSearched, search_begins, search_finds, search_passes, search_ends}
use Rattle.sf_cuts.proofs.parting.last_place.Goals as goal
use Rattle.sf_cuts.proofs.parting.last_place.Goals.{then-reach-begin_on, else-reach-begin_on}
use mir.Val.{SFits}

pub loop-place-init : goal.loop-place-init
loop-place-init c =
    let fits : SFits w64 c.end_on-reach.result = search rules in
    subst (IsSearched c.args.axis c.args.spots.now 1 None) (sym (to_z-of_z w64 c.end_on-reach.result fits ∙ c.end_on-reach.ensures)) (search_begins c.args.axis c.args.spots.now _ c.requires.some)

pub loop-place-preserved : goal.loop-place-preserved
loop-place-preserved c =
    let axis = c.args.axis in
    let spots = c.args.spots.now in
    let n = c.loop-place.place in
    let d : Spot = record { block = 0; x = pos 0; y = pos 0; w = 0; h = 0 } in
    let far = int_max (to_z w64 c.loop-place.reach-bits) (end_on axis (get_or spots n d)) in
    let reach = to_z w64 c.loop-place.reach-bits in
    let within : n < length spots = omega (arith, c.loop-place-test.true) in
    let some : 1 ≤ n = omega (arith, c.loop-place.auto.place) in
    let fits : SFits w64 c.max-reach.result = search rules in
    let end_fits : SFits w64 c.end_on.result = search rules in
    let begin_fits : SFits w64 c.begin_on.result = search rules in
    let ends = to_z-of_z w64 c.end_on.result end_fits ∙ c.end_on.ensures in
    let begins = to_z-of_z w64 c.begin_on.result begin_fits ∙ c.begin_on.ensures in
    let is : to_z w64 (of_z w64 c.max-reach.result) ≡ far =
    to_z-of_z w64 c.max-reach.result fits ∙ c.max-reach.ensures.value ∙ ap (int_max reach) ends in
    subst (IsSearched axis spots (n + 1) c.if-reach-begin_on.last) (sym is)
    (elim c.if-reach-begin_on.branch [
      | then-reach-begin_on w ↦ subst (λ l. IsSearched axis spots (n + 1) l far) (sym w.last-is)
          (search_finds axis spots n c.loop-place.last reach _ some within c.loop-place.invariant (subst (λ z. reach ≤ℤ z) begins (grind (arith, ints, w.if-reach-begin_on.true))))
      | else-reach-begin_on w ↦ subst (λ l. IsSearched axis spots (n + 1) l far) (sym w.last-is)
          (search_passes axis spots n c.loop-place.last reach _ within c.loop-place.invariant (subst (λ z. z <ℤ reach) begins (grind (arith, ints, w.if-reach-begin_on.false))))
    ])

pub returns : goal.returns
returns c =
    search_ends c.args.axis c.args.spots.now c.loop-place.place c.loop-place.last _ (omega (arith, c.loop-place-test.false, c.loop-place.auto.place, c.loop-place.auto.place-end, c.requires.some)) c.loop-place.invariant

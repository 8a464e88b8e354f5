use Rattle.std.proofs.Common.{◌≡◌, ℕ, ◌-◌, All, length, take, drop, sym, subst, ap, arith, ◌∙◌}
use Rattle.sf_cuts.proofs.Common.{All-permutation, HasNearCorner, IsCutPlace, IsLastPlace, length-drop, length_permutation}
use Rattle.std.proofs.lemmas.List.{take_all}
use Rattle.sf_cuts.proofs.Places.{no_parts, parts_at_last}
use Rattle.sf_cuts.proofs.parting.part_along.Goals as goal

pub last_place-requires-clause-some : goal.last_place-requires-clause-some
last_place-requires-clause-some c =
    omega (arith, c.requires.some, ap length c.deref.ensures.value, length_permutation c.args.spots.now c.in_ok-ordered.ordered.items c.in_ok-ordered.ensures.same)

pub last_place-requires-clause-near : goal.last_place-requires-clause-near
last_place-requires-clause-near c =
    subst (All HasNearCorner) (sym c.deref.ensures.value) (All-permutation HasNearCorner c.args.spots.now c.in_ok-ordered.ordered.items c.in_ok-ordered.ensures.same c.requires.near)

pub returns-in-None : goal.returns-in-None
returns-in-None c =
    no_parts c.args.axis c.args.spots.now c.in_ok-ordered.ordered.items c.in_ok-ordered.ensures.same c.in_ok-ordered.ensures.ordered
    (subst (λ v. (k : ℕ) → ¬ (IsCutPlace c.args.axis v k)) c.deref.ensures.value c.in-None.ensures)

pub returns : goal.returns
returns c =
    let zs = c.in_ok-ordered.ordered.items in
    let k = c.in-Some.place in
    let last : IsLastPlace c.args.axis zs (length zs) k = subst (λ v. IsLastPlace c.args.axis v (length v) k) c.deref.ensures.value c.in-Some.ensures in
    let first : c.in_ok-from_slice-in-Some.field-0.items ≡ take k zs = grind (arith, c.in_ok-from_slice-in-Some.ensures.items, c.deref-in-Some.ensures.value) in
    let second : c.in_ok-from_slice-in-Some-2.field-0.items ≡ drop k zs =
    c.in_ok-from_slice-in-Some-2.ensures.items ∙ ap (λ v. take (length v - k) (drop k v)) c.deref-in-Some-2.ensures.value ∙ take_all (length zs - k) (drop k zs) (omega (arith, length-drop k zs)) in
    parts_at_last c.args.spots.now zs k record { axis = c.args.axis; first = c.in_ok-from_slice-in-Some.field-0; second = c.in_ok-from_slice-in-Some-2.field-0 } first second c.in_ok-ordered.ensures.same c.in_ok-ordered.ensures.ordered last

-- A fold over the coordinates of pins, one pin more, and what keeps it near.
use Rattle.std.proofs.Common.{◌≡◌, ℕ, ◌+◌, ◌<◌, ◌≤◌, List, [], ◌∷◌, map, length, get_or, take, ap, sym, subst, ◌∙◌, arith, ◌-ℤ◌}
use Rattle.sf_wire.proofs.Common.{ℤ, fold, nat_abs, int_max, int_min, ints, clamps, Pin, spread, IsDoubledCoordinate, take_more, take_all, map-append}
use Rattle.std.proofs.lemmas.List.Sums.{fold-append}
use mir.Syntax.{w64}
use mir.Val.{to_z, of_z}

-- one pin more is folded in
pub fold_pins : (f : ℤ → ℤ → ℤ) (g : Pin → ℤ) (z : ℤ) (pins : List Pin) (i : ℕ) (d : Pin) (old new at : ℤ) → i < length pins → old ≡ fold f z (map g (take i pins)) → at ≡ g (get_or pins i d) → new ≡ f old at → new ≡ fold f z (map g (take (i + 1) pins))
fold_pins f g z pins i d old new at h was is e =
    let more : fold f z (map g (take (i + 1) pins)) ≡ f (fold f z (map g (take i pins))) (g (get_or pins i d)) =
    ap (λ v. fold f z (map g v)) (take_more pins i d h)
    ∙ ap (fold f z) (map-append g (take i pins) (get_or pins i d ∷ []))
    ∙ fold-append f z (map g (take i pins)) (g (get_or pins i d) ∷ []) in
    e ∙ ap (λ v. f v at) was ∙ ap (f (fold f z (map g (take i pins)))) is ∙ sym more

-- a near number comes through its bits unchanged
pub near_same : (z : ℤ) → IsDoubledCoordinate z → to_z w64 (of_z w64 z) ≡ z
near_same z near = let l = near.low in let h = near.high in omega (arith, ints)

-- the lesser of two near numbers is near
pub near_least : (a b r : ℤ) → IsDoubledCoordinate a → IsDoubledCoordinate b → r ≡ int_min a b → IsDoubledCoordinate r
near_least a b r p q e =
    let n : IsDoubledCoordinate (int_min a b) = record { low = omega (arith, ints, clamps, p.low, q.low); high = omega (arith, ints, clamps, p.high, q.high) } in
    subst IsDoubledCoordinate (sym e) n

-- the greater of two near numbers is near
pub near_greatest : (a b r : ℤ) → IsDoubledCoordinate a → IsDoubledCoordinate b → r ≡ int_max a b → IsDoubledCoordinate r
near_greatest a b r p q e =
    let n : IsDoubledCoordinate (int_max a b) = record { low = omega (arith, ints, clamps, p.low, q.low); high = omega (arith, ints, clamps, p.high, q.high) } in
    subst IsDoubledCoordinate (sym e) n

-- the extent of the first pin and of the others is the spread of all
pub spread_of : (g : Pin → ℤ) (first : Pin) (others : List Pin) (i : ℕ) (x least greatest : ℤ) (r : ℕ) → length others ≤ i → x ≡ g first → least ≡ fold int_min x (map g (take i others)) → greatest ≡ fold int_max x (map g (take i others)) → r ≡ nat_abs (greatest -ℤ least) → r ≡ spread (map g (first ∷ others))
spread_of g first others i x least greatest r h is l m e =
    let all : take i others ≡ others = take_all i others h in
    let low : least ≡ fold int_min (g first) (map g others) = l ∙ ap (λ v. fold int_min v (map g (take i others))) is ∙ ap (λ v. fold int_min (g first) (map g v)) all in
    let high : greatest ≡ fold int_max (g first) (map g others) = m ∙ ap (λ v. fold int_max v (map g (take i others))) is ∙ ap (λ v. fold int_max (g first) (map g v)) all in
    e ∙ ap (λ v. nat_abs (v -ℤ least)) high ∙ ap (λ v. nat_abs (fold int_max (g first) (map g others) -ℤ v)) low

-- The sizes of two rooms that are joined: those of rooms one above the other are those of the turned rooms side by side.
use Rattle.std.proofs.Common.{◌≡◌, ℕ, ◌+◌, ◌<◌, ◌≤◌, ◌⊎◌, inl, inr, List, [], ◌∷◌, ◌++◌, length, map, reverse, drop, refl, sym, ap, ◌∙◌, subst, arith}
use Rattle.sf_curves.proofs.Common.{map-append, reverse-append, drop_all, AllPairs, Shape, Outline, IsSlimmer, IsCombination, AddsWithin, beside_size, size_in}
use Rattle.sf_curves.specs.Combining.{point_after, shared_side, by_width}
use Rattle.sf_curves.specs.declared.direction.Direction.{Direction}
use Rattle.sf_curves.specs.declared.direction.Direction.TheVariants.{Beside, Above}
use Rattle.sf_curves.proofs.Merge.{IsMerging, IsCombined, front, merging-begins, combined, all_covered, advance_left, advance_right, advance_both, at_front, back_left, back_right}
use Rattle.sf_curves.proofs.Transpose.{flip, transposed, length-transposed, get_or-transposed, falls-transposed, combination_above}

-- the points of a curve as those of rooms side by side
abbrev seen : Direction → List Shape → List Shape
seen Beside points = points
seen Above points = transposed points

-- a size as that of rooms side by side
abbrev faced : Direction → Shape → Shape
faced Beside p = p
faced Above p = flip p

-- the outline as it holds rooms side by side
abbrev framed : Direction → Outline → Outline
framed Beside o = o
framed Above o = record { w = o.h; h = o.w }

-- the sizes so far as those of rooms side by side
abbrev found : Direction → List Shape → List Shape
found Beside sizes = sizes
found Above sizes = map flip sizes

-- the sizes so far, where i and j points are passed
abbrev pub IsJoining : Direction → List Shape → List Shape → Outline → List Shape → ℕ → ℕ → Type 0
IsJoining d first second o sizes i j =
    IsMerging (seen d first) (seen d second) (framed d o) (found d sizes) (drop i (seen d first)) (drop j (seen d second))

-- a curve that is seen the other way has as many points
length-seen : (d : Direction) (points : List Shape) → length (seen d points) ≡ length points
length-seen Beside points = refl
length-seen Above points = length-transposed points

-- and falls
falls-seen : (d : Direction) (points : List Shape) → AllPairs IsSlimmer points → AllPairs IsSlimmer (seen d points)
falls-seen Beside points falls = falls
falls-seen Above points falls = falls-transposed points falls

-- its next point is the one after those that are passed
front-seen : (d : Direction) (points : List Shape) (i : ℕ) → i < length points → front (seen d points) i ≡ faced d (point_after d points i)
front-seen Beside points i inside = refl
front-seen Above points i inside = get_or-transposed points i record { w = 0; h = 0 } inside

-- nothing is found yet
found-none : (d : Direction) → found d [] ≡ []
found-none Beside = refl
found-none Above = refl

-- what is added to the sizes is added to them as those of rooms side by side
adds-found : (d : Direction) (o : Outline) (old new : List Shape) (p q : Shape) → AddsWithin o old new (size_in d p q) → AddsWithin (framed d o) (found d old) (found d new) (beside_size (faced d p) (faced d q))
adds-found Beside o old new p q added = added
adds-found Above o old new p q added =
    elim added [
      | inl a ↦ inl ((a.0.1, a.0.0), ap (map flip) a.1 ∙ map-append flip old (size_in Above p q ∷ []))
      | inr a ↦ inr ((λ w. a.0 (w.1, w.0)), ap (map flip) a.1)
    ]

-- the side that counts is the height of rooms side by side
side-faced : (d : Direction) (p : Shape) → (faced d p).h ≡ shared_side d p
side-faced Beside p = refl
side-faced Above p = refl

-- nothing is passed yet
pub joining-begins : (d : Direction) (first second : List Shape) (o : Outline) (sizes : List Shape) → sizes ≡ [] → AllPairs IsSlimmer first → AllPairs IsSlimmer second → IsJoining d first second o sizes 0 0
joining-begins d first second o sizes empty first_falls second_falls =
    subst (λ v. IsMerging (seen d first) (seen d second) (framed d o) v (seen d first) (seen d second)) (sym (ap (found d) empty ∙ found-none d))
    (merging-begins (seen d first) (seen d second) (framed d o) (falls-seen d first first_falls) (falls-seen d second second_falls))

module _ (d : Direction) (first second : List Shape) (o : Outline) (old new : List Shape) (i j : ℕ) (one other : Shape) (one_is : one ≡ point_after d first i) (other_is : other ≡ point_after d second j) (in_first : i < length first) (in_second : j < length second) (m : IsJoining d first second o old i j) (added : AddsWithin o old new (size_in d one other)) where
  -- the next point of the first curve
  first-is : front (seen d first) i ≡ faced d one
  first-is = front-seen d first i in_first ∙ ap (faced d) (sym one_is)

  -- and of the second
  second-is : front (seen d second) j ≡ faced d other
  second-is = front-seen d second j in_second ∙ ap (faced d) (sym other_is)

  -- the sides that are compared
  sides : ((front (seen d first) i).h ≡ shared_side d one) × ((front (seen d second) j).h ≡ shared_side d other)
  sides = (ap (λ v. v.h) first-is ∙ side-faced d one, ap (λ v. v.h) second-is ∙ side-faced d other)

  -- the first curve has a next point
  first-in : i < length (seen d first)
  first-in = omega (arith, in_first, length-seen d first)

  -- and the second
  second-in : j < length (seen d second)
  second-in = omega (arith, in_second, length-seen d second)

  -- both are combined
  taken : IsCombined (seen d first) (seen d second) (framed d o) (found d new) (front (seen d first) i) (drop (i + 1) (seen d first)) (front (seen d second) j) (drop (j + 1) (seen d second))
  taken =
      combined (seen d first) (seen d second) (framed d o) (found d old) (found d new) _ _ _ _
      (at_front (seen d first) (seen d second) (framed d o) (found d old) i j first-in second-in m)
      (subst (λ v. AddsWithin (framed d o) (found d old) (found d new) (beside_size v (front (seen d second) j))) (sym first-is)
      (subst (λ v. AddsWithin (framed d o) (found d old) (found d new) (beside_size (faced d one) v)) (sym second-is)
      (adds-found d o old new one other added)))

  -- the first curve goes on where its room has the greater side
  pub first-on : shared_side d other < shared_side d one → IsJoining d first second o new (i + 1) j
  first-on greater =
      back_left (seen d first) (seen d second) (framed d o) (found d new) i j second-in
      (advance_left _ _ _ _ _ _ _ _ taken (omega (arith, greater, sides.0, sides.1)))

  -- the second goes on where its room has it
  pub second-on : shared_side d one < shared_side d other → IsJoining d first second o new i (j + 1)
  second-on greater =
      back_right (seen d first) (seen d second) (framed d o) (found d new) i j first-in
      (advance_right _ _ _ _ _ _ _ _ taken (omega (arith, greater, sides.0, sides.1)))

  -- both go on where the sides are equal
  pub both-on : shared_side d one ≡ shared_side d other → IsJoining d first second o new (i + 1) (j + 1)
  both-on same =
      advance_both _ _ _ _ _ _ _ _ taken (omega (arith, same, sides.0, sides.1))

-- turning twice gives the sizes from the other end
turned_back : (xs : List Shape) → transposed (map flip xs) ≡ reverse xs
turned_back [] = refl
turned_back (x ∷ xs) =
    ap (map flip) (reverse-append (flip x ∷ []) (map flip xs))
    ∙ map-append flip (reverse (map flip xs)) (flip x ∷ [])
    ∙ ap (λ v. v ++ x ∷ []) (turned_back xs)
    ∙ sym (reverse-append (x ∷ []) xs)

-- what holds of turned rooms side by side holds of the rooms that are joined
combination-seen : (d : Direction) (first second : List Shape) (o : Outline) (sizes : List Shape) → IsCombination beside_size (framed d o) (seen d first) (seen d second) (found d sizes) → IsCombination (size_in d) o first second (by_width d sizes)
combination-seen Beside first second o sizes c = c
combination-seen Above first second o sizes c =
    subst (IsCombination (size_in Above) o first second) (turned_back sizes) (combination_above o first second (map flip sizes) c)

-- the sizes by width, when nothing is left of one curve
pub joining-ends : (d : Direction) (first second : List Shape) (o : Outline) (sizes : List Shape) (i j : ℕ) → IsJoining d first second o sizes i j → (length first ≤ i) ⊎ (length second ≤ j) → IsCombination (size_in d) o first second (by_width d sizes)
joining-ends d first second o sizes i j m done =
    combination-seen d first second o sizes record {
      within = m.within;
      traced = m.traced;
      short = m.short;
      covers = all_covered _ _ _ _ _ _ m
          (elim done [
            | inl e ↦ inl (drop_all i (seen d first) (omega (arith, e, length-seen d first)))
            | inr e ↦ inr (drop_all j (seen d second) (omega (arith, e, length-seen d second)))
          ]);
    }

-- these fall
pub joining-falls : (d : Direction) (first second : List Shape) (o : Outline) (sizes : List Shape) (i j : ℕ) → IsJoining d first second o sizes i j → AllPairs IsSlimmer (by_width d sizes)
joining-falls Beside first second o sizes i j m = m.falls
joining-falls Above first second o sizes i j m = subst (AllPairs IsSlimmer) (turned_back sizes) (falls-transposed (map flip sizes) m.falls)

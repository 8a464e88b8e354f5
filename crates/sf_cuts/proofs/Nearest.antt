-- The first of the shapes of nearest width.
use Rattle.std.proofs.Common.{◌≡◌, ℕ, ◌+◌, ◌<◌, ◌≤◌, List, length, get_or, sym, ap, ◌∙◌, subst, arith, inl, inr}
use Rattle.std.specs.Int.{abs_diff}
use Rattle.std.proofs.lemmas.Bool.{cases_eq, cases_lt}
use Rattle.sf_model.specs.Limits.{IsShapeList}
use Rattle.sf_cuts.specs.Packed.{IsNearest}
use Rattle.sf_cuts.proofs.Common.{Contains, Contains-get_or, Shape, get_or_default}

-- no shape
pub no_shape : Shape
no_shape = record { w = 0; h = 0 }

-- how far the width of the shape at a place is from w
abbrev pub far : List Shape → ℕ → ℕ → ℕ
far shapes w i = abs_diff (get_or shapes i no_shape).w w

-- the shape stands at a place before which each is further from w, and none of the first n is nearer
pub record IsNearestOfFirst (shapes : List Shape) (w n : ℕ) (shape : Shape) : Type 0 where
  pub place : ℕ
  pub in_range : place < length shapes
  pub is : get_or shapes place no_shape ≡ shape
  pub further : (i : ℕ) → i < place → abs_diff shape.w w < far shapes w i
  pub nearest : (i : ℕ) → i < n → abs_diff shape.w w ≤ far shapes w i

-- the search begins with the first shape
pub nearest_begins : (shapes : List Shape) (w : ℕ) (d : Shape) → 1 ≤ length shapes → IsNearestOfFirst shapes w 0 (get_or shapes 0 d)
nearest_begins shapes w d some = record {
  place = 0;
  in_range = omega (arith, some);
  is = get_or_default shapes 0 no_shape d (omega (arith, some));
  further = λ i h. absurd (omega (arith, h));
  nearest = λ i h. absurd (omega (arith, h));
}

-- a nearer shape is the first of its distance
pub nearest_found : (shapes : List Shape) (w n : ℕ) (shape d : Shape) → IsNearestOfFirst shapes w n shape → n < length shapes
    → abs_diff (get_or shapes n d).w w < abs_diff shape.w w → IsNearestOfFirst shapes w (n + 1) (get_or shapes n d)
nearest_found shapes w n shape d s in_range nearer =
    let e : get_or shapes n no_shape ≡ get_or shapes n d = get_or_default shapes n no_shape d in_range in
    let here : far shapes w n ≡ abs_diff (get_or shapes n d).w w = ap (λ (x : Shape). abs_diff x.w w) e in
    record {
      place = n;
      in_range = in_range;
      is = e;
      further = λ i h. let k : abs_diff shape.w w ≤ far shapes w i = s.nearest i h in omega (arith, k, nearer);
      nearest = λ i h. elim (cases_eq i n) [
        | inl i_n ↦ subst (λ m. abs_diff (get_or shapes n d).w w ≤ far shapes w m) (sym i_n) (omega (arith, here))
        | inr other ↦ (let k : abs_diff shape.w w ≤ far shapes w i = s.nearest i (omega (arith, h, other)) in omega (arith, k, nearer))
      ];
    }

-- one that isn't nearer changes nothing
pub nearest_stays : (shapes : List Shape) (w n : ℕ) (shape d : Shape) → IsNearestOfFirst shapes w n shape → n < length shapes
    → abs_diff shape.w w ≤ abs_diff (get_or shapes n d).w w → IsNearestOfFirst shapes w (n + 1) shape
nearest_stays shapes w n shape d s in_range no_nearer =
    let e : get_or shapes n no_shape ≡ get_or shapes n d = get_or_default shapes n no_shape d in_range in
    let here : far shapes w n ≡ abs_diff (get_or shapes n d).w w = ap (λ (x : Shape). abs_diff x.w w) e in
    record {
      place = s.place;
      in_range = s.in_range;
      is = s.is;
      further = s.further;
      nearest = λ i h. elim (cases_eq i n) [
        | inl i_n ↦ subst (λ m. abs_diff shape.w w ≤ far shapes w m) (sym i_n) (omega (arith, here, no_nearer))
        | inr other ↦ s.nearest i (omega (arith, h, other))
      ];
    }

-- in a list of a block, a shape as near stands no earlier, and so it is no narrower, and as wide it is no lower
no_earlier : (shapes : List Shape) (w : ℕ) (shape : Shape) → IsShapeList shapes → IsNearestOfFirst shapes w (length shapes) shape → (i : ℕ) (d : Shape) → i < length shapes
    → abs_diff (get_or shapes i d).w w ≡ abs_diff shape.w w → (shape.w ≤ (get_or shapes i d).w) × ((get_or shapes i d).w ≡ shape.w → shape.h ≤ (get_or shapes i d).h)
no_earlier shapes w shape list s i d in_range same =
    let e : get_or shapes i no_shape ≡ get_or shapes i d = get_or_default shapes i no_shape d in_range in
    let here : far shapes w i ≡ abs_diff (get_or shapes i d).w w = ap (λ (x : Shape). abs_diff x.w w) e in
    elim (cases_lt i s.place) [
      | inl before ↦ (let k : abs_diff shape.w w < far shapes w i = s.further i before in absurd (omega (arith, k, here, same)))
      | inr from ↦ elim (cases_eq i s.place) [
        | inl at ↦ (
            let is : get_or shapes i d ≡ shape = sym e ∙ ap (λ m. get_or shapes m no_shape) at ∙ s.is in
            let wide : (get_or shapes i d).w ≡ shape.w = ap (λ (x : Shape). x.w) is in
            let high : (get_or shapes i d).h ≡ shape.h = ap (λ (x : Shape). x.h) is in
            (omega (arith, wide), λ _. omega (arith, high))
            )
        | inr other ↦ (
            let stands : get_or shapes s.place d ≡ shape = get_or_default shapes s.place d no_shape s.in_range ∙ s.is in
            let before = list.choice.ordered s.place i d (omega (arith, from, other)) in_range in
            let wide : (get_or shapes s.place d).w ≡ shape.w = ap (λ (x : Shape). x.w) stands in
            let high : (get_or shapes s.place d).h ≡ shape.h = ap (λ (x : Shape). x.h) stands in
            let no_narrower : (get_or shapes s.place d).w ≤ (get_or shapes i d).w = before.0 in (
              omega (arith, wide, no_narrower),
              λ equal.
                  let lower : (get_or shapes s.place d).h < (get_or shapes i d).h = before.1 (wide ∙ sym equal) in
                  omega (arith, high, lower),
            )
            )
      ]
    ]

-- past the last shape, the nearest so far is the nearest of the list
pub nearest_of_all : (shapes : List Shape) (w n : ℕ) (shape : Shape) → IsShapeList shapes → n ≡ length shapes → IsNearestOfFirst shapes w n shape → IsNearest shapes w shape
nearest_of_all shapes w n shape list whole first =
    let s : IsNearestOfFirst shapes w (length shapes) shape = subst (λ m. IsNearestOfFirst shapes w m shape) whole first in
    record {
      listed = subst (Contains shapes) s.is (Contains-get_or shapes s.place no_shape s.in_range);
      nearest = λ i d h.
          let e : get_or shapes i no_shape ≡ get_or shapes i d = get_or_default shapes i no_shape d h in
          subst (λ (x : Shape). abs_diff shape.w w ≤ abs_diff x.w w) e (s.nearest i h);
      narrower = λ i d h same. (no_earlier shapes w shape list s i d h same).0;
      lower = λ i d h wide. (no_earlier shapes w shape list s i d h (ap (λ v. abs_diff v w) wide)).1 wide;
    }

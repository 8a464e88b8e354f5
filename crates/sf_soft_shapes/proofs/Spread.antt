-- Shapes put at the end of those at earlier widths.
use Rattle.std.proofs.Common.{◌≡◌, ℕ, ◌+◌, ◌-◌, ◌*◌, ◌/◌, ◌<◌, ◌≤◌, inl, inr, true, false, nat_le, List, [], ◌∷◌, ◌++◌, length, get_or, map, ap, sym, subst, ◌∙◌, arith}
use Rattle.sf_soft_shapes.proofs.Common.{range_with_len, nat_tests, div_ceil_times, IsSide, IsShapeChoice, Shape, shape, height_at, width_count, widths, IsAllowed, IsSoftList, mul-le-mul_right, div-mul-le_self, div-le_of_le-mul, le-div_iff_mul-le, zero-mul, cases_lt}
use Rattle.std.proofs.lemmas.List.FromFn.{map-range_with_len_more, get_or-map-range_with_len, length-map-range_with_len}
use Rattle.std.proofs.lemmas.List.{map-append, length-map}
use Rattle.std.proofs.lemmas.Simd.{map-map}

-- one item more at the end of those at the first j numbers is that at the number j
pub grown : {X : Type 0} (g : ℕ → X) (f : ℕ → ℕ) (j : ℕ) (xs ys : List X) (x : X) → ys ≡ xs ++ x ∷ [] → xs ≡ map g (map f (range_with_len 0 j)) → x ≡ g (f j) → ys ≡ map g (map f (range_with_len 0 (j + 1)))
grown g f j xs ys x put was is =
    let more : map f (range_with_len 0 (j + 1)) ≡ map f (range_with_len 0 j) ++ f j ∷ [] = map-range_with_len_more f 0 j j (omega arith) in
    let split : map g (map f (range_with_len 0 j) ++ f j ∷ []) ≡ map g (map f (range_with_len 0 j)) ++ g (f j) ∷ [] = map-append g (map f (range_with_len 0 j)) (f j ∷ []) in
    put ∙ ap (λ zs. zs ++ x ∷ []) was ∙ ap (λ z. map g (map f (range_with_len 0 j)) ++ z ∷ []) is ∙ sym split ∙ ap (map g) (sym more)

-- the item at a place is that at its number
item : {X : Type 0} (g : ℕ → X) (f : ℕ → ℕ) (n k : ℕ) (d : X) → k < n → get_or (map g (map f (range_with_len 0 n))) k d ≡ g (f k)
item g f n k d low = ap (λ xs. get_or xs k d) (map-map g f (range_with_len 0 n)) ∙ get_or-map-range_with_len (λ j. g (f j)) 0 n k k d low (omega arith)

-- shapes at rising widths, each of sides within the limit
pub choice_at : (area n : ℕ) (f : ℕ → ℕ) → n ≤ 256 → ((i : ℕ) → i < n → IsSide (f i) × IsSide (height_at area (f i))) → ((i j : ℕ) → i < j → j < n → f i < f j) → IsShapeChoice (map (λ w. shape w (height_at area w)) (map f (range_with_len 0 n)))
choice_at area n f few sides rise =
    let g : ℕ → Shape = λ w. shape w (height_at area w) in
    let len : length (map g (map f (range_with_len 0 n))) ≡ n = length-map (map f (range_with_len 0 n)) g ∙ length-map-range_with_len f 0 n in
    let P : Shape → Type 0 = λ s. IsSide s.w × IsSide s.h in
    record {
      few = omega arith;
      sides = λ k d low. subst P (sym (item g f n k d (omega arith))) (sides k (omega arith));
      ordered = λ i j d less low.
          let a : get_or (map g (map f (range_with_len 0 n))) i d ≡ g (f i) = item g f n i d (omega arith) in
          let b : get_or (map g (map f (range_with_len 0 n))) j d ≡ g (f j) = item g f n j d (omega arith) in
          rw (a, b) (let r = rise i j less (omega arith) in (omega arith, λ e. absurd (omega arith)));
    }

-- steps of at least one
pub step_rises : (d m i j : ℕ) → 1 ≤ m → m ≤ d → i < j → i * d / m < j * d / m
step_rises d m i j some wide less =
    let q = i * d / m in
    let low : q * m ≤ i * d = div-mul-le_self (i * d) m in
    let next : (i + 1) * d ≤ j * d = (let s : i + 1 ≤ j = omega arith in mul-le-mul_right d s) in
    let e : (i + 1) * d ≡ i * d + d = omega arith in
    let f : (q + 1) * m ≡ q * m + m = omega arith in
    let within : (q + 1) * m ≤ j * d = omega arith in
    let so : q + 1 ≤ j * d / m = (le-div_iff_mul-le {k = m} {x = q + 1} {y = j * d} (omega arith)).1 within in
    omega arith

-- a step stays within the distance of the ends
pub step_within : (d m j : ℕ) → j ≤ m → j * d / m ≤ d
step_within d m j low =
    let le : j * d ≤ m * d = mul-le-mul_right d low in
    div-le_of_le-mul m {m = j * d} {n = d} le

-- a block with an area has a height
height_some : (area w : ℕ) → 1 ≤ area → 1 ≤ w → 1 ≤ height_at area w
height_some area w some wide =
    let holds = (div_ceil_times area w (omega arith)).0 in
    let not_zero : ¬ (height_at area w ≡ 0) = (λ z. let e : height_at area w * w ≡ 0 = ap (λ h. h * w) z ∙ zero-mul w in omega arith) in
    omega arith

-- the sides at an allowed width keep the limit
allowed_sides : (area least most w : ℕ) → 1 ≤ area → IsAllowed area least most w → IsSide w × IsSide (height_at area w)
allowed_sides area least most w some is = ((is.some, is.width), (height_some area w some is.some, is.height))

-- shapes at the widths of an interval whose sides keep the limit are distinct, in order and few
widths_choice : (area k lo hi : ℕ) → 2 ≤ k → k ≤ 256 → ((w : ℕ) → lo ≤ w → w ≤ hi → IsSide w × IsSide (height_at area w)) → IsShapeChoice (map (λ w. shape w (height_at area w)) (widths k lo hi))
widths_choice area k lo hi two few sides = elim (cases_lt k (width_count lo hi)) [
  | inl more ↦
      (let test : nat_le (width_count lo hi) k ≡ false = grind (arith, nat_tests) in
      rw test (choice_at area k (λ j. lo + j * (hi - lo) / (k - 1)) few
      (λ i low. let w = step_within (hi - lo) (k - 1) i (omega arith) in sides (lo + i * (hi - lo) / (k - 1)) (omega arith) (omega arith))
      (λ i j less low. let r = step_rises (hi - lo) (k - 1) i j (omega arith) (omega arith) less in omega arith)))
  | inr within ↦
      (let test : nat_le (width_count lo hi) k ≡ true = grind (arith, nat_tests) in
      rw test (choice_at area (width_count lo hi) (λ j. lo + j) (omega arith) (λ i low. sides (lo + i) (omega arith) (omega arith)) (λ i j less low. omega arith)))
]

-- the list of a soft block is one that a block may have
pub soft_choice : (area least most k : ℕ) (shapes : List Shape) → 1 ≤ area → 2 ≤ k → k ≤ 256 → IsSoftList area least most k shapes → IsShapeChoice shapes
soft_choice area least most k shapes some two few is =
    let lo = is.lo in
    let hi = is.hi in
    let sides : (w : ℕ) → lo ≤ w → w ≤ hi → IsSide w × IsSide (height_at area w) = λ w from to. allowed_sides area least most w some ((is.between w).1 (from, to)) in
    let T : List Shape → Type 0 = λ ss. IsShapeChoice ss in
    subst T (sym is.listed) (widths_choice area k lo hi two few sides)

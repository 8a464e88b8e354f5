-- Spots in order along an axis can be parted along it just where some place cuts them.
use Rattle.std.proofs.Common.{◌≡◌, ℕ, suc, ◌+◌, ◌-◌, ◌<◌, ◌≤◌, List, ◌++◌, length, get_or, take, drop, All, sym, ap, ◌∙◌, subst, arith, ◌⊎◌, inl, inr, length-append, Option, Some, None}
use Rattle.std.proofs.lemmas.Bool.{cases_eq, cases_lt}
use Rattle.std.specs.Option.{MatchOption}
use Rattle.sf_cuts.proofs.Common.{zero, AllPairs, IsPermutation, Contains, Axis, Spot, begin_on, side_on, end_on, IsNoLater, IsCutPlace, IsLastPlace, AreParts, ArePartsOf, CanBeCut, Parts, ℤ, pos, ◌<ℤ◌, ◌≤ℤ◌, ints, clamps, int_max, by_lt_z, All-append, All-weaker, All-permutation, Contains-append_left, Contains-append_right, Contains-get_or, Contains-permutation, IsPermutation-sym, IsPermutation-trans, length_permutation, length-drop, length-take-le, get_or-take, get_or-drop, get_or_default, take-append-drop}

-- a spot in no place
pub nowhere : Spot
nowhere = record { block = 0; x = pos 0; y = pos 0; w = 0; h = 0 }

-- parts of spots are parts of the same in another order
pub can_be_cut_in_order : (axis : Axis) (xs ys : List Spot) → IsPermutation xs ys → CanBeCut axis xs → CanBeCut axis ys
can_be_cut_in_order axis xs ys same c = record {
  first = c.first;
  second = c.second;
  parts = record {
    all = IsPermutation-trans ys xs (c.first ++ c.second) (IsPermutation-sym xs ys same) c.parts.all;
    some_first = c.parts.some_first;
    some_second = c.parts.some_second;
    at = c.parts.at;
    before = c.parts.before;
    after = c.parts.after;
  };
}

-- what holds of each number below n and of n holds of each below n + 1
below_suc : (P : ℕ → Type 0) (n : ℕ) → ((i : ℕ) → i < n → P i) → P n → (i : ℕ) → i < suc n → P i
below_suc P n all here i h = elim (cases_eq i n) [ inl e ↦ subst P (sym e) here | inr e ↦ all i (omega (arith, e)) ]

-- each of the first n spots ends at or before a place, or some first one ends past it
first_past : (axis : Axis) (at : ℤ) (xs : List Spot) (n : ℕ)
    → ((i : ℕ) → i < n → end_on axis (get_or xs i nowhere) ≤ℤ at)
    ⊎ ((k : ℕ) × (k < n) × (at <ℤ end_on axis (get_or xs k nowhere)) × ((i : ℕ) → i < k → end_on axis (get_or xs i nowhere) ≤ℤ at))
first_past axis at xs zero = inl (λ i h. absurd (omega arith))
first_past axis at xs (suc n) =
    elim (first_past axis at xs n) [
      | inr k ↦ inr (k.0, omega (arith, k.1), k.2, k.3)
      | inl all ↦ by_lt_z at (end_on axis (get_or xs n nowhere))
          (λ past. inr (n, omega arith, past, all))
          (λ within. inl (below_suc (λ i. end_on axis (get_or xs i nowhere) ≤ℤ at) n all within))
    ]

-- where a spot ends at or before a place, the first in order does so, too, if it doesn't stand across the place
first_within : (axis : Axis) (at : ℤ) (zs : List Spot) (s : Spot) → AllPairs (IsNoLater axis) zs → Contains zs s → end_on axis s ≤ℤ at
    → (end_on axis (get_or zs 0 nowhere) ≤ℤ at) ⊎ (at ≤ℤ begin_on axis (get_or zs 0 nowhere)) → end_on axis (get_or zs 0 nowhere) ≤ℤ at
first_within axis at zs s up has within (inl h) = h
first_within axis at zs s up has within (inr h) =
    let a = get_or zs 0 nowhere in
    let same : get_or zs has.0 nowhere ≡ s = get_or_default zs has.0 nowhere s has.1 ∙ has.2 in
    elim (cases_eq has.0 0) [
      | inl e ↦ subst (λ t. end_on axis t ≤ℤ at) (sym same ∙ ap (λ k. get_or zs k nowhere) e) within
      | inr e ↦ (
          let no_later : IsNoLater axis a s = subst (IsNoLater axis a) same (up 0 has.0 nowhere (omega (arith, e)) has.1) in
          let begins : begin_on axis a ≤ℤ begin_on axis s = no_later.0 in
          let together : begin_on axis a ≡ begin_on axis s = omega (arith, ints, h, within, begins) in
          let shorter : side_on axis a ≤ side_on axis s = no_later.1 together in
          omega (arith, ints, within, together, shorter)
          )
    ]

-- a place that cuts spots, said of one spot past the end
made_place : (axis : Axis) (zs : List Spot) (k : ℕ) → 1 ≤ k → k < length zs
    → ((i : ℕ) → i < k → end_on axis (get_or zs i nowhere) ≤ℤ begin_on axis (get_or zs k nowhere)) → IsCutPlace axis zs k
made_place axis zs k some within before = record {
  some = some;
  within = within;
  before = λ i d h.
      let ei = get_or_default zs i nowhere d (omega (arith, h, within)) in
      let ek = get_or_default zs k nowhere d within in
      subst (λ t. end_on axis (get_or zs i d) ≤ℤ begin_on axis t) ek (subst (λ s. end_on axis s ≤ℤ begin_on axis (get_or zs k nowhere)) ei (before i h));
}

-- each spot ends at or before the place between the parts, or begins at or after it
each_aside : (axis : Axis) (zs : List Spot) (c : CanBeCut axis zs) → All (λ s. (end_on axis s ≤ℤ c.parts.at) ⊎ (c.parts.at ≤ℤ begin_on axis s)) zs
each_aside axis zs c =
    let at = c.parts.at in
    let P : Spot → Type 0 = λ s. (end_on axis s ≤ℤ at) ⊎ (at ≤ℤ begin_on axis s) in
    All-permutation P (c.first ++ c.second) zs (IsPermutation-sym zs (c.first ++ c.second) c.parts.all)
    (All-append P c.first c.second
    (All-weaker (λ s. end_on axis s ≤ℤ at) P (λ s h. inl h) c.first c.parts.before)
    (All-weaker (λ s. at ≤ℤ begin_on axis s) P (λ s h. inr h) c.second c.parts.after))

-- some spot is in the first part, and some in the second
some_before : (axis : Axis) (zs : List Spot) (c : CanBeCut axis zs) → (s : Spot) × Contains zs s × (end_on axis s ≤ℤ c.parts.at)
some_before axis zs c = (
  get_or c.first 0 nowhere,
  Contains-permutation (c.first ++ c.second) zs (get_or c.first 0 nowhere) (IsPermutation-sym zs (c.first ++ c.second) c.parts.all)
      (Contains-append_left c.first c.second (get_or c.first 0 nowhere) (Contains-get_or c.first 0 nowhere c.parts.some_first)),
  c.parts.before 0 nowhere c.parts.some_first,
)

some_after : (axis : Axis) (zs : List Spot) (c : CanBeCut axis zs) → (s : Spot) × Contains zs s × (c.parts.at ≤ℤ begin_on axis s)
some_after axis zs c = (
  get_or c.second 0 nowhere,
  Contains-permutation (c.first ++ c.second) zs (get_or c.second 0 nowhere) (IsPermutation-sym zs (c.first ++ c.second) c.parts.all)
      (Contains-append_right c.first c.second (get_or c.second 0 nowhere) (Contains-get_or c.second 0 nowhere c.parts.some_second)),
  c.parts.after 0 nowhere c.parts.some_second,
)

-- there are two spots at least
two_spots : (axis : Axis) (zs : List Spot) (c : CanBeCut axis zs) → 2 ≤ length zs
two_spots axis zs c =
    let n = length_permutation zs (c.first ++ c.second) c.parts.all in
    omega (arith, n, length-append c.first c.second, c.parts.some_first, c.parts.some_second)

-- the last spot in order begins no earlier than any
last_begins : (axis : Axis) (at : ℤ) (zs : List Spot) (s : Spot) → AllPairs (IsNoLater axis) zs → Contains zs s → at ≤ℤ begin_on axis s
    → at ≤ℤ begin_on axis (get_or zs (length zs - 1) nowhere)
last_begins axis at zs s up has h =
    let k = has.0 in
    let in_range : k < length zs = has.1 in
    let same : get_or zs k nowhere ≡ s = get_or_default zs k nowhere s in_range ∙ has.2 in
    let here : at ≤ℤ begin_on axis (get_or zs k nowhere) = subst (λ t. at ≤ℤ begin_on axis t) (sym same) h in
    elim (cases_eq k (length zs - 1)) [
      | inl e ↦ subst (λ i. at ≤ℤ begin_on axis (get_or zs i nowhere)) e here
      | inr e ↦ (
          let before : k < length zs - 1 = omega (arith, e, in_range) in
          let last : length zs - 1 < length zs = omega (arith, in_range) in
          let begins : begin_on axis (get_or zs k nowhere) ≤ℤ begin_on axis (get_or zs (length zs - 1) nowhere) = (up k (length zs - 1) nowhere before last).0 in
          omega (arith, ints, here, begins)
          )
    ]

-- what ends at or before a place doesn't end past it
not_past : (axis : Axis) (at : ℤ) (s : Spot) → end_on axis s ≤ℤ at → at <ℤ end_on axis s → ⊥
not_past axis at s h k = omega (arith, ints, h, k)

-- spots further on begin no earlier
begins_later : (axis : Axis) (zs : List Spot) (k i : ℕ) → AllPairs (IsNoLater axis) zs → k + i < length zs → begin_on axis (get_or zs k nowhere) ≤ℤ begin_on axis (get_or zs (k + i) nowhere)
begins_later axis zs k i up in_range =
    elim (cases_eq i 0) [
      | inl e ↦ (let same : k ≡ k + i = omega (arith, e) in subst (λ m. begin_on axis (get_or zs k nowhere) ≤ℤ begin_on axis (get_or zs m nowhere)) same (omega (arith, ints)))
      | inr e ↦ (up k (k + i) nowhere (omega (arith, e)) in_range).0
    ]

-- the rest of spots in order is in order
in_order-drop : (axis : Axis) (zs : List Spot) (k : ℕ) → AllPairs (IsNoLater axis) zs → AllPairs (IsNoLater axis) (drop k zs)
in_order-drop axis zs k up i j d lt in_range =
    let n : length (drop k zs) ≡ length zs - k = length-drop k zs in
    subst (λ t. IsNoLater axis (get_or (drop k zs) i d) t) (sym (get_or-drop k zs j d))
    (subst (λ s. IsNoLater axis s (get_or zs (k + j) d)) (sym (get_or-drop k zs i d)) (up (k + i) (k + j) d (omega (arith, lt)) (omega (arith, n, in_range))))

-- spots in order that can be parted have a place that cuts them
pub place_of_parts : (axis : Axis) (zs : List Spot) → AllPairs (IsNoLater axis) zs → CanBeCut axis zs → (k : ℕ) × IsCutPlace axis zs k
place_of_parts axis zs up c =
    let at = c.parts.at in
    let two : 2 ≤ length zs = two_spots axis zs c in
    let l = some_before axis zs c in
    let r = some_after axis zs c in
    let start : end_on axis (get_or zs 0 nowhere) ≤ℤ at = first_within axis at zs l.0 up l.1 l.2 (each_aside axis zs c 0 nowhere (omega (arith, two))) in
    elim (first_past axis at zs (length zs)) [
      | inl all ↦ (
        length zs - 1,
        made_place axis zs (length zs - 1) (omega (arith, two)) (omega (arith, two)) (λ i h.
            let ends : end_on axis (get_or zs i nowhere) ≤ℤ at = all i (omega (arith, h)) in
            let begins : at ≤ℤ begin_on axis (get_or zs (length zs - 1) nowhere) = last_begins axis at zs r.0 up r.1 r.2 in
            omega (arith, ints, ends, begins)),
      )
      | inr k ↦ (
        k.0,
        made_place axis zs k.0
            (elim (cases_eq k.0 0) [
              | inl e ↦ absurd (not_past axis at (get_or zs 0 nowhere) start (subst (λ i. at <ℤ end_on axis (get_or zs i nowhere)) e k.2))
              | inr e ↦ omega (arith, e)
            ])
            k.1 (λ i h.
            let ends : end_on axis (get_or zs i nowhere) ≤ℤ at = k.3 i h in
            elim (each_aside axis zs c k.0 nowhere k.1) [
              | inl w ↦ absurd (not_past axis at (get_or zs k.0 nowhere) w k.2)
              | inr w ↦ omega (arith, ints, ends, w)
            ]),
      )
    ]

-- the spots before a place that cuts spots in order, and those from it on, are parts
pub parts_of_place : (axis : Axis) (spots zs : List Spot) (k : ℕ) → IsPermutation spots zs → AllPairs (IsNoLater axis) zs → IsCutPlace axis zs k
    → AreParts axis spots (take k zs) (drop k zs)
parts_of_place axis spots zs k same up p =
    let within : k < length zs = p.within in
    record {
      all = subst (IsPermutation spots) (sym (take-append-drop k zs)) same;
      some_first = omega (arith, length-take-le k zs (omega (arith, within)), p.some);
      some_second = omega (arith, length-drop k zs, within);
      at = begin_on axis (get_or zs k nowhere);
      before = λ i d h.
          let n : length (take k zs) ≡ k = length-take-le k zs (omega (arith, within)) in
          let lt : i < k = omega (arith, n, h) in
          let e : get_or (take k zs) i d ≡ get_or zs i nowhere = get_or-take k zs i d lt ∙ get_or_default zs i d nowhere (omega (arith, lt, within)) in
          subst (λ s. end_on axis s ≤ℤ begin_on axis (get_or zs k nowhere)) (sym e) (p.before i nowhere lt);
      after = λ i d h.
          let n : length (drop k zs) ≡ length zs - k = length-drop k zs in
          let in_range : k + i < length zs = omega (arith, n, h) in
          let e : get_or (drop k zs) i d ≡ get_or zs (k + i) nowhere = get_or-drop k zs i d ∙ get_or_default zs (k + i) d nowhere in_range in
          subst (λ s. begin_on axis (get_or zs k nowhere) ≤ℤ begin_on axis s) (sym e) (begins_later axis zs k i up in_range);
    }

-- no part along the axis of the spots from the last place on
pub last_part : (axis : Axis) (zs : List Spot) (k : ℕ) → AllPairs (IsNoLater axis) zs → IsLastPlace axis zs (length zs) k → ¬ (CanBeCut axis (drop k zs))
last_part axis zs k up p c =
    let q = place_of_parts axis (drop k zs) (in_order-drop axis zs k up) c in
    let j = q.0 in
    let place = q.1 in
    let n : length (drop k zs) ≡ length zs - k = length-drop k zs in
    let in_range : k + j < length zs = omega (arith, n, place.within) in
    p.last (k + j) (omega (arith, place.some)) in_range
    (made_place axis zs (k + j) (omega (arith, place.some)) in_range (λ i h.
    let begins : begin_on axis (get_or zs k nowhere) ≤ℤ begin_on axis (get_or zs (k + j) nowhere) = begins_later axis zs k j up in_range in
    elim (cases_lt i k) [
      | inl lt ↦ (let ends : end_on axis (get_or zs i nowhere) ≤ℤ begin_on axis (get_or zs k nowhere) = p.is_place.before i nowhere lt in omega (arith, ints, ends, begins))
      | inr ge ↦ (
          let e : k + (i - k) ≡ i = omega (arith, ge) in
          let ei : get_or (drop k zs) (i - k) nowhere ≡ get_or zs i nowhere = get_or-drop k zs (i - k) nowhere ∙ ap (λ m. get_or zs m nowhere) e in
          let ej : get_or (drop k zs) j nowhere ≡ get_or zs (k + j) nowhere = get_or-drop k zs j nowhere in
          subst (λ t. end_on axis (get_or zs i nowhere) ≤ℤ begin_on axis t) ej
          (subst (λ s. end_on axis s ≤ℤ begin_on axis (get_or (drop k zs) j nowhere)) ei (place.before (i - k) nowhere (omega (arith, ge, h))))
          )
    ]))

-- how far the first spots reach: none ends later, and one ends there
pub record IsReach (axis : Axis) (zs : List Spot) (n : ℕ) (reach : ℤ) : Type 0 where
  pub bound : (i : ℕ) → i < n → end_on axis (get_or zs i nowhere) ≤ℤ reach
  pub reached : (i : ℕ) × (i < n) × (reach ≤ℤ end_on axis (get_or zs i nowhere))

-- the last place before n, if there is one, and how far the spots before n reach
pub record IsSearched (axis : Axis) (zs : List Spot) (n : ℕ) (last : Option ℕ) (reach : ℤ) : Type 0 where
  pub place : MatchOption last ((k : ℕ) → k < n → ¬ (IsCutPlace axis zs k)) (IsLastPlace axis zs n)
  pub far : IsReach axis zs n reach

-- one spot reaches as far as it ends
pub search_begins : (axis : Axis) (zs : List Spot) (d : Spot) → 1 ≤ length zs → IsSearched axis zs 1 None (end_on axis (get_or zs 0 d))
search_begins axis zs d some =
    let e : get_or zs 0 d ≡ get_or zs 0 nowhere = get_or_default zs 0 d nowhere (omega (arith, some)) in
    subst (λ s. IsSearched axis zs 1 None (end_on axis s)) (sym e) record {
      place = λ k h p. absurd (omega (arith, h, p.some));
      far = record {
        bound = λ i h. let z : 0 ≡ i = omega (arith, h) in subst (λ m. end_on axis (get_or zs m nowhere) ≤ℤ end_on axis (get_or zs 0 nowhere)) z (omega (arith, ints));
        reached = (0, omega arith, omega (arith, ints));
      };
    }

-- the greater of how far the first spots reach and of where the next one ends is how far both reach
reach_more : (axis : Axis) (zs : List Spot) (n : ℕ) (reach : ℤ) → IsReach axis zs n reach → IsReach axis zs (n + 1) (int_max reach (end_on axis (get_or zs n nowhere)))
reach_more axis zs n reach r =
    let end = end_on axis (get_or zs n nowhere) in
    let more = int_max reach end in
    record {
      bound = λ i h. below_suc (λ m. end_on axis (get_or zs m nowhere) ≤ℤ more) n
          (λ m k. let b : end_on axis (get_or zs m nowhere) ≤ℤ reach = r.bound m k in omega (arith, ints, clamps, b)) (omega (arith, ints, clamps)) i (omega (arith, h));
      reached = by_lt_z reach end
          (λ longer. (n, omega arith, omega (arith, ints, clamps, longer)))
          (λ shorter. (let far : reach ≤ℤ end_on axis (get_or zs r.reached.0 nowhere) = r.reached.2 in (r.reached.0, omega (arith, r.reached.1), omega (arith, ints, clamps, shorter, far))));
    }

-- a spot that begins where the others end, or later, stands at the last place so far
pub search_finds : (axis : Axis) (zs : List Spot) (n : ℕ) (last : Option ℕ) (reach : ℤ) (d : Spot) → 1 ≤ n → n < length zs → IsSearched axis zs n last reach
    → reach ≤ℤ begin_on axis (get_or zs n d) → IsSearched axis zs (n + 1) (Some n) (int_max reach (end_on axis (get_or zs n d)))
search_finds axis zs n last reach d some within s found =
    let e : get_or zs n d ≡ get_or zs n nowhere = get_or_default zs n d nowhere within in
    let here : reach ≤ℤ begin_on axis (get_or zs n nowhere) = subst (λ t. reach ≤ℤ begin_on axis t) e found in
    subst (λ t. IsSearched axis zs (n + 1) (Some n) (int_max reach (end_on axis t))) (sym e) record {
      place = record {
        is_place = made_place axis zs n some within (λ i h. let b : end_on axis (get_or zs i nowhere) ≤ℤ reach = s.far.bound i h in omega (arith, ints, b, here));
        last = λ k lt below p. absurd (omega (arith, lt, below));
      };
      far = reach_more axis zs n reach s.far;
    }

-- a spot that begins earlier stands at no such place
not_place : (axis : Axis) (zs : List Spot) (n : ℕ) (reach : ℤ) → IsReach axis zs n reach → begin_on axis (get_or zs n nowhere) <ℤ reach → ¬ (IsCutPlace axis zs n)
not_place axis zs n reach r before p =
    let far : reach ≤ℤ end_on axis (get_or zs r.reached.0 nowhere) = r.reached.2 in
    let ends : end_on axis (get_or zs r.reached.0 nowhere) ≤ℤ begin_on axis (get_or zs n nowhere) = p.before r.reached.0 nowhere r.reached.1 in
    omega (arith, ints, far, ends, before)

-- so the last place stays
place_stays : (axis : Axis) (zs : List Spot) (n : ℕ) (last : Option ℕ) → ¬ (IsCutPlace axis zs n)
    → MatchOption last ((k : ℕ) → k < n → ¬ (IsCutPlace axis zs k)) (IsLastPlace axis zs n)
    → MatchOption last ((k : ℕ) → k < n + 1 → ¬ (IsCutPlace axis zs k)) (IsLastPlace axis zs (n + 1))
place_stays axis zs n None none h = λ k below. below_suc (λ m. ¬ (IsCutPlace axis zs m)) n h none k (omega (arith, below))
place_stays axis zs n (Some m) none h = record {
  is_place = h.is_place;
  last = λ k lt below. elim (cases_eq k n) [ inl e ↦ (λ p. none (subst (IsCutPlace axis zs) e p)) | inr e ↦ h.last k lt (omega (arith, below, e)) ];
}

-- the search goes on past such a spot
pub search_passes : (axis : Axis) (zs : List Spot) (n : ℕ) (last : Option ℕ) (reach : ℤ) (d : Spot) → n < length zs → IsSearched axis zs n last reach
    → begin_on axis (get_or zs n d) <ℤ reach → IsSearched axis zs (n + 1) last (int_max reach (end_on axis (get_or zs n d)))
search_passes axis zs n last reach d within s before =
    let e : get_or zs n d ≡ get_or zs n nowhere = get_or_default zs n d nowhere within in
    let here : begin_on axis (get_or zs n nowhere) <ℤ reach = subst (λ t. begin_on axis t <ℤ reach) e before in
    subst (λ t. IsSearched axis zs (n + 1) last (int_max reach (end_on axis t))) (sym e) record {
      place = place_stays axis zs n last (not_place axis zs n reach s.far here) s.place;
      far = reach_more axis zs n reach s.far;
    }

ended : (axis : Axis) (zs : List Spot) (n : ℕ) (last : Option ℕ) → n ≡ length zs
    → MatchOption last ((k : ℕ) → k < n → ¬ (IsCutPlace axis zs k)) (IsLastPlace axis zs n)
    → MatchOption last ((k : ℕ) → ¬ (IsCutPlace axis zs k)) (IsLastPlace axis zs (length zs))
ended axis zs n None e h = λ k p. h k (omega (arith, e, p.within)) p
ended axis zs n (Some m) e h = subst (λ k. IsLastPlace axis zs k m) e h

-- past the last spot the last place so far is the last one
pub search_ends : (axis : Axis) (zs : List Spot) (n : ℕ) (last : Option ℕ) (reach : ℤ) → n ≡ length zs → IsSearched axis zs n last reach
    → MatchOption last ((k : ℕ) → ¬ (IsCutPlace axis zs k)) (IsLastPlace axis zs (length zs))
search_ends axis zs n last reach e s = ended axis zs n last e s.place

-- the spots before the last place, and those from it on, are parts of which the second has none
pub parts_at_last : (spots zs : List Spot) (k : ℕ) (p : Parts) → p.first.items ≡ take k zs → p.second.items ≡ drop k zs → IsPermutation spots zs → AllPairs (IsNoLater p.axis) zs
    → IsLastPlace p.axis zs (length zs) k → ArePartsOf spots p
parts_at_last spots zs k p first second same up last = record {
  parts = subst (λ v. AreParts p.axis spots v p.second.items) (sym first) (subst (AreParts p.axis spots (take k zs)) (sym second) (parts_of_place p.axis spots zs k same up last.is_place));
  last = λ c. last_part p.axis zs k up last (subst (CanBeCut p.axis) second c);
}

-- spots without such a place can't be parted
pub no_parts : (axis : Axis) (spots zs : List Spot) → IsPermutation spots zs → AllPairs (IsNoLater axis) zs → ((k : ℕ) → ¬ (IsCutPlace axis zs k)) → ¬ (CanBeCut axis spots)
no_parts axis spots zs same up none c = let p = place_of_parts axis zs up (can_be_cut_in_order axis spots zs same c) in none p.0 p.1

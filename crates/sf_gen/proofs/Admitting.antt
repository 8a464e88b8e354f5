-- The parts of a generated design may become a design.
use Rattle.std.proofs.Common.{◌≡◌, ℕ, zero, suc, ◌+◌, ◌*◌, ◌-◌, ◌%◌, ◌<◌, ◌≤◌, ◌^◌, ◌==◌, Bool, true, false, cond, List, [], ◌∷◌, ◌++◌, length, refl, sym, ap, ◌∙◌, inl, inr, arith, lit<, bytes_eq}
use Rattle.sf_gen.proofs.Common.{map, min, sum_by, Some, pos, decimal, AllByRecursion, each-map, flat_map, list_any, cases_eq, false_from_ne_true, le-ltb, nat_tests, decimal_digit, decimal_injective, length-map, sum_by-cons, RawBlock, Kinds, Ends, Size, named_parts, raw_block, raw_blocks, raw_nets, raw_pads, parts_of, sizes, ends, net_count, indexed, is_soft, block_name, pad_name, pad_pins, pins_of, nets_pins, square, BuildFault}
use Rattle.std.proofs.lemmas.Slice.Eq.{bytes_eq-Decides}
use Rattle.std.proofs.Math.Bool.{or-true, and-false}
use Rattle.sf_parts.specs.declared.fault.BuildFault.TheVariants as fault
use Rattle.sf_parts.specs.declared.fault.Limit.{Limit}
use Rattle.sf_parts.specs.declared.fault.Limit.TheVariants as limit
use Rattle.sf_parts.specs.declared.raw.Kind.TheVariants as kind
use Rattle.sf_parts.specs.declared.raw.Parts.{Parts}
use Rattle.sf_parts.specs.declared.raw.RawNet.{RawNet}
use Rattle.sf_parts.specs.declared.raw.RawPin.TheVariants.{Named}
use Rattle.sf_parts.specs.Admitted.{first, no_blocks, over, over_counts, over_kind, over_place, over_places, over_limits, block_names, pad_names, is_block_name, repeated_names, if_both, if_neither, at_pin_name, at_pin_names, at_placed_name, duplicates, unknowns, missing_places, name_faults, IsAdmitted}
use Rattle.sf_gsrc.proofs.Numbered.{refusal_same}
use Rattle.sf_gen.proofs.BlockLines.{IsSmall, area_high}
use Rattle.sf_gen.proofs.Counts.{few_nets, length-indexed}
use Rattle.sf_gen.proofs.EndsDrawn.{IsAmong, each_indexed, ends_among, few_pins, length-nets, length-sizes, sizes_small}

-- ---- no faults at all

-- two lists that are both empty are empty when put together
neither : {X : Type 0} (a b : List X) → a ≡ [] → b ≡ [] → a ++ b ≡ []
neither a b p q = rw (p, q) refl

-- where each element gives the empty list, all of them together give it too
flat_none : {X Y : Type 0} (f : X → List Y) (xs : List X) → AllByRecursion (λ x. f x ≡ []) xs → flat_map f xs ≡ []
flat_none f [] h = refl
flat_none f (x ∷ xs) h = neither (f x) (flat_map f xs) h.0 (flat_none f xs h.1)

-- a quantity that is no more than the most allowed is no fault
over-within : (quantity : Limit) (most found : ℕ) → found ≤ most → over quantity most found ≡ []
over-within quantity most found h = rw (le-ltb most found h) refl

-- ---- names

-- two different numbers below 2^64 have different decimal texts
differ : (i j : ℕ) → i < j → j < 2 ^ 64 → bytes_eq (decimal i) (decimal j) ≡ false
differ i j h low =
    false_from_ne_true (bytes_eq (decimal i) (decimal j))
    (λ e. let same = decimal_injective i j (omega arith) low ((bytes_eq-Decides (decimal i) (decimal j)).0 e) in absurd (omega (arith, same)))

module _ (kinds : Kinds) where
  -- the names of the blocks of these sizes, numbered from i on
  abbrev names_from : ℕ → List Size → List (List ℕ)
  names_from i sizes = block_names (indexed (raw_block kinds) i sizes)

  -- the name of block i is not among the names of blocks with greater numbers
  later_differs : (i j : ℕ) (sizes : List Size) → i < j → j + length sizes ≤ 1000 → list_any (bytes_eq (block_name i)) (names_from j sizes) ≡ false
  later_differs i j [] h low = refl
  later_differs i j (s ∷ sizes) h low = rw (differ i j h (omega arith)) (later_differs i (j + 1) sizes (omega arith) (omega arith))

  -- no name of a block stands twice
  no_repeats : (i : ℕ) (sizes : List Size) → i + length sizes ≤ 1000 → repeated_names (names_from i sizes) ≡ []
  no_repeats i [] low = refl
  no_repeats i (s ∷ sizes) low = rw (later_differs i (i + 1) sizes (omega arith) (omega arith)) (no_repeats (i + 1) sizes (omega arith))

  -- the name of each block from number i on is among these names
  is_found : (a i : ℕ) (sizes : List Size) → i ≤ a → a < i + length sizes → list_any (bytes_eq (block_name a)) (names_from i sizes) ≡ true
  is_found a i [] low high = absurd (omega arith)
  is_found a i (s ∷ sizes) low high = elim (cases_eq a i) [
    | inl e ↦ rw ((bytes_eq-Decides (decimal a) (decimal i)).1 (ap decimal e)) refl
    | inr n ↦ rw (is_found a (i + 1) sizes (omega arith) (omega arith)) (or-true (bytes_eq (decimal a) (decimal i)))
  ]

  -- a name that begins with `p` is not among the names of blocks
  no_pad_is_block : (x : List ℕ) (i : ℕ) (sizes : List Size) → list_any (bytes_eq (112 ∷ x)) (names_from i sizes) ≡ false
  no_pad_is_block x i [] = refl
  no_pad_is_block x i (s ∷ sizes) = no_pad_is_block x (i + 1) sizes

-- the names of the pads 0 to 3 are among the names of the four placed pads
pad_known : (n p : ℕ) → p < 4 → list_any (bytes_eq (pad_name p)) (pad_names (raw_pads n)) ≡ true
pad_known n zero h = rw (decimal_digit 0 (lit< tt)) refl
pad_known n (suc zero) h = rw (decimal_digit 1 (lit< tt)) refl
pad_known n (suc (suc zero)) h = rw (decimal_digit 2 (lit< tt)) refl
pad_known n (suc (suc (suc zero))) h = rw (decimal_digit 3 (lit< tt)) refl
pad_known n (suc (suc (suc (suc p)))) h = absurd (omega arith)

-- ---- the names of pins

module _ (n : ℕ) (f : List ℕ → List BuildFault) (blocks : (a : ℕ) → a < n → f (block_name a) ≡ []) (pads : (p : ℕ) → p < 4 → f (pad_name p) ≡ []) where
  -- the pad of a net, if there is one, has no fault where no name of a pad has one
  pads_none : (j : ℕ) → flat_map (at_pin_name f) (map Named (pad_pins j)) ≡ []
  pads_none j = elim (j % 3 == 0) as (λ b. flat_map (at_pin_name f) (map Named (cond b (pad_name (j % 4) ∷ []) [])) ≡ []) [ true ↦ neither _ [] (pads (j % 4) (omega arith)) refl | false ↦ refl ]

  -- no pin of a net between two blocks has a fault where no name of a block or of a pad has one
  net_none : (j : ℕ) (e : Ends) → IsAmong n e → flat_map (at_pin_name f) (map Named (pins_of j e)) ≡ []
  net_none j e among = rw (blocks e.a among.first, blocks e.b among.second, pads_none j) refl

  -- no pin of the nets has a fault where no name of a block or of a pad has one
  pins_none : (seed : ℕ) → 1 ≤ n → at_pin_names f (raw_nets (ends seed n)) ≡ []
  pins_none seed low =
      let with_names : List (List ℕ) → RawNet = λ pins. record { pins = map Named pins } in
      flat_none (λ (m : RawNet). flat_map (at_pin_name f) m.pins) (raw_nets (ends seed n))
      (each-map (λ (m : RawNet). flat_map (at_pin_name f) m.pins ≡ []) with_names (nets_pins (ends seed n))
      (each_indexed (IsAmong n) (λ pins. flat_map (at_pin_name f) (map Named pins) ≡ []) pins_of net_none 0 (ends seed n) (ends_among seed n low)))

-- ---- the faults, one kind after another

-- a block of small sides, soft or hard, has no number beyond its limit
kind_within : (b : Bool) (s : Size) → IsSmall s → over_kind (cond b (kind.Soft (s.w * s.h) 500_000 2_000_000) (kind.Hard s.w s.h)) ≡ []
kind_within true s f = over-within limit.Area (2 ^ 40) (s.w * s.h) (omega (arith, area_high s f))
kind_within false s f = neither (over limit.Side (2 ^ 20) s.w) (over limit.Side (2 ^ 20) s.h) (over-within limit.Side (2 ^ 20) s.w (omega (arith, f.width))) (over-within limit.Side (2 ^ 20) s.h (omega (arith, f.height)))

-- a place with coordinates of at most a million is within the limits
place_within : (x y : ℕ) → x ≤ 1_000_000 → y ≤ 1_000_000 → over_place (Some (pos x, pos y)) ≡ []
place_within x y low high = neither (over limit.Coordinate (2 ^ 20) x) (over limit.Coordinate (2 ^ 20) y) (over-within limit.Coordinate (2 ^ 20) x (omega (arith, low))) (over-within limit.Coordinate (2 ^ 20) y (omega (arith, high)))

-- the nets have as many pins as there are names
pins_counted : (nets : List (List (List ℕ))) → sum_by (λ (n : RawNet). length n.pins) (map (λ pins. record { pins = map Named pins }) nets) ≡ sum_by length nets
pins_counted [] = refl
pins_counted (pins ∷ nets) =
    sum_by-cons (λ (n : RawNet). length n.pins) (record { pins = map Named pins }) (map (λ pins. record { pins = map Named pins }) nets)
    ∙ ap (λ k. k + sum_by (λ (n : RawNet). length n.pins) (map (λ pins. record { pins = map Named pins }) nets)) (length-map pins Named)
    ∙ ap (λ k. length pins + k) (pins_counted nets)
    ∙ sym (sum_by-cons length pins nets)

module _ (kinds : Kinds) (seed n : ℕ) (low : 1 ≤ n) (high : n ≤ 320) where
  -- the parts of the generated design, with pins by name
  abbrev parts : Parts
  parts = named_parts kinds seed n

  -- there are n blocks
  block_count : length (raw_blocks kinds (sizes seed n)) ≡ n
  block_count = length-indexed (raw_block kinds) 0 (sizes seed n) ∙ length-sizes seed n

  -- there is a block, so none of the faults is that there is none
  some_block : no_blocks parts ≡ []
  some_block = let some : (length (raw_blocks kinds (sizes seed n)) == 0) ≡ false = grind (arith, nat_tests, block_count) in rw some refl

  -- no count is beyond its limit
  few_counts : over_counts parts ≡ []
  few_counts =
      let nets = raw_nets (ends seed n) in
      let pins = min (sum_by (λ (m : RawNet). length m.pins) nets) (2 ^ 64 - 1) in
      let net_length : length nets ≡ net_count n = length-map (nets_pins (ends seed n)) _ ∙ length-nets seed n in
      let a = over-within limit.Blocks 320 (length (raw_blocks kinds (sizes seed n))) (omega (arith, block_count)) in
      let b = over-within limit.Pads 16384 4 (omega arith) in
      let c = over-within limit.Nets 65536 (length nets) (omega (arith, net_length, few_nets n high)) in
      let d = over-within limit.Pins 1048576 pins (omega (arith, pins_counted (nets_pins (ends seed n)), few_pins seed n high)) in
      neither _ (over limit.Pins 1048576 pins) (neither _ (over limit.Nets 65536 (length nets)) (neither (over limit.Blocks 320 (length (raw_blocks kinds (sizes seed n)))) (over limit.Pads 16384 4) a b) c) d

  -- no side and no area of a block is beyond its limit
  small_kinds : flat_map (λ (b : RawBlock). over_kind b.kind) (raw_blocks kinds (sizes seed n)) ≡ []
  small_kinds =
      flat_none (λ (b : RawBlock). over_kind b.kind) (raw_blocks kinds (sizes seed n))
      (each_indexed IsSmall (λ (b : RawBlock). over_kind b.kind ≡ []) (raw_block kinds) (λ i s f. kind_within (is_soft kinds i) s f) 0 (sizes seed n) (sizes_small seed n))

  -- no coordinate of a pad is beyond its limit
  near_places : over_places parts ≡ []
  near_places =
      let q = square n in
      let near : q ≤ 1_000_000 = omega (arith, high) in
      let zero_near : 0 ≤ 1_000_000 = omega arith in
      flat_none (λ p. over_place p.place) (raw_pads n)
      (place_within 0 0 zero_near zero_near, (place_within q 0 near zero_near, (place_within 0 q zero_near near, (place_within q q near near, tt))))

  -- no name stands twice, for two blocks or for a block and a pad
  once_each : duplicates parts ≡ []
  once_each =
      let f = if_both parts in
      let not_block : (x : List ℕ) → f (112 ∷ x) ≡ [] = λ x. rw (no_pad_is_block kinds x 0 (sizes seed n)) refl in
      let of_blocks : (a : ℕ) → a < n → f (block_name a) ≡ [] = λ a h. rw (and-false (is_block_name parts (block_name a))) refl in
      let of_pads : (p : ℕ) → p < 4 → f (pad_name p) ≡ [] = λ p h. not_block (decimal p) in
      let names : map fault.DuplicateName (repeated_names (block_names parts.blocks)) ≡ [] =
      ap (map fault.DuplicateName) (no_repeats kinds 0 (sizes seed n) (omega (arith, length-sizes seed n))) in
      let pins : at_pin_names f parts.nets ≡ [] = pins_none n f of_blocks of_pads seed low in
      let placed : flat_map (at_placed_name f) parts.pads ≡ [] =
      flat_none (at_placed_name f) parts.pads (not_block (48 ∷ []), (not_block (49 ∷ []), (not_block (50 ∷ []), (not_block (51 ∷ []), tt)))) in
      neither _ (flat_map (at_placed_name f) parts.pads) (neither _ (at_pin_names f parts.nets) (neither (map fault.DuplicateName (repeated_names (block_names parts.blocks))) [] names refl) pins) placed

  -- each pin has the name of a block or of a pad
  all_known : unknowns parts ≡ []
  all_known =
      let f = if_neither parts in
      let of_blocks : (a : ℕ) → a < n → f (block_name a) ≡ [] = λ a h. rw (is_found kinds a 0 (sizes seed n) (omega arith) (omega (arith, length-sizes seed n, h))) refl in
      let of_pads : (p : ℕ) → p < 4 → f (pad_name p) ≡ [] = λ p h. rw (no_pad_is_block kinds (decimal p) 0 (sizes seed n), pad_known n p h) refl in
      neither (at_pin_names f parts.nets) [] (pins_none n f of_blocks of_pads seed low) refl

  -- no name has a fault
  no_name_faults : name_faults parts ≡ []
  no_name_faults = neither _ (missing_places parts) (neither (duplicates parts) (unknowns parts) once_each all_known) refl

  -- no limit is passed
  no_limit_passed : over_limits parts ≡ []
  no_limit_passed = neither _ (over_places parts) (neither (over_counts parts) (flat_map (λ (b : RawBlock). over_kind b.kind) (raw_blocks kinds (sizes seed n))) few_counts small_kinds) near_places

  -- the parts of a generated design may become a design
  pub admitted : IsAdmitted (parts_of kinds seed n)
  admitted = refusal_same (named_parts kinds seed n) ∙ ap first (neither _ (name_faults parts) (neither (no_blocks parts) (over_limits parts) some_block no_limit_passed) no_name_faults)

-- What the pins of a net share in each item tells the hull part.
use Rattle.std.proofs.Common.{◌≡◌, ◌≢◌, ℕ, ◌+◌, ◌*◌, ◌<◌, ◌≤◌, max, List, [], ◌∷◌, ◌++◌, length, reverse, map, get_or, arith, refl, ap, sym, subst, ◌∙◌, ◌⊎◌, inl, inr, Bool, true, false, ◌==◌, cond, if◌then◌else◌, ◌-ℤ◌}
use Rattle.sf_nets.proofs.Common.{Contains, fold, Option, Some, None, IfSome, pos, AllByRecursion, cases_eq, ne_eqb, eq-eqb, eqb-true, cond-true, cond-false, cond_both, reverse-append, length-reverse, get_or_default, recursion_from_All, All-contains, Contains-append_cases, Contains-append_left, Contains-append_right, Contains-get_or, Design, Pin, block_count, pin_number, pin_count, each-weaker, Parts, is_complete, IsSubproblem, Contains-cons_cases, Contains-head, Contains-tail, not_in_nil, Extent, Interval, Offset, Item, items_of, to_nat, gap, point, offsets, offset_x, offset_y, contains_pin, of_pins, pads_x, pads_y, hull_of, hull_part, extent_in, whole-item, Contains-map, Contains-from_map, Home, Layout, Reach, seat_at, IsFitInterval, IsFitReach, shared, met, anywhere, reach_gap, IsNet, IsLayout, extent_from, home_in, standing_at, pad_reach, pin_home, narrowed, narrowed_in, shared_in, shared_homes, home_gap, greatest_gap}
use Rattle.sf_model.specs.declared.parts.Pin.TheVariants as pin
use Rattle.sf_model.specs.Wire.{pad_at}
use Rattle.sf_standard.specs.Items as item
use Rattle.sf_standard.proofs.Members.{pin-found, pin-from, offset-found, offset-from, pads-found, pads-from}
use Rattle.sf_nets.proofs.Meeting.{gap-shared, gap-same}
use Rattle.sf_nets.proofs.PinLoops.{if-some, near_home, standing_ready}
use Rattle.sf_nets.proofs.ReadyLayout.{held-count, extent-same, home-found, home-stands, readied}

-- what the pins with a home in the item i are measured by, one way
module _ (side : Reach → Interval) (i : ℕ) where
  -- an interval of a home is put before the others where the home is in the item i
  abbrev pub pick : Option Home → List Interval → List Interval
  pick None rest = rest
  pick (Some h) rest = if h.item == i then (side h.reach ∷ rest) else rest

  -- the intervals of the pins whose home is in the item i
  abbrev pub picked : (Pin → Option Home) → List Pin → List Interval
  picked home [] = []
  picked home (p ∷ pins) = pick (home p) (picked home pins)

  -- a pin that is measured there
  pub record IsPicked (home : Pin → Option Home) (pins : List Pin) (z : Interval) : Type 0 where
    pub pin : Pin
    pub found : Contains pins pin
    pub at : Home
    pub has : home pin ≡ Some at
    pub item : at.item ≡ i
    pub is : side at.reach ≡ z

  -- an interval among the others is among them with one more put before
  pick-rest : (o : Option Home) (xs : List Interval) (z : Interval) → Contains xs z → Contains (pick o xs) z
  pick-rest None xs z k = k
  pick-rest (Some v) xs z k = cond_both (v.item == i) (side v.reach ∷ xs) xs (λ ys. Contains ys z) (λ _. Contains-tail (side v.reach) xs z k) (λ _. k)

  -- a pin with its home in the item has its interval among those picked
  pub picked-to : (home : Pin → Option Home) (pins : List Pin) (p : Pin) (h : Home) → Contains pins p → home p ≡ Some h → h.item ≡ i → Contains (picked home pins) (side h.reach)
  picked-to home [] p h c e g = absurd (not_in_nil p c)
  picked-to home (q ∷ pins) p h c e g =
      elim (Contains-cons_cases q pins p c) [
        | inl same ↦ subst (λ o. Contains (pick o (picked home pins)) (side h.reach)) (sym (ap home same ∙ e))
            (subst (λ v. Contains v (side h.reach)) (sym (cond-true (h.item == i) (side h.reach ∷ picked home pins) (picked home pins) (eq-eqb h.item i g))) (Contains-head (side h.reach) (picked home pins)))
        | inr d ↦ pick-rest (home q) (picked home pins) (side h.reach) (picked-to home pins p h d e g)
      ]

  -- an interval of one of the pins is so with one pin more in front
  picked-later : (home : Pin → Option Home) (p : Pin) (pins : List Pin) (z : Interval) → IsPicked home pins z → IsPicked home (p ∷ pins) z
  picked-later home p pins z k = record { pin = k.pin; found = Contains-tail p pins k.pin k.found; at = k.at; has = k.has; item = k.item; is = k.is }

  -- an interval that was picked is that of the first pin or of one behind it
  pick-from : (home : Pin → Option Home) (p : Pin) (pins : List Pin) (z : Interval) (o : Option Home) → home p ≡ o → (Contains (picked home pins) z → IsPicked home pins z) → Contains (pick o (picked home pins)) z → IsPicked home (p ∷ pins) z
  pick-from home p pins z None e rest d = picked-later home p pins z (rest d)
  pick-from home p pins z (Some h) e rest d =
      cond_both (h.item == i) (side h.reach ∷ picked home pins) (picked home pins) (λ v. Contains v z → IsPicked home (p ∷ pins) z)
      (λ yes k. elim (Contains-cons_cases (side h.reach) (picked home pins) z k) [
        | inl same ↦ record { pin = p; found = Contains-head p pins; at = h; has = e; item = eqb-true h.item i yes; is = same }
        | inr l ↦ picked-later home p pins z (rest l)
      ])
      (λ _ k. picked-later home p pins z (rest k)) d

  -- an interval that was picked is that of a pin with its home in the item
  pub picked-from : (home : Pin → Option Home) (pins : List Pin) (z : Interval) → Contains (picked home pins) z → IsPicked home pins z
  picked-from home [] z c = absurd (not_in_nil z c)
  picked-from home (p ∷ pins) z c = pick-from home p pins z (home p) refl (λ d. picked-from home pins z d) c

  -- what holds of the others and of the home's interval holds of those with it put before
  pick-each : (P : Interval → Type 0) (o : Option Home) (xs : List Interval) → IfSome o (λ h. P (side h.reach)) → AllByRecursion P xs → AllByRecursion P (pick o xs)
  pick-each P None xs k r = r
  pick-each P (Some v) xs k r = cond_both (v.item == i) (side v.reach ∷ xs) xs (AllByRecursion P) (λ _. (k, r)) (λ _. r)

  -- what holds of each pin's home's interval holds of those picked
  pub picked-near : (P : Interval → Type 0) (home : Pin → Option Home) (pins : List Pin) → AllByRecursion (λ p. IfSome (home p) (λ h. P (side h.reach))) pins → AllByRecursion P (picked home pins)
  picked-near P home [] h = tt
  picked-near P home (p ∷ pins) h = pick-each P (home p) (picked home pins) h.0 (picked-near P home pins h.1)

  -- a side of a reach that is narrowed by a home is what the interval picked leaves of it
  narrow-side : ((r s : Reach) → side (met r s) ≡ shared (side r) (side s)) → (r : Reach) (o : Option Home) (xs : List Interval) → fold shared (side (narrowed_in i r o)) xs ≡ fold shared (side r) (pick o xs)
  narrow-side meets r None xs = refl
  narrow-side meets r (Some h) xs =
      elim (h.item == i) as (λ t. fold shared (side (if t then met r h.reach else r)) xs ≡ fold shared (side r) (if t then (side h.reach ∷ xs) else xs)) [
        | true ↦ ap (λ v. fold shared v xs) (meets r h.reach)
        | false ↦ refl
      ]

  -- a side of what the pins share in the item is what the picked intervals share
  pub gather-side : ((r s : Reach) → side (met r s) ≡ shared (side r) (side s)) → (home : Pin → Option Home) (r : Reach) (pins : List Pin) → side (fold (λ r p. narrowed_in i r (home p)) r pins) ≡ fold shared (side r) (picked home pins)
  gather-side meets home r [] = refl
  gather-side meets home r (p ∷ pins) = gather-side meets home (narrowed_in i r (home p)) pins ∙ narrow-side meets r (home p) (picked home pins)

module _ (design : Design) (node : Parts) (layout : Layout) (sub : IsSubproblem design node) (m : IsLayout design node layout) (pins : List Pin) (net : IsNet design pins) where
  -- the items in the order of the stack, the first at the bottom
  abbrev these : List Item
  these = reverse (items_of node)

  -- the home of a pin
  abbrev home : Pin → Option Home
  home = pin_home design layout.table.items (is_complete node)

  -- a block at a pin is one of the design
  block-inside : (b : ℕ) → Contains pins (pin.Block b) → b < block_count design
  block-inside b c = All-contains (λ p. pin_number p < pin_count (length design.blocks) (length design.pads) p) pins (pin.Block b) net c

  -- one way to measure: across or upward
  module _ (side : Reach → Interval) (off : Offset → Interval) (place : ℕ → Interval) (pads : List Pin → List Interval)
      (block_side : (o : Offset) (j : ℕ) → o.block < block_count design → side (home_in (extent_from layout.extents.items o.block) (seat_at j o)).reach ≡ off o) (pad_side : (q : ℕ) → side (pad_reach design q) ≡ place q)
      (found : (q : ℕ) → Contains pins (pin.Pad q) → Contains (pads pins) (place q)) (from : (z : Interval) → Contains (pads pins) z → (q : ℕ) × Contains pins (pin.Pad q) × (place q ≡ z)) where
    -- the intervals of the pins in the item j, as they are kept
    abbrev own : ℕ → List Interval
    own j = picked side j (pin_home design layout.table.items (is_complete node)) pins

    -- the intervals of the pins in an item, as the hull part states them
    abbrev stated : Item → List Interval
    stated i = map off (of_pins pins (offsets (extent_in design node) i)) ++ cond (is_complete node) (pads pins) []

    -- a complete subproblem has one item
    one-item : is_complete node ≡ true → length these ≡ 1
    one-item complete = omega (arith, length-reverse (items_of node), ap length (whole-item design node sub complete).1.items)

    -- each interval that is kept for an item is one that the hull part states
    to-stated : (j : ℕ) (d : Item) (z : Interval) → j < length these → Contains (own j) z → Contains (stated (get_or these j d)) z
    to-stated j d z lt c =
        let k = picked-from side j (pin_home design layout.table.items (is_complete node)) pins z c in
        subst (Contains (stated (get_or these j d))) k.is (by-pin k.pin k.found k.at k.has k.item)
      where
        os : List Offset
        os = offsets (extent_in design node) (get_or these j d)

        by-pin : (p : Pin) → Contains pins p → (h : Home) → pin_home design layout.table.items (is_complete node) p ≡ Some h → h.item ≡ j → Contains (stated (get_or these j d)) (side h.reach)
        by-pin (pin.Block b) cp h has e =
            let st = home-stands design node layout m b h (block-inside b cp) has in
            let ls = offsets (extent_in design node) (get_or these j d) in
            let here : Contains ls st.offset = subst (λ n. Contains (offsets (extent_in design node) (get_or these n d)) st.offset) e (st.stands d) in
            let listed : contains_pin st.offset.block pins ≡ true = ap (λ v. contains_pin v pins) st.block ∙ pin-found b pins cp in
            Contains-append_left (map off (of_pins pins ls)) (cond (is_complete node) (pads pins) []) (side h.reach)
            (subst (Contains (map off (of_pins pins ls))) (sym (ap (λ v. side v.reach) st.is ∙ block_side st.offset h.item (omega (arith, st.block, block-inside b cp))))
            (Contains-map off (of_pins pins ls) st.offset (offset-found pins ls st.offset here listed)))
        by-pin (pin.Pad q) cp h has e = by-complete (is_complete node) has
          where
            by-complete : (t : Bool) → cond t (Some (let v : Home = record { item = 0; reach = pad_reach design q } in v)) None ≡ Some h → Contains (map off (of_pins pins (offsets (extent_in design node) (get_or these j d))) ++ cond t (pads pins) []) (side h.reach)
            by-complete true g =
                let same : (let v : Home = record { item = 0; reach = pad_reach design q } in v) ≡ h = cc in
                Contains-append_right (map off (of_pins pins (offsets (extent_in design node) (get_or these j d)))) (pads pins) (side h.reach) (subst (Contains (pads pins)) (sym (pad_side q) ∙ ap (λ v. side v.reach) same) (found q cp))
            by-complete false g = absurd (cc)

    -- each interval that the hull part states for an item is kept for it
    from-stated : (j : ℕ) (d : Item) (z : Interval) → j < length these → Contains (stated (get_or these j d)) z → Contains (own j) z
    from-stated j d z lt c =
        let ls = offsets (extent_in design node) (get_or these j d) in
        elim (Contains-append_cases (map off (of_pins pins ls)) (cond (is_complete node) (pads pins) []) z c) [
          | inl h ↦ (let o = Contains-from_map off (of_pins pins ls) z h in
              let f = offset-from pins ls o.0 o.1 in
              let cp = pin-from o.0.block pins f.1 in
              let s = home-found design node layout m j d o.0 lt f.0 in
              subst (Contains (own j)) (block_side o.0 j s.0 ∙ o.2) (picked-to side j (pin_home design layout.table.items (is_complete node)) pins (pin.Block o.0.block) (home_in (extent_from layout.extents.items o.0.block) (seat_at j o.0)) cp s.1 refl))
          | inr h ↦ cond_both (is_complete node) (pads pins) [] (λ v. Contains v z → Contains (own j) z)
              (λ yes k. let q = from z k in
              subst (Contains (own j)) (pad_side q.0 ∙ q.2) (picked-to side j (pin_home design layout.table.items (is_complete node)) pins (pin.Pad q.0) (record { item = 0; reach = pad_reach design q.0 }) q.1
              (ap (λ t. cond t (Some (let v : Home = record { item = 0; reach = pad_reach design q.0 } in v)) None) yes) (omega (arith, lt, one-item yes))))
              (λ _ k. absurd (not_in_nil z k)) h
        ]

    -- the gap of what is kept for an item is that of what the hull part states
    pub gaps-agree : (j : ℕ) (d : Item) → j < length these → gap (own j) ≡ gap (stated (get_or these j d))
    gaps-agree j d lt = gap-same (own j) (stated (get_or these j d)) (λ z c. to-stated j d z lt c) (λ z c. from-stated j d z lt c)

  -- the home of a block in an item reaches across as the hull part states
  block-across : (o : Offset) (j : ℕ) → o.block < block_count design → (home_in (extent_from layout.extents.items o.block) (seat_at j o)).reach.across ≡ offset_x (extent_in design node) o
  block-across o j lt = ap (λ (v : Extent). (let i : Interval = record { low = pos (2 * o.least_x + v.least_w); high = pos (2 * o.most_x + v.most_w) } in i)) (extent-same design node layout m o.block lt)

  -- the home of a block in an item reaches upward as the hull part states
  block-upward : (o : Offset) (j : ℕ) → o.block < block_count design → (home_in (extent_from layout.extents.items o.block) (seat_at j o)).reach.upward ≡ offset_y (extent_in design node) o
  block-upward o j lt = ap (λ (v : Extent). (let i : Interval = record { low = pos (2 * o.least_y + v.least_h); high = pos (2 * o.most_y + v.most_h) } in i)) (extent-same design node layout m o.block lt)

  -- the gap of an item's pins
  item-agrees : (j : ℕ) (d : Item) → j < length these → reach_gap (shared_in design layout.table.items (is_complete node) pins j) ≡ hull_of design (extent_in design node) (is_complete node) pins (get_or these j d)
  item-agrees j d lt =
      let h = pin_home design layout.table.items (is_complete node) in
      let r = shared_in design layout.table.items (is_complete node) pins j in
      let there = λ (p : Pin). pin_number p < pin_count (length design.blocks) (length design.pads) p in
      let near : AllByRecursion (λ p. IfSome (h p) (λ v. IsFitReach v.reach)) pins =
      each-weaker there (λ p. IfSome (h p) (λ v. IsFitReach v.reach)) (λ p k. near_home design (length layout.held.items) layout.table.items (readied design node layout m) (is_complete node) p k) pins (recursion_from_All there pins net) in
      let xs = picked (λ v. v.across) j h pins in
      let ys = picked (λ v. v.upward) j h pins in
      let x : to_nat (r.across.low -ℤ r.across.high) ≡ gap xs =
      ap (λ i. to_nat (i.low -ℤ i.high)) (gather-side (λ v. v.across) j (λ r s. refl) h anywhere pins)
      ∙ gap-shared xs (picked-near (λ v. v.across) j IsFitInterval h pins (each-weaker (λ p. IfSome (h p) (λ v. IsFitReach v.reach)) (λ p. IfSome (h p) (λ v. IsFitInterval v.reach.across)) (λ p. if-some (λ v. IsFitReach v.reach) (λ v. IsFitInterval v.reach.across) (h p) (λ v k. k.0)) pins near)) in
      let y : to_nat (r.upward.low -ℤ r.upward.high) ≡ gap ys =
      ap (λ i. to_nat (i.low -ℤ i.high)) (gather-side (λ v. v.upward) j (λ r s. refl) h anywhere pins)
      ∙ gap-shared ys (picked-near (λ v. v.upward) j IsFitInterval h pins (each-weaker (λ p. IfSome (h p) (λ v. IsFitReach v.reach)) (λ p. IfSome (h p) (λ v. IsFitInterval v.reach.upward)) (λ p. if-some (λ v. IsFitReach v.reach) (λ v. IsFitInterval v.reach.upward) (h p) (λ v k. k.1)) pins near)) in
      let px : ℕ → Interval = λ q. point (pad_at design q).x in
      let py : ℕ → Interval = λ q. point (pad_at design q).y in
      let gx = gaps-agree (λ v. v.across) (offset_x (extent_in design node)) px (pads_x design) block-across (λ q. refl) (pads-found px (pads_x design) refl (λ b ps. refl) (λ p ps. refl) pins) (pads-from px (pads_x design) refl (λ b ps. refl) (λ p ps. refl) pins) j d lt in
      let gy = gaps-agree (λ v. v.upward) (offset_y (extent_in design node)) py (pads_y design) block-upward (λ q. refl) (pads-found py (pads_y design) refl (λ b ps. refl) (λ p ps. refl) pins) (pads-from py (pads_y design) refl (λ b ps. refl) (λ p ps. refl) pins) j d lt in
      ap (λ n. n + to_nat (r.upward.low -ℤ r.upward.high)) (x ∙ gx) ∙ ap (λ n. gap (map (offset_x (extent_in design node)) (of_pins pins (offsets (extent_in design node) (get_or these j d))) ++ cond (is_complete node) (pads_x design pins) []) + n) (y ∙ gy)

-- the greatest over the pins, and over the items
fold-start : (f : Pin → ℕ) (n : ℕ) (pins : List Pin) → n ≤ fold (λ n p. max n (f p)) n pins
fold-start f n [] = omega arith
fold-start f n (p ∷ pins) = omega (arith, fold-start f (max n (f p)) pins)

-- each pin's number is at most the greatest over the pins
fold-each : (f : Pin → ℕ) (n : ℕ) (pins : List Pin) (p : Pin) → Contains pins p → f p ≤ fold (λ n p. max n (f p)) n pins
fold-each f n [] p c = absurd (not_in_nil p c)
fold-each f n (q ∷ pins) p c =
    elim (Contains-cons_cases q pins p c) [
      | inl e ↦ omega (arith, ap f e, fold-start f (max n (f q)) pins)
      | inr d ↦ fold-each f (max n (f q)) pins p d
    ]

-- the greatest over the pins is at most what bounds the start and each pin's number
fold-most : (f : Pin → ℕ) (n m : ℕ) (pins : List Pin) → n ≤ m → ((p : Pin) → Contains pins p → f p ≤ m) → fold (λ n p. max n (f p)) n pins ≤ m
fold-most f n m [] h g = h
fold-most f n m (p ∷ pins) h g = fold-most f (max n (f p)) m pins (omega (arith, h, g p (Contains-head p pins))) (λ q c. g q (Contains-tail p pins q c))

-- the gap of each item is at most the hull part
hull-each : (design : Design) (extent : ℕ → Extent) (complete : Bool) (is : List Item) (pins : List Pin) (i : Item) → Contains is i → hull_of design extent complete pins i ≤ hull_part design extent complete is pins
hull-each design extent complete [] pins i c = absurd (not_in_nil i c)
hull-each design extent complete (x ∷ is) pins i c =
    elim (Contains-cons_cases x is i c) [
      | inl e ↦ omega (arith, ap (hull_of design extent complete pins) e)
      | inr d ↦ omega (arith, hull-each design extent complete is pins i d)
    ]

-- the hull part is at most what bounds the gap of each item
hull-most : (design : Design) (extent : ℕ → Extent) (complete : Bool) (is : List Item) (pins : List Pin) (m : ℕ) → ((i : Item) → Contains is i → hull_of design extent complete pins i ≤ m) → hull_part design extent complete is pins ≤ m
hull-most design extent complete [] pins m g = omega arith
hull-most design extent complete (x ∷ is) pins m g = omega (arith, g x (Contains-head x is), hull-most design extent complete is pins m (λ i c. g i (Contains-tail x is i c)))

-- an element of the list reversed is one of the list
reverse-from : {X : Type 0} (xs : List X) (x : X) → Contains (reverse xs) x → Contains xs x
reverse-from [] x c = c
reverse-from (y ∷ xs) x c =
    elim (Contains-append_cases (reverse xs) (y ∷ []) x (subst (λ v. Contains v x) (reverse-append (y ∷ []) xs) c)) [
      | inl h ↦ Contains-tail y xs x (reverse-from xs x h)
      | inr h ↦ elim (Contains-cons_cases y [] x h) [ inl e ↦ subst (Contains (y ∷ xs)) e (Contains-head y xs) | inr d ↦ absurd (not_in_nil x d) ]
    ]

-- an element of a list is one of the list reversed
reverse-to : {X : Type 0} (xs : List X) (x : X) → Contains xs x → Contains (reverse xs) x
reverse-to [] x c = c
reverse-to (y ∷ xs) x c =
    subst (λ v. Contains v x) (sym (reverse-append (y ∷ []) xs)) (elim (Contains-cons_cases y xs x c) [
      | inl e ↦ Contains-append_right (reverse xs) (y ∷ []) x (subst (Contains (y ∷ [])) e (Contains-head y []))
      | inr d ↦ Contains-append_left (reverse xs) (y ∷ []) x (reverse-to xs x d)
    ])

-- some pin has a home in the item, or none does
abbrev IsElsewhere : ℕ → Option Home → Type 0
IsElsewhere j o = IfSome o (λ h. h.item ≢ j)

-- some pin has its home in the item j
abbrev HasIn : (Pin → Option Home) → ℕ → List Pin → Type 0
HasIn at j pins = (p : Pin) × (h : Home) × Contains pins p × (at p ≡ Some h) × (h.item ≡ j)

-- the first pin has its home in the item j, or has none there
pin-first : (at : Pin → Option Home) (j : ℕ) (p : Pin) (pins : List Pin) (o : Option Home) → at p ≡ o → HasIn at j (p ∷ pins) ⊎ IsElsewhere j (at p)
pin-first at j p pins None e = inr (subst (IsElsewhere j) (sym e) tt)
pin-first at j p pins (Some h) e =
    elim (cases_eq h.item j) [
      | inl same ↦ inl (p, h, Contains-head p pins, e, same)
      | inr ne ↦ inr (subst (IsElsewhere j) (sym e) ne)
    ]

-- some pin has its home in the item j, or none of them has
pin-in : (at : Pin → Option Home) (j : ℕ) (pins : List Pin) → HasIn at j pins ⊎ AllByRecursion (λ p. IsElsewhere j (at p)) pins
pin-in at j [] = inr tt
pin-in at j (p ∷ pins) =
    elim (pin-first at j p pins (at p) refl) [
      | inl k ↦ inl k
      | inr here ↦ elim (pin-in at j pins) [
        | inl k ↦ inl (k.0, k.1, Contains-tail p pins k.0 k.2, k.3, k.4)
        | inr all ↦ inr (here, all)
      ]
    ]

-- pins without a home in the item j do not narrow what is shared there
gathers-none : (home : Pin → Option Home) (j : ℕ) (r : Reach) (pins : List Pin) → AllByRecursion (λ p. IsElsewhere j (home p)) pins → fold (λ r p. narrowed_in j r (home p)) r pins ≡ r
gathers-none home j r [] h = refl
gathers-none home j r (p ∷ pins) h = ap (λ v. fold (λ r p. narrowed_in j r (home p)) v pins) (stays (home p) h.0) ∙ gathers-none home j r pins h.1
  where
    stays : (o : Option Home) → IsElsewhere j o → narrowed_in j r o ≡ r
    stays None k = refl
    stays (Some v) k = cond-false (v.item == j) (met r v.reach) r (ne_eqb v.item j k)

module _ (design : Design) (node : Parts) (layout : Layout) (sub : IsSubproblem design node) (m : IsLayout design node layout) (pins : List Pin) (net : IsNet design pins) where
  -- in an incomplete subproblem: the greatest of the items' gaps
  pub open_hull : is_complete node ≡ false → greatest_gap design layout.table.items false (shared_in design layout.table.items false pins) pins ≡ hull_part design (extent_in design node) (is_complete node) (items_of node) pins
  open_hull incomplete =
      let extent = extent_in design node in
      let its = reverse (items_of node) in
      let d : Item = item.Block 0 in
      let home = pin_home design layout.table.items false in
      let at = shared_in design layout.table.items false pins in
      let f : Pin → ℕ = λ p. home_gap at (home p) in
      let hull = hull_part design extent false (items_of node) pins in
      let agree : (j : ℕ) → j < length its → reach_gap (at j) ≡ hull_of design extent false pins (get_or its j d) = λ j lt.
      subst (λ t. reach_gap (shared_in design layout.table.items t pins j) ≡ hull_of design extent t pins (get_or its j d)) incomplete (item-agrees design node layout sub m pins net j d lt) in
      let up : fold (λ n p. max n (f p)) 0 pins ≤ hull = fold-most f 0 hull pins (omega arith) (λ p c. home-le p c (home p) refl) in
      let down : hull ≤ fold (λ n p. max n (f p)) 0 pins =
      hull-most design extent false (items_of node) pins (fold (λ n p. max n (f p)) 0 pins) (λ i c.
      let k = reverse-to (items_of node) i c in
      let same : get_or its k.0 d ≡ i = get_or_default its k.0 d i k.1 ∙ k.2 in
      let e = agree k.0 k.1 in
      elim (pin-in home k.0 pins) [
        | inl q ↦ omega (arith, fold-each f 0 pins q.0 q.2, ap (home_gap at) q.3, ap (λ n. reach_gap (at n)) q.4, e, ap (hull_of design extent false pins) same)
        | inr none ↦ (let empty : reach_gap (at k.0) ≡ 0 = ap reach_gap (gathers-none home k.0 anywhere pins none) in omega (arith, empty, e, ap (hull_of design extent false pins) same))
      ]) in
      let equal : fold (λ n p. max n (f p)) 0 pins ≡ hull = omega (arith, up, down) in
      equal ∙ ap (λ t. hull_part design extent t (items_of node) pins) (sym incomplete)
    where
      home-le : (p : Pin) → Contains pins p → (o : Option Home) → pin_home design layout.table.items false p ≡ o → home_gap (shared_in design layout.table.items false pins) (pin_home design layout.table.items false p) ≤ hull_part design (extent_in design node) false (items_of node) pins
      home-le p c None e = subst (λ o. home_gap (shared_in design layout.table.items false pins) o ≤ hull_part design (extent_in design node) false (items_of node) pins) (sym e) (omega arith)
      home-le p c (Some h) e =
          let extent = extent_in design node in
          let its = reverse (items_of node) in
          let d : Item = item.Block 0 in
          let lt : h.item < length its = inside p c h e in
          let agree : reach_gap (shared_in design layout.table.items false pins h.item) ≡ hull_of design extent false pins (get_or its h.item d) =
          subst (λ t. reach_gap (shared_in design layout.table.items t pins h.item) ≡ hull_of design extent t pins (get_or its h.item d)) incomplete (item-agrees design node layout sub m pins net h.item d lt) in
          omega (arith, ap (home_gap (shared_in design layout.table.items false pins)) e, agree, hull-each design extent false (items_of node) pins (get_or its h.item d) (reverse-from (items_of node) (get_or its h.item d) (Contains-get_or its h.item d lt)))
        where
          inside : (p : Pin) → Contains pins p → (h : Home) → pin_home design layout.table.items false p ≡ Some h → h.item < length (reverse (items_of node))
          inside (pin.Block b) c h e = (home-stands design node layout m b h (All-contains (λ p. pin_number p < pin_count (length design.blocks) (length design.pads) p) pins (pin.Block b) net c) e).inside
          inside (pin.Pad q) c h e = absurd (cc)

  -- in a complete one: the gap of its one item
  pub whole_hull : is_complete node ≡ true → reach_gap (shared_homes design layout.table.items pins) ≡ hull_part design (extent_in design node) (is_complete node) (items_of node) pins
  whole_hull complete =
      let extent = extent_in design node in
      let d : Item = item.Block 0 in
      let its = reverse (items_of node) in
      let whole = whole-item design node sub complete in
      let one : length its ≡ 1 = omega (arith, length-reverse (items_of node), ap length whole.1.items) in
      let first : get_or its 0 d ≡ whole.0 = ap (λ v. get_or (reverse v) 0 d) whole.1.items in
      let same : shared_homes design layout.table.items pins ≡ shared_in design layout.table.items true pins 0 = all-in-one one anywhere pins (recursion_from_All (λ p. pin_number p < pin_count (length design.blocks) (length design.pads) p) pins net) in
      let agree : reach_gap (shared_in design layout.table.items true pins 0) ≡ hull_of design extent true pins (get_or its 0 d) =
      subst (λ t. reach_gap (shared_in design layout.table.items t pins 0) ≡ hull_of design extent t pins (get_or its 0 d)) complete (item-agrees design node layout sub m pins net 0 d (omega (arith, one))) in
      let hull : reach_gap (shared_homes design layout.table.items pins) ≡ max (hull_of design extent true pins whole.0) 0 = omega (arith, ap reach_gap same, agree, ap (hull_of design extent true pins) first) in
      hull ∙ ap (λ is. hull_part design extent true is pins) (sym whole.1.items) ∙ ap (λ t. hull_part design extent t (items_of node) pins) (sym complete)
    where
      all-in-one : length (reverse (items_of node)) ≡ 1 → (r : Reach) (ps : List Pin) → AllByRecursion (λ p. pin_number p < pin_count (length design.blocks) (length design.pads) p) ps → fold (λ r p. narrowed r (pin_home design layout.table.items true p)) r ps ≡ fold (λ r p. narrowed_in 0 r (pin_home design layout.table.items true p)) r ps
      all-in-one one r [] h = refl
      all-in-one one r (p ∷ ps) h = all-in-one one (narrowed r (pin_home design layout.table.items true p)) ps h.1 ∙ ap (λ v. fold (λ r p. narrowed_in 0 r (pin_home design layout.table.items true p)) v ps) (by-pin p h.0)
        where
          by-home : (o : Option Home) → IfSome o (λ h. h.item ≡ 0) → narrowed r o ≡ narrowed_in 0 r o
          by-home None k = refl
          by-home (Some h) k = sym (cond-true (h.item == 0) (met r h.reach) r (eq-eqb h.item 0 k))

          by-pin : (p : Pin) → pin_number p < pin_count (length design.blocks) (length design.pads) p → narrowed r (pin_home design layout.table.items true p) ≡ narrowed_in 0 r (pin_home design layout.table.items true p)
          by-pin (pin.Block b) lt = by-home (standing_at layout.table.items b).home (if-some (λ h. (h.item < length layout.held.items) × IsFitReach h.reach) (λ h. h.item ≡ 0) (standing_at layout.table.items b).home
              (λ h k. omega (arith, k.0, held-count design node layout m, one)) (standing_ready design (length layout.held.items) layout.table.items (readied design node layout m) b lt).home)
          by-pin (pin.Pad q) lt = refl

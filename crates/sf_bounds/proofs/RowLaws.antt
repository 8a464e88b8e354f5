-- The row of an item, from those of its parts, and what it tells of the hull.
use Rattle.std.proofs.Common.{◌≡◌, ℕ, ◌+◌, ◌*◌, ◌≤◌, List, [], ◌∷◌, ◌++◌, length, map, refl, ap, sym, ◌∙◌, subst, arith, length-append, true, false, if◌then◌else◌, ◌-ℤ◌}
use Rattle.sf_bounds.proofs.Common.{fold, AllByRecursion, ints, map-append, append-nil, length-map, Design, Pin, each-append, each-map, each-weaker, Extent, Interval, Offset, Item, item_in, to_nat, gap, item_extent, offsets, offset_x, offset_y, moved_right, moved_up, contains_pin, of_pins, pads_x, pads_y, hull_of, Direction, Reach, IsFitInterval, IsFitReach, shared, met, endless, anywhere, reach_gap, pad_reach, row, with_pad, pads_share, pushed, pushed_reach, joined_reach, IsSmallExtent, Beside, Above, IsSmallOffset, offsets-small}
use Rattle.sf_model.specs.declared.parts.Pin.TheVariants as pin
use Rattle.sf_standard.specs.Items as item
use Rattle.sf_nets.proofs.Meeting.{gap-shared}
use Rattle.sf_bounds.proofs.Shares.{interval, moved, IsHome, home-near, share-append, share-moved, near-share}

-- the places of the pins' blocks in two lists together are those in the first and then those in the second
pins-append : (pins : List Pin) (xs ys : List Offset) → of_pins pins (xs ++ ys) ≡ of_pins pins xs ++ of_pins pins ys
pins-append pins [] ys = refl
pins-append pins (x ∷ xs) ys =
    elim (contains_pin x.block pins) as (λ t. (if t then (x ∷ of_pins pins (xs ++ ys)) else of_pins pins (xs ++ ys)) ≡ (if t then (x ∷ of_pins pins xs) else of_pins pins xs) ++ of_pins pins ys) [
      | true ↦ ap (λ v. x ∷ v) (pins-append pins xs ys)
      | false ↦ pins-append pins xs ys
    ]

-- a move leaves the blocks
pins-moved : (pins : List Pin) (f : Offset → Offset) → ((o : Offset) → (f o).block ≡ o.block) → (os : List Offset) → of_pins pins (map f os) ≡ map f (of_pins pins os)
pins-moved pins f same [] = refl
pins-moved pins f same (o ∷ os) =
    ap (λ v. if contains_pin v pins then (f o ∷ of_pins pins (map f os)) else of_pins pins (map f os)) (same o)
    ∙ (elim (contains_pin o.block pins) as (λ t. (if t then (f o ∷ of_pins pins (map f os)) else of_pins pins (map f os)) ≡ map f (if t then (o ∷ of_pins pins os) else of_pins pins os)) [
      | true ↦ ap (λ v. f o ∷ v) (pins-moved pins f same os)
      | false ↦ pins-moved pins f same os
    ])

-- what holds of all offsets holds of those of some pins
pins-each : (P : Offset → Type 0) (pins : List Pin) (os : List Offset) → AllByRecursion P os → AllByRecursion P (of_pins pins os)
pins-each P pins [] h = tt
pins-each P pins (o ∷ os) h =
    elim (contains_pin o.block pins) as (λ t. AllByRecursion P (if t then (o ∷ of_pins pins os) else of_pins pins os)) [
      | true ↦ (h.0, pins-each P pins os h.1)
      | false ↦ pins-each P pins os h.1
    ]

-- two functions that agree everywhere give the same list
map-same : {X Y : Type 0} (f g : X → Y) → ((x : X) → f x ≡ g x) → (xs : List X) → map f xs ≡ map g xs
map-same f g h [] = refl
map-same f g h (x ∷ xs) = ap (λ v. v ∷ map f xs) (h x) ∙ ap (λ v. g x ∷ v) (map-same f g h xs)

-- a list mapped twice is mapped by one function after the other
map-twice : {X Y Z : Type 0} (f : X → Y) (g : Y → Z) (xs : List X) → map g (map f xs) ≡ map (λ x. g (f x)) xs
map-twice f g [] = refl
map-twice f g (x ∷ xs) = ap (λ v. g (f x) ∷ v) (map-twice f g xs)

module _ (extent : ℕ → Extent) (small : (b : ℕ) → IsSmallExtent 1048576 (extent b)) where
  -- where a block at a small place stands across is an interval of a home
  home-x : (n : ℕ) → n ≤ 320 → (o : Offset) → IsSmallOffset (1048576 * n) o → IsHome (offset_x extent o)
  home-x n few o h =
      let k = small o.block in
      record { low = omega (arith, ints); low_small = omega (arith, ints, few, h.least_x, k.least_w); high = omega (arith, ints); high_small = omega (arith, ints, few, h.most_x, k.most_w) }

  -- where a block at a small place stands upward is an interval of a home
  home-y : (n : ℕ) → n ≤ 320 → (o : Offset) → IsSmallOffset (1048576 * n) o → IsHome (offset_y extent o)
  home-y n few o h =
      let k = small o.block in
      record { low = omega (arith, ints); low_small = omega (arith, ints, few, h.least_y, k.least_h); high = omega (arith, ints); high_small = omega (arith, ints, few, h.most_y, k.most_h) }

  -- where the blocks of an item stand is no less than 0, and near
  pub homes-x : (i : Item) → length (offsets extent i) ≤ 320 → AllByRecursion (λ o. IsHome (offset_x extent o)) (offsets extent i)
  homes-x i few = each-weaker (IsSmallOffset (1048576 * length (offsets extent i))) (λ o. IsHome (offset_x extent o)) (home-x (length (offsets extent i)) few) (offsets extent i) (offsets-small extent small i)

  -- where the blocks of an item stand upward is no less than 0, and near
  pub homes-y : (i : Item) → length (offsets extent i) ≤ 320 → AllByRecursion (λ o. IsHome (offset_y extent o)) (offsets extent i)
  homes-y i few = each-weaker (IsSmallOffset (1048576 * length (offsets extent i))) (λ o. IsHome (offset_y extent o)) (home-y (length (offsets extent i)) few) (offsets extent i) (offsets-small extent small i)

  -- of some pins
  pub pin-homes-x : (i : Item) (pins : List Pin) → length (offsets extent i) ≤ 320 → AllByRecursion IsHome (map (offset_x extent) (of_pins pins (offsets extent i)))
  pin-homes-x i pins few = each-map IsHome (offset_x extent) (of_pins pins (offsets extent i)) (pins-each (λ o. IsHome (offset_x extent o)) pins (offsets extent i) (homes-x i few))

  -- where the blocks of some pins stand upward in an item is no less than 0, and near
  pub pin-homes-y : (i : Item) (pins : List Pin) → length (offsets extent i) ≤ 320 → AllByRecursion IsHome (map (offset_y extent) (of_pins pins (offsets extent i)))
  pin-homes-y i pins few = each-map IsHome (offset_y extent) (of_pins pins (offsets extent i)) (pins-each (λ o. IsHome (offset_y extent o)) pins (offsets extent i) (homes-y i few))

  -- intervals of homes are near
  nears : (is : List Interval) → AllByRecursion IsHome is → AllByRecursion IsFitInterval is
  nears is h = each-weaker IsHome IsFitInterval home-near is h

  -- the endless interval is near
  near-endless : IsFitInterval endless
  near-endless = ((omega (arith, ints), omega (arith, ints)), (omega (arith, ints), omega (arith, ints)))

  -- what the pins' blocks in an item share is near
  pub row-near : (i : Item) (pins : List Pin) → length (offsets extent i) ≤ 320 → IsFitReach (row extent i pins)
  row-near i pins few = (
    near-share endless (map (offset_x extent) (of_pins pins (offsets extent i))) near-endless (nears (map (offset_x extent) (of_pins pins (offsets extent i))) (pin-homes-x i pins few)),
    near-share endless (map (offset_y extent) (of_pins pins (offsets extent i))) near-endless (nears (map (offset_y extent) (of_pins pins (offsets extent i))) (pin-homes-y i pins few)),
  )

  -- the gap of the row is the hull of the item
  pub row-hull : (design : Design) (i : Item) (pins : List Pin) → length (offsets extent i) ≤ 320 → reach_gap (row extent i pins) ≡ hull_of design extent false pins i
  row-hull design i pins few =
      let xs = map (offset_x extent) (of_pins pins (offsets extent i)) in
      let ys = map (offset_y extent) (of_pins pins (offsets extent i)) in
      let r = row extent i pins in
      ap (λ v. v + to_nat (r.upward.low -ℤ r.upward.high)) (gap-shared xs (nears xs (pin-homes-x i pins few)))
      ∙ ap (λ v. gap xs + v) (gap-shared ys (nears ys (pin-homes-y i pins few)))
      ∙ ap (λ v. gap v + gap ys) (sym (append-nil xs))
      ∙ ap (λ v. gap (xs ++ []) + gap v) (sym (append-nil ys))

  -- what the pads share, one way and the other
  pads-fold : (design : Design) (r : Reach) (pins : List Pin) → fold (with_pad design) r pins ≡ (record { across = fold shared r.across (pads_x design pins); upward = fold shared r.upward (pads_y design pins) })
  pads-fold design r [] = refl
  pads-fold design r (pin.Block b ∷ pins) = pads-fold design r pins
  pads-fold design r (pin.Pad q ∷ pins) = pads-fold design (met r (pad_reach design q)) pins

  -- with the pads
  pub row-pads : (design : Design) (i : Item) (pins : List Pin) → length (offsets extent i) ≤ 320 → AllByRecursion IsFitInterval (pads_x design pins) → AllByRecursion IsFitInterval (pads_y design pins) → reach_gap (met (row extent i pins) (pads_share design pins)) ≡ hull_of design extent true pins i
  row-pads design i pins few px py =
      let xs = map (offset_x extent) (of_pins pins (offsets extent i)) in
      let ys = map (offset_y extent) (of_pins pins (offsets extent i)) in
      let ax = xs ++ pads_x design pins in
      let ay = ys ++ pads_y design pins in
      let v = shared (fold shared endless ys) (fold shared endless (pads_y design pins)) in
      ap (λ p. reach_gap (met (row extent i pins) p)) (pads-fold design anywhere pins)
      ∙ ap (λ (u : Interval). to_nat (u.low -ℤ u.high) + to_nat (v.low -ℤ v.high)) (sym (share-append xs (pads_x design pins)))
      ∙ ap (λ (u : Interval). to_nat ((fold shared endless ax).low -ℤ (fold shared endless ax).high) + to_nat (u.low -ℤ u.high)) (sym (share-append ys (pads_y design pins)))
      ∙ ap (λ n. n + to_nat ((fold shared endless ay).low -ℤ (fold shared endless ay).high)) (gap-shared ax (each-append IsFitInterval xs (pads_x design pins) (nears xs (pin-homes-x i pins few)) px))
      ∙ ap (λ n. gap ax + n) (gap-shared ay (each-append IsFitInterval ys (pads_y design pins) (nears ys (pin-homes-y i pins few)) py))

  module _ (l r : Item) (pins : List Pin) where
    -- the extent of the left item
    abbrev e : Extent
    e = item_extent extent l

    -- a block that is moved right stands further across by the left item's width
    right-x : (o : Offset) → offset_x extent (moved_right e o) ≡ moved e.least_w e.most_w (offset_x extent o)
    right-x o = interval _ _ _ _ (omega (arith, ints)) (omega (arith, ints))

    -- a block that is moved up stands further upward by the lower item's height
    up-y : (o : Offset) → offset_y extent (moved_up e o) ≡ moved e.least_h e.most_h (offset_y extent o)
    up-y o = interval _ _ _ _ (omega (arith, ints)) (omega (arith, ints))

    -- the intervals of a moved item
    lists : (f : Offset → Offset) (g : Offset → Interval) (m : Interval → Interval) → ((o : Offset) → (f o).block ≡ o.block) → ((o : Offset) → g (f o) ≡ m (g o)) → map g (of_pins pins (map f (offsets extent r))) ≡ map m (map g (of_pins pins (offsets extent r)))
    lists f g m blocks goes =
        ap (map g) (pins-moved pins f blocks (offsets extent r))
        ∙ map-twice f g (of_pins pins (offsets extent r))
        ∙ map-same (λ o. g (f o)) (λ o. m (g o)) goes (of_pins pins (offsets extent r))
        ∙ sym (map-twice g m (of_pins pins (offsets extent r)))

    -- what the blocks of both items share is what those of the left share with what the others share
    split : (g : Offset → Interval) (os : List Offset) → fold shared endless (map g (of_pins pins (offsets extent l ++ os))) ≡ shared (fold shared endless (map g (of_pins pins (offsets extent l)))) (fold shared endless (map g (of_pins pins os)))
    split g os =
        ap (λ v. fold shared endless (map g v)) (pins-append pins (offsets extent l) os)
        ∙ ap (fold shared endless) (map-append g (of_pins pins (offsets extent l)) (of_pins pins os))
        ∙ share-append (map g (of_pins pins (offsets extent l))) (map g (of_pins pins os))

    -- the right item's homes are homes where they are, and where it stands in both
    back-homes : (g : Offset → Interval) (f : Offset → Offset) → AllByRecursion (λ o. IsHome (g o)) (offsets extent l ++ map f (offsets extent r)) → AllByRecursion IsHome (map g (of_pins pins (map f (offsets extent r))))
    back-homes g f h = each-map IsHome g (of_pins pins (map f (offsets extent r))) (pins-each (λ o. IsHome (g o)) pins (map f (offsets extent r)) (behind (offsets extent l) h))
      where
        behind : (xs : List Offset) → AllByRecursion (λ o. IsHome (g o)) (xs ++ map f (offsets extent r)) → AllByRecursion (λ o. IsHome (g o)) (map f (offsets extent r))
        behind [] k = k
        behind (x ∷ xs) k = behind xs k.1

    -- the right item has no more blocks than both
    few-right : (f : Offset → Offset) → length (offsets extent l ++ map f (offsets extent r)) ≤ 320 → length (offsets extent r) ≤ 320
    few-right f h = omega (arith, h, length-append (offsets extent l) (map f (offsets extent r)), length-map (offsets extent r) f)

    -- along the operator the right item's row is pushed, across it stays
    along : (f : Offset → Offset) (g : Offset → Interval) (a b : ℕ) → ((o : Offset) → (f o).block ≡ o.block) → ((o : Offset) → g (f o) ≡ moved a b (g o)) → AllByRecursion IsHome (map g (of_pins pins (offsets extent r))) → AllByRecursion IsHome (map g (of_pins pins (map f (offsets extent r)))) →
        fold shared endless (map g (of_pins pins (map f (offsets extent r)))) ≡ pushed a b (fold shared endless (map g (of_pins pins (offsets extent r))))
    along f g a b blocks goes own there =
        ap (fold shared endless) (lists f g (moved a b) blocks goes)
        ∙ share-moved a b (map g (of_pins pins (offsets extent r))) own (subst (AllByRecursion IsHome) (lists f g (moved a b) blocks goes) there)

    -- where a move changes no place one way, the share of the moved item's pins stays that way
    across : (f : Offset → Offset) (g : Offset → Interval) → ((o : Offset) → (f o).block ≡ o.block) → ((o : Offset) → g (f o) ≡ g o) → fold shared endless (map g (of_pins pins (map f (offsets extent r)))) ≡ fold shared endless (map g (of_pins pins (offsets extent r)))
    across f g blocks stays =
        ap (fold shared endless) (ap (map g) (pins-moved pins f blocks (offsets extent r)) ∙ map-twice f g (of_pins pins (offsets extent r)) ∙ map-same (λ o. g (f o)) g stays (of_pins pins (offsets extent r)))

    -- reaches with equal intervals are equal
    reach : (a b c d : Interval) → a ≡ c → b ≡ d → ◌≡◌ {A = Reach} (record { across = a; upward = b }) (record { across = c; upward = d })
    reach a b c d p q = ap (λ v. (let k : Reach = record { across = v; upward = b } in k)) p ∙ ap (λ v. (let k : Reach = record { across = c; upward = v } in k)) q

    -- the right or upper item's row, from the corner of both
    abbrev pub pushed-row : (d : Direction) → Reach
    pushed-row Beside = let os = of_pins pins (map (moved_right e) (offsets extent r)) in record { across = fold shared endless (map (offset_x extent) os); upward = fold shared endless (map (offset_y extent) os) }
    pushed-row Above = let os = of_pins pins (map (moved_up e) (offsets extent r)) in record { across = fold shared endless (map (offset_x extent) os); upward = fold shared endless (map (offset_y extent) os) }

    -- the row of the moved item is its own row, pushed by the other item's extent
    pub pushed-is : (d : Direction) → length (offsets extent (item_in d l r)) ≤ 320 → pushed-row d ≡ pushed_reach d e (row extent r pins)
    pushed-is Beside few =
        reach _ _ _ _
        (along (moved_right e) (offset_x extent) e.least_w e.most_w (λ o. refl) right-x (pin-homes-x r pins (few-right (moved_right e) few)) (back-homes (offset_x extent) (moved_right e) (homes-x (item.Beside l r) few)))
        (across (moved_right e) (offset_y extent) (λ o. refl) (λ o. refl))
    pushed-is Above few =
        reach _ _ _ _
        (across (moved_up e) (offset_x extent) (λ o. refl) (λ o. refl))
        (along (moved_up e) (offset_y extent) e.least_h e.most_h (λ o. refl) up-y (pin-homes-y r pins (few-right (moved_up e) few)) (back-homes (offset_y extent) (moved_up e) (homes-y (item.Above l r) few)))

    -- it is near
    pub pushed-near : (d : Direction) → length (offsets extent (item_in d l r)) ≤ 320 → IsFitReach (pushed_reach d e (row extent r pins))
    pushed-near d few = subst IsFitReach (pushed-is d few) (own d few)
      where
        own : (d : Direction) → length (offsets extent (item_in d l r)) ≤ 320 → IsFitReach (pushed-row d)
        own Beside few = (
          near-share endless (map (offset_x extent) (of_pins pins (map (moved_right e) (offsets extent r)))) near-endless (nears (map (offset_x extent) (of_pins pins (map (moved_right e) (offsets extent r)))) (back-homes (offset_x extent) (moved_right e) (homes-x (item.Beside l r) few))),
          near-share endless (map (offset_y extent) (of_pins pins (map (moved_right e) (offsets extent r)))) near-endless (nears (map (offset_y extent) (of_pins pins (map (moved_right e) (offsets extent r)))) (back-homes (offset_y extent) (moved_right e) (homes-y (item.Beside l r) few))),
        )
        own Above few = (
          near-share endless (map (offset_x extent) (of_pins pins (map (moved_up e) (offsets extent r)))) near-endless (nears (map (offset_x extent) (of_pins pins (map (moved_up e) (offsets extent r)))) (back-homes (offset_x extent) (moved_up e) (homes-x (item.Above l r) few))),
          near-share endless (map (offset_y extent) (of_pins pins (map (moved_up e) (offsets extent r)))) near-endless (nears (map (offset_y extent) (of_pins pins (map (moved_up e) (offsets extent r)))) (back-homes (offset_y extent) (moved_up e) (homes-y (item.Above l r) few))),
        )

    -- the law of rows
    pub row-joined : (d : Direction) → length (offsets extent (item_in d l r)) ≤ 320 → row extent (item_in d l r) pins ≡ joined_reach d e (row extent l pins) (row extent r pins)
    row-joined d few = both d ∙ ap (met (row extent l pins)) (pushed-is d few)
      where
        both : (d : Direction) → row extent (item_in d l r) pins ≡ met (row extent l pins) (pushed-row d)
        both Beside = reach _ _ _ _ (split (offset_x extent) (map (moved_right e) (offsets extent r))) (split (offset_y extent) (map (moved_right e) (offsets extent r)))
        both Above = reach _ _ _ _ (split (offset_x extent) (map (moved_up e) (offsets extent r))) (split (offset_y extent) (map (moved_up e) (offsets extent r)))

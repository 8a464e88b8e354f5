-- What the ranges of a net's pins share tells the range part.
use Rattle.std.proofs.Common.{◌≡◌, ℕ, ◌+◌, ◌<◌, List, [], ◌∷◌, map, length, refl, ap, ◌∙◌, ◌-ℤ◌}
use Rattle.sf_nets.proofs.Common.{fold, recursion_from_All, Design, Pin, pin_number, pin_count, each-map, each-weaker, Interval, to_nat, gap, Standing, Reach, IsFitInterval, shared, met, anywhere, reach_gap, IsNet, IsReady, pin_range, shared_ranges}
use Rattle.sf_nets.proofs.Meeting.{gap-shared}
use Rattle.sf_nets.proofs.PinLoops.{near_range}

module _ (design : Design) (table : List Standing) where
  -- where the pins lie across
  abbrev pub ranges_x : List Pin → List Interval
  ranges_x pins = map (λ p. (pin_range design table p).across) pins

  -- where the pins lie upward
  abbrev pub ranges_y : List Pin → List Interval
  ranges_y pins = map (λ p. (pin_range design table p).upward) pins

  -- what the pins share across is what their ranges across share
  range-across : (r : Reach) (pins : List Pin) → (fold (λ r p. met r (pin_range design table p)) r pins).across ≡ fold shared r.across (ranges_x pins)
  range-across r [] = refl
  range-across r (p ∷ pins) = range-across (met r (pin_range design table p)) pins

  -- what the pins share upward is what their ranges upward share
  range-upward : (r : Reach) (pins : List Pin) → (fold (λ r p. met r (pin_range design table p)) r pins).upward ≡ fold shared r.upward (ranges_y pins)
  range-upward r [] = refl
  range-upward r (p ∷ pins) = range-upward (met r (pin_range design table p)) pins

  -- the gap of what the pins share is the sum of the gaps of their ranges, across and upward
  pub range_is : (items : ℕ) → IsReady design items table → (pins : List Pin) → IsNet design pins → reach_gap (shared_ranges design table pins) ≡ gap (ranges_x pins) + gap (ranges_y pins)
  range_is items ready pins net =
      let there = λ (p : Pin). pin_number p < pin_count (length design.blocks) (length design.pads) p in
      let all = recursion_from_All there pins net in
      let xs = ranges_x pins in
      let ys = ranges_y pins in
      let r = shared_ranges design table pins in
      let x : to_nat (r.across.low -ℤ r.across.high) ≡ gap xs =
      ap (λ i. to_nat (i.low -ℤ i.high)) (range-across anywhere pins)
      ∙ gap-shared xs (each-map IsFitInterval (λ p. (pin_range design table p).across) pins (each-weaker there (λ p. IsFitInterval (pin_range design table p).across) (λ p h. (near_range design items table ready p h).0) pins all)) in
      let y : to_nat (r.upward.low -ℤ r.upward.high) ≡ gap ys =
      ap (λ i. to_nat (i.low -ℤ i.high)) (range-upward anywhere pins)
      ∙ gap-shared ys (each-map IsFitInterval (λ p. (pin_range design table p).upward) pins (each-weaker there (λ p. IsFitInterval (pin_range design table p).upward) (λ p h. (near_range design items table ready p h).1) pins all)) in
      ap (λ n. n + to_nat (r.upward.low -ℤ r.upward.high)) x ∙ ap (λ n. gap xs + n) y

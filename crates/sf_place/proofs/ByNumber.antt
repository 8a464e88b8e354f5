-- The spots of a plan by block number: the same wire, the same ends, and a legal placement.
use Rattle.std.proofs.Common.{length-append, ◌≡◌, ℕ, suc, ◌+◌, ◌*◌, ◌<◌, ◌≤◌, max, List, [], ◌∷◌, map, length, get_or, All, AllPairs, arith, refl, sym, ap, subst, ◌∙◌, ◌==◌, cond, inl, inr, ◌+ℤ◌}
use Rattle.sf_place.proofs.Common.{count_by, Contains, slice_set, pos, nat_abs, sum_by, AllByRecursion, range_with_len, nat_tests, ints, Spot, Tree, Leaf, Beside, Above, width, height, leaves, leaf_count, spots_at, spots_of, Overlaps, IsInside, spot_of, pin_x, pin_y, net_wire, weighed_wire, wire, spread, IsByNumber, by_number, with_spots, AreLegal, IsListed, LiesIn, zero, cases_lt, get_or-set_same, get_or-set_other, length-set, sum_by-append, sum_by-cons, Design, IsLegal, Fits, block_count, shapes_of, HasEachOnce, right_end, upper_end, cost, spots_cost, each-append, each-weaker, each-left, each-right, EachPair}
use Rattle.std.proofs.lemmas.List.Elements.{recursion_from_All}
use Rattle.std.proofs.lemmas.List.FromFn.{fill_by_all, length-map-range_with_len, get_or-map-range_with_len}
use Rattle.sf_model.specs.declared.parts.Net.{Net}
use Rattle.sf_model.specs.declared.parts.Pin.{Pin}
use Rattle.sf_model.specs.declared.parts.Shape.{Shape}
use Rattle.sf_model.proofs.Places.{spots-inside, spots-apart}
use Rattle.sf_model.proofs.Ends.{right_end-spots_of, upper_end-spots_of}
use Rattle.sf_model.proofs.Counting.{length-leaves_once}
use Rattle.sf_place.proofs.Found.{count, count-cons, block-spot_of, spot_of-all, spot_of-none, spot_of-pair, greatest, greatest-each, greatest-least, end-most}
use Rattle.sf_place.proofs.Numbered.{spot_of_numbered, block_numbered}

-- spots of given blocks stand by number
blocks-map : (f : ℕ → Spot) → ((b : ℕ) → (f b).block ≡ b) → (a n : ℕ) → map (λ s. s.block) (map f (range_with_len a n)) ≡ range_with_len a n
blocks-map f is a zero = refl
blocks-map f is a (suc n) = let h = is a in let t = blocks-map f is (a + 1) n in cc

-- there are as many spots as blocks
length-by_number : (n : ℕ) (ss : List Spot) → length (by_number n ss) ≡ n
length-by_number n ss = length-map-range_with_len (λ b. spot_of b ss) 0 n

-- the list is one by number
numbered-by_number : (n : ℕ) (ss : List Spot) → IsByNumber (by_number n ss)
numbered-by_number n ss = blocks-map (λ b. spot_of b ss) (λ b. block-spot_of b ss) 0 n ∙ ap (range_with_len 0) (sym (length-by_number n ss))

-- at each place stands the spot of that block
pub get-by_number : (n : ℕ) (ss : List Spot) (k : ℕ) (d : Spot) → k < n → get_or (by_number n ss) k d ≡ spot_of k ss
get-by_number n ss k d h = get_or-map-range_with_len (λ b. spot_of b ss) 0 n k k d h (omega arith)

-- a number past all blocks has no spot
none-past : (n : ℕ) (ss : List Spot) → AllByRecursion (λ s. s.block < n) ss → (b : ℕ) → n ≤ b → count b ss ≡ 0
none-past n [] a b h = refl
none-past n (s ∷ ss) a b h = grind (arith, nat_tests, a.0, count-cons b s ss, none-past n ss a.1 b h)

-- each spot of the list is of a lower number
below-by_number : (n : ℕ) (ss : List Spot) → AllByRecursion (λ s. s.block < n) (by_number n ss)
below-by_number n ss =
    recursion_from_All (λ s. s.block < n) (by_number n ss)
    (λ k d h. omega (arith, h, length-by_number n ss, block_numbered (by_number n ss) k d (numbered-by_number n ss) h))

-- each block has the same spot
pub spot_of-by_number : (n : ℕ) (ss : List Spot) → ((b : ℕ) → n ≤ b → count b ss ≡ 0) → (b : ℕ) → spot_of b (by_number n ss) ≡ spot_of b ss
spot_of-by_number n ss none b =
    elim (cases_lt b n) [
      | inl h ↦ spot_of_numbered (by_number n ss) b (spot_of b []) (numbered-by_number n ss) (omega (arith, h, length-by_number n ss)) ∙ get-by_number n ss b (spot_of b []) h
      | inr h ↦ spot_of-none b (by_number n ss) (none-past n (by_number n ss) (below-by_number n ss) b h) ∙ sym (spot_of-none b ss (none b h))
    ]

-- the wire depends on the spot of each block alone
module _ (design : Design) (xs ys : List Spot) (same : (b : ℕ) → spot_of b xs ≡ spot_of b ys) where
  -- each pin lies at the same place across
  pins_x-same : (pins : List Pin) → map (pin_x design xs) pins ≡ map (pin_x design ys) pins
  pins_x-same [] = refl
  pins_x-same (p ∷ ps) = grind (arith, same, pins_x-same ps)

  -- and upward
  pins_y-same : (pins : List Pin) → map (pin_y design xs) pins ≡ map (pin_y design ys) pins
  pins_y-same [] = refl
  pins_y-same (p ∷ ps) = grind (arith, same, pins_y-same ps)

  -- each net has the same wire
  net-same : (net : Net) → net_wire design xs net ≡ net_wire design ys net
  net-same net = omega (arith, ap spread (pins_x-same net.pins), ap spread (pins_y-same net.pins))

  -- and all nets as often as their weights say
  nets-same : (nets : List Net) → sum_by (weighed_wire design xs) nets ≡ sum_by (weighed_wire design ys) nets
  nets-same [] = refl
  nets-same (net ∷ nets) =
      let first = ap (λ v. net.weight * v) (net-same net) in
      omega (arith, first, nets-same nets, sum_by-cons (weighed_wire design xs) net nets, sum_by-cons (weighed_wire design ys) net nets)

  -- so the wires are the same
  pub wire-same : wire design xs ≡ wire design ys
  wire-same = nets-same design.nets

-- the right end is the greatest over all spots
right_end-greatest : (ss : List Spot) → right_end ss ≡ greatest (λ s. nat_abs (s.x +ℤ pos s.w)) ss
right_end-greatest [] = refl
right_end-greatest (s ∷ ss) = ap (max (nat_abs (s.x +ℤ pos s.w))) (right_end-greatest ss)

-- so is the upper end
upper_end-greatest : (ss : List Spot) → upper_end ss ≡ greatest (λ s. nat_abs (s.y +ℤ pos s.h)) ss
upper_end-greatest [] = refl
upper_end-greatest (s ∷ ss) = ap (max (nat_abs (s.y +ℤ pos s.h))) (upper_end-greatest ss)

-- a block has as many spots as leaves
count-spots : (b x y : ℕ) (t : Tree) → count b (spots_at x y t) ≡ count_by (λ leaf. leaf.0 == b) (leaves t)
count-spots b x y (Leaf c s) = refl
count-spots b x y (Beside l r) =
    omega (arith, sum_by-append (λ s. cond (s.block == b) 1 0) (spots_at x y l) (spots_at (x + width l) y r), sum_by-append (λ leaf. cond (leaf.0 == b) 1 0) (leaves l) (leaves r), count-spots b x y l, count-spots b (x + width l) y r)
count-spots b x y (Above l r) =
    omega (arith, sum_by-append (λ s. cond (s.block == b) 1 0) (spots_at x y l) (spots_at x (y + height l) r), sum_by-append (λ leaf. cond (leaf.0 == b) 1 0) (leaves l) (leaves r), count-spots b x y l, count-spots b x (y + height l) r)

-- what holds of each leaf holds of each spot
spots-each : (P : ℕ → Shape → Type 0) (x y : ℕ) (t : Tree) → AllByRecursion (λ leaf. P leaf.0 leaf.1) (leaves t) → AllByRecursion (λ s. P s.block (record { w = s.w; h = s.h })) (spots_at x y t)
spots-each P x y (Leaf b s) a = (a.0, tt)
spots-each P x y (Beside l r) a =
    each-append _ (spots_at x y l) (spots_at (x + width l) y r)
    (spots-each P x y l (each-left _ (leaves l) (leaves r) a)) (spots-each P (x + width l) y r (each-right _ (leaves l) (leaves r) a))
spots-each P x y (Above l r) a =
    each-append _ (spots_at x y l) (spots_at x (y + height l) r)
    (spots-each P x y l (each-left _ (leaves l) (leaves r) a)) (spots-each P x (y + height l) r (each-right _ (leaves l) (leaves r) a))

-- what holds of each two places holds of each two elements in their order
recursion_from_AllPairs : {X : Type 0} (R : X → X → Type 0) (xs : List X) → AllPairs R xs → EachPair R xs
recursion_from_AllPairs R [] p = tt
recursion_from_AllPairs R (x ∷ xs) p = (
  recursion_from_All (R x) xs (λ k d h. p 0 (suc k) d (omega arith) (omega arith)),
  recursion_from_AllPairs R xs (λ i j d h k. p (suc i) (suc j) d (omega arith) (omega arith)),
)

-- spots that do not overlap do not overlap in the other order
turned : (s t : Spot) → ¬ (Overlaps s t) → ¬ (Overlaps t s)
turned s t apart o = apart (record { left = o.right; right = o.left; below = o.above; above = o.below })

module _ (n : ℕ) (tree : Tree) (once : HasEachOnce n tree) where
  -- each spot is that of a block of the design
  below : AllByRecursion (λ s. s.block < n) (spots_of tree)
  below = spots-each (λ b s. b < n) 0 0 tree (recursion_from_All (λ leaf. leaf.0 < n) (leaves tree) once.no_other)

  -- a number past the last block has no spot
  none : (b : ℕ) → n ≤ b → count b (spots_of tree) ≡ 0
  none = none-past n (spots_of tree) below

  -- each block has one spot
  one : (b : ℕ) → b < n → count b (spots_of tree) ≡ 1
  one b h = count-spots b 0 0 tree ∙ once.each_once b h

  -- no number has more than one
  few : (b : ℕ) → count b (spots_of tree) ≤ 1
  few b = grind (arith, one b, none b)

  -- each block has the same spot in the list by number
  pub plan-spot_of : (b : ℕ) → spot_of b (by_number n (spots_of tree)) ≡ spot_of b (spots_of tree)
  plan-spot_of = spot_of-by_number n (spots_of tree) none

  -- and the wires are the same
  pub plan-wire : (design : Design) → wire design (by_number n (spots_of tree)) ≡ wire design (spots_of tree)
  plan-wire design = wire-same design (by_number n (spots_of tree)) (spots_of tree) plan-spot_of

  -- what holds of the spot of each block holds of each in the list
  by_number-each : (P : Spot → Type 0) → ((b : ℕ) → b < n → P (spot_of b (spots_of tree))) → All P (by_number n (spots_of tree))
  by_number-each P f k d h = let low : k < n = omega (arith, h, length-by_number n (spots_of tree)) in subst P (sym (get-by_number n (spots_of tree) k d low)) (f k low)

  -- the greatest end is the same in the list by number
  same_greatest : (end : Spot → ℕ) → ((b : ℕ) → end (spot_of b []) ≡ 0) → greatest end (by_number n (spots_of tree)) ≡ greatest end (spots_of tree)
  same_greatest end nowhere =
      let ss = spots_of tree in
      let most = greatest end ss in
      let up = greatest-each end most (by_number n ss) (recursion_from_All (λ s. end s ≤ most) (by_number n ss) (by_number-each (λ s. end s ≤ most) (λ b h. end-most end nowhere b ss))) in
      let down = greatest-least end nowhere (greatest end (by_number n ss)) ss few (λ b. omega (arith, ap end (plan-spot_of b), end-most end nowhere b (by_number n ss))) in
      omega (arith, up, down)

  -- the right end is the width of the plan
  plan-right : right_end (by_number n (spots_of tree)) ≡ width tree
  plan-right = right_end-greatest (by_number n (spots_of tree)) ∙ same_greatest (λ s. nat_abs (s.x +ℤ pos s.w)) (λ b. refl) ∙ sym (right_end-greatest (spots_of tree)) ∙ right_end-spots_of tree

  -- the upper end is its height
  plan-upper : upper_end (by_number n (spots_of tree)) ≡ height tree
  plan-upper = upper_end-greatest (by_number n (spots_of tree)) ∙ same_greatest (λ s. nat_abs (s.y +ℤ pos s.h)) (λ b. refl) ∙ sym (upper_end-greatest (spots_of tree)) ∙ upper_end-spots_of tree

  -- so the spots cost what the plan costs
  pub plan-cost : (design : Design) → spots_cost design (by_number n (spots_of tree)) ≡ cost design tree
  plan-cost design = let a = plan-right in let b = plan-upper in let c = plan-wire design in cc

  -- what holds of each spot of the plan holds of each in the list
  by_number-all : (P : Spot → Type 0) → AllByRecursion P (spots_of tree) → All P (by_number n (spots_of tree))
  by_number-all P a = by_number-each P (λ b h. spot_of-all P b (spots_of tree) a (omega (arith, one b h)))

  -- no two in the list overlap
  by_number-apart : AllPairs (λ s t. ¬ (Overlaps s t)) (by_number n (spots_of tree))
  by_number-apart i j d h k =
      let R : Spot → Spot → Type 0 = λ s t. ¬ (Overlaps s t) in
      let j_low : j < n = omega (arith, k, length-by_number n (spots_of tree)) in
      let i_low : i < n = omega (arith, h, j_low) in
      rw (get-by_number n (spots_of tree) i d i_low, get-by_number n (spots_of tree) j d j_low)
      (spot_of-pair R turned i j (λ e. absurd (omega (arith, e, h))) (spots_of tree)
      (recursion_from_AllPairs R (spots_of tree) (spots-apart tree)) (omega (arith, one i i_low)) (omega (arith, one j j_low)))

-- what lies inside a size lies inside a larger outline
wider : (outline_w outline_h w h : ℕ) → w ≤ outline_w → h ≤ outline_h → (s : Spot) → IsInside w h s → IsInside outline_w outline_h s
wider a b w h p q s i =
    record { left = i.left; right = grind (arith, ints, i.right); below = i.below; above = grind (arith, ints, i.above) }

-- the spots of a floorplan that fits are a legal placement
pub plan-legal : (design : Design) (tree : Tree) → IsLegal design tree → Fits design.outline tree → AreLegal design (by_number (block_count design) (spots_of tree))
plan-legal design tree legal fits = record {
  one_each = length-by_number (block_count design) (spots_of tree);
  by_number = numbered-by_number (block_count design) (spots_of tree);
  listed = by_number-all (block_count design) tree legal.blocks (IsListed design)
      (spots-each (λ b s. Contains (shapes_of design b) s) 0 0 tree (recursion_from_All (λ leaf. Contains (shapes_of design leaf.0) leaf.1) (leaves tree) legal.listed));
  inside = by_number-all (block_count design) tree legal.blocks (LiesIn design.outline)
      (each-weaker (IsInside (width tree) (height tree)) (LiesIn design.outline) (wider design.outline.w design.outline.h (width tree) (height tree) fits.0 fits.1) (spots_of tree)
      (recursion_from_All (IsInside (width tree) (height tree)) (spots_of tree) (spots-inside tree)));
  apart = by_number-apart (block_count design) tree legal.blocks;
}

-- there are as many leaves as are listed
leaf_count-leaves : (t : Tree) → leaf_count t ≡ length (leaves t)
leaf_count-leaves (Leaf b s) = refl
leaf_count-leaves (Beside l r) = omega (arith, leaf_count-leaves l, leaf_count-leaves r, length-append (leaves l) (leaves r))
leaf_count-leaves (Above l r) = omega (arith, leaf_count-leaves l, leaf_count-leaves r, length-append (leaves l) (leaves r))

-- a plan that has each block once has as many leaves as blocks
pub plan-leaves : (n : ℕ) (tree : Tree) → HasEachOnce n tree → leaf_count tree ≡ n
plan-leaves n tree once = leaf_count-leaves tree ∙ length-leaves_once n tree once

-- writing spots keeps the length of a list
length-placed : (old ss : List Spot) → length (with_spots old ss) ≡ length old
length-placed old [] = refl
length-placed old (s ∷ ss) = length-placed (slice_set old s.block s) ss ∙ length-set old s.block s

-- a place whose block has no spot stays as it was
untouched : (b : ℕ) (old ss : List Spot) (d : Spot) → count b ss ≡ 0 → get_or (with_spots old ss) b d ≡ get_or old b d
untouched b old [] d h = refl
untouched b old (s ∷ ss) d h = grind (arith, nat_tests, count-cons b s ss, untouched b (slice_set old s.block s) ss d, get_or-set_other old s.block b s d)

-- a place whose block has one spot has this spot
written : (b : ℕ) (old ss : List Spot) (d : Spot) → b < length old → count b ss ≡ 1 → get_or (with_spots old ss) b d ≡ spot_of b ss
written b old [] d l h = absurd (omega (arith, h))
written b old (s ∷ ss) d l h =
    let more = slice_set old s.block s in
    grind (arith, nat_tests, count-cons b s ss, untouched b more ss d, written b more ss d, get_or-set_same old s.block s d, length-set old s.block s)

-- spots written at their blocks' numbers stand by number
pub plan-placed : (n : ℕ) (tree : Tree) → HasEachOnce n tree → (old : List Spot) → length old ≡ n → with_spots old (spots_of tree) ≡ by_number n (spots_of tree)
plan-placed n tree once old e =
    fill_by_all (λ b. spot_of b (spots_of tree)) (with_spots old (spots_of tree)) n (spot_of 0 [])
    (length-placed old (spots_of tree) ∙ e)
    (λ b h. written b old (spots_of tree) (spot_of 0 []) (omega (arith, e, h)) (one n tree once b h))

-- No extent, and no place of a block in an item, is too great.
use Rattle.std.proofs.Common.{◌≡◌, ℕ, suc, ◌+◌, ◌*◌, ◌≤◌, List, [], ◌∷◌, length, map, ap, ◌∙◌, arith, length-append}
use Rattle.sf_nets.proofs.Common.{AllByRecursion, length-map, All-from_recursion, each-append, each-map, each-weaker, Extent, Offset, Item, item_in, item_extent, offsets, moved_right, moved_up, each-joined, IsSmallExtent, Direction, held_of, seat_at, seats_from, IsModestExtent, IsModestOffset, AreModest}
use Rattle.sf_standard.specs.Items as item
use Rattle.sf_curves.specs.declared.direction.Direction.TheVariants.{Beside, Above}

-- no number of the place of a block in its item is more than m
pub record IsSmallOffset (m : ℕ) (o : Offset) : Type 0 where
  pub least_x : o.least_x ≤ m
  pub most_x : o.most_x ≤ m
  pub least_y : o.least_y ≤ m
  pub most_y : o.most_y ≤ m

module _ (extent : ℕ → Extent) where
  -- a joined item has the blocks of both
  pub joined-length : (d : Direction) (l r : Item) → length (offsets extent (item_in d l r)) ≡ length (offsets extent l) + length (offsets extent r)
  joined-length Beside l r = length-append (offsets extent l) (map (moved_right (item_extent extent l)) (offsets extent r)) ∙ ap (λ n. length (offsets extent l) + n) (length-map (offsets extent r) (moved_right (item_extent extent l)))
  joined-length Above l r = length-append (offsets extent l) (map (moved_up (item_extent extent l)) (offsets extent r)) ∙ ap (λ n. length (offsets extent l) + n) (length-map (offsets extent r) (moved_up (item_extent extent l)))

module _ (extent : ℕ → Extent) (small : (b : ℕ) → IsSmallExtent 1048576 (extent b)) where
  -- the extent of an item has sides of at most 2^20 for each of its blocks
  pub item-small : (i : Item) → IsSmallExtent (1048576 * length (offsets extent i)) (item_extent extent i)
  item-small (item.Block b) = let k = small b in record { least_w = omega (arith, k.least_w); most_w = omega (arith, k.most_w); least_h = omega (arith, k.least_h); most_h = omega (arith, k.most_h) }
  item-small (item.Beside l r) =
      let p = item-small l in
      let q = item-small r in
      let n = joined-length extent Beside l r in
      record { least_w = omega (arith, p.least_w, q.least_w, n); most_w = omega (arith, p.most_w, q.most_w, n); least_h = omega (arith, p.least_h, q.least_h, n); most_h = omega (arith, p.most_h, q.most_h, n) }
  item-small (item.Above l r) =
      let p = item-small l in
      let q = item-small r in
      let n = joined-length extent Above l r in
      record { least_w = omega (arith, p.least_w, q.least_w, n); most_w = omega (arith, p.most_w, q.most_w, n); least_h = omega (arith, p.least_h, q.least_h, n); most_h = omega (arith, p.most_h, q.most_h, n) }

  -- a place within m is within every number that is greater
  wider : (m n : ℕ) (o : Offset) → m ≤ n → IsSmallOffset m o → IsSmallOffset n o
  wider m n o h k = record { least_x = omega (arith, h, k.least_x); most_x = omega (arith, h, k.most_x); least_y = omega (arith, h, k.least_y); most_y = omega (arith, h, k.most_y) }

  -- the places of an item's blocks are within 2^20 for each of its blocks
  pub offsets-small : (i : Item) → AllByRecursion (IsSmallOffset (1048576 * length (offsets extent i))) (offsets extent i)
  offsets-small (item.Block b) = (record { least_x = omega arith; most_x = omega arith; least_y = omega arith; most_y = omega arith }, tt)
  offsets-small (item.Beside l r) =
      let p = item-small l in
      let n = joined-length extent Beside l r in
      let most : Item → ℕ = λ i. 1048576 * length (offsets extent i) in
      each-joined (IsSmallOffset (most (item.Beside l r))) (IsSmallOffset (most l)) (IsSmallOffset (most r)) (moved_right (item_extent extent l)) (offsets extent l) (offsets extent r)
      (λ o k. wider (most l) (most (item.Beside l r)) o (omega (arith, n)) k)
      (λ o k. record { least_x = omega (arith, n, k.least_x, p.least_w); most_x = omega (arith, n, k.most_x, p.most_w); least_y = omega (arith, n, k.least_y); most_y = omega (arith, n, k.most_y) })
      (offsets-small l) (offsets-small r)
  offsets-small (item.Above l r) =
      let p = item-small l in
      let n = joined-length extent Above l r in
      let most : Item → ℕ = λ i. 1048576 * length (offsets extent i) in
      each-joined (IsSmallOffset (most (item.Above l r))) (IsSmallOffset (most l)) (IsSmallOffset (most r)) (moved_up (item_extent extent l)) (offsets extent l) (offsets extent r)
      (λ o k. wider (most l) (most (item.Above l r)) o (omega (arith, n)) k)
      (λ o k. record { least_x = omega (arith, n, k.least_x); most_x = omega (arith, n, k.most_x); least_y = omega (arith, n, k.least_y, p.least_h); most_y = omega (arith, n, k.most_y, p.most_h) })
      (offsets-small l) (offsets-small r)

  -- the seats of one item more are more by its blocks
  seats-long : (k : ℕ) (i : Item) (is : List Item) → length (seats_from extent k (i ∷ is)) ≡ length (offsets extent i) + length (seats_from extent (suc k) is)
  seats-long k i is = omega (arith, length-append (map (seat_at k) (offsets extent i)) (seats_from extent (suc k) is), length-map (offsets extent i) (seat_at k))

  -- what is held of items with at most 320 seats is modest
  held-modest : (k m : ℕ) (is : List Item) → length (seats_from extent k is) ≤ m → m ≤ 320 → AllByRecursion (λ h. IsModestExtent h.extent × (h.blocks ≤ m)) (map (held_of extent) is)
  held-modest k m [] h few = tt
  held-modest k m (i ∷ is) h few =
      let n = seats-long k i is in
      let s = item-small i in
      let le : length (offsets extent i) ≤ m = omega (arith, n, h) in (
        (record { least_w = omega (arith, s.least_w, le, few); most_w = omega (arith, s.most_w, le, few); least_h = omega (arith, s.least_h, le, few); most_h = omega (arith, s.most_h, le, few) }, le),
        held-modest (suc k) m is (omega (arith, n, h)) few,
      )

  -- the seats of items with at most 320 of them are modest
  seats-modest : (k m : ℕ) (is : List Item) → length (seats_from extent k is) ≤ m → m ≤ 320 → AllByRecursion (λ s. IsModestOffset s.offset) (seats_from extent k is)
  seats-modest k m [] h few = tt
  seats-modest k m (i ∷ is) h few =
      let n = seats-long k i is in
      let le : length (offsets extent i) ≤ m = omega (arith, n, h) in
      each-append (λ s. IsModestOffset s.offset) (map (seat_at k) (offsets extent i)) (seats_from extent (suc k) is)
      (each-map (λ s. IsModestOffset s.offset) (seat_at k) (offsets extent i)
      (each-weaker (IsSmallOffset (1048576 * length (offsets extent i))) IsModestOffset (λ o s. record { least_x = omega (arith, s.least_x, le, few); most_x = omega (arith, s.most_x, le, few); least_y = omega (arith, s.least_y, le, few); most_y = omega (arith, s.most_y, le, few) }) (offsets extent i) (offsets-small i)))
      (seats-modest (suc k) m is (omega (arith, n, h)) few)

  -- so is all that is laid out
  pub are-modest : (is : List Item) → length (seats_from extent 0 is) ≤ 320 → AreModest (map (held_of extent) is) (seats_from extent 0 is)
  are-modest is few =
      let n = length (seats_from extent 0 is) in
      let h = held-modest 0 n is (omega arith) few in
      record {
        extents = All-from_recursion (λ h. IsModestExtent h.extent) (map (held_of extent) is) (each-weaker (λ h. IsModestExtent h.extent × (h.blocks ≤ n)) (λ h. IsModestExtent h.extent) (λ x k. k.0) (map (held_of extent) is) h);
        blocks = All-from_recursion (λ h. h.blocks ≤ n) (map (held_of extent) is) (each-weaker (λ h. IsModestExtent h.extent × (h.blocks ≤ n)) (λ h. h.blocks ≤ n) (λ x k. k.1) (map (held_of extent) is) h);
        offsets = All-from_recursion (λ s. IsModestOffset s.offset) (seats_from extent 0 is) (seats-modest 0 n is (omega arith) few);
        few = few;
      }

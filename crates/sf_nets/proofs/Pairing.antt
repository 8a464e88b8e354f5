-- The greatest sum of two numbers, number by number.
use Rattle.std.proofs.Common.{◌≡◌, ℕ, ◌+◌, ◌<◌, ◌≤◌, max, List, [], ◌∷◌, ◌++◌, map, length, take, drop, append_assoc, append-nil, arith, refl, ap, sym, subst, ◌∙◌}
use Rattle.sf_nets.proofs.Common.{fold, Option, Some, None, IfSome, AllByRecursion, recursion_from_All, take-append-drop, each-left, Design, Pin, pin_number, pin_count, greatest_with, greatest_two, block_pins, greatest, Standing, IsNet, IsReady, standing_at, paired, pairs_pin, no_pair, paired_sides}
use Rattle.sf_model.specs.declared.parts.Pin.TheVariants as pin
use Rattle.sf_nets.specs.declared.pins.Pair.{Pair}
use Rattle.sf_nets.proofs.PinLoops.{standing_ready}

-- the greatest of some numbers, where there is one
abbrev most_of : List ℕ → Option ℕ
most_of [] = None
most_of (n ∷ ns) = Some (greatest (n ∷ ns))

-- the pair tells the greatest of the seen numbers, and the greatest sum of two of them
record IsPairOf (seen : List ℕ) (q : Pair) : Type 0 where
  most : q.most ≡ most_of seen
  sum : q.sum ≡ greatest_two seen

-- the greatest number with one more is the greater of both
greatest-push : (ns : List ℕ) (n : ℕ) → greatest (ns ++ n ∷ []) ≡ max (greatest ns) n
greatest-push [] n = omega arith
greatest-push (m ∷ ns) n = omega (arith, greatest-push ns n)

-- the greatest sum with m, with one number more, is the greater of that before and the sum with the new one
with-push : (m : ℕ) (ns : List ℕ) (n : ℕ) → greatest_with m (ns ++ n ∷ []) ≡ max (greatest_with m ns) (m + n)
with-push m [] n = omega arith
with-push m (k ∷ ns) n = omega (arith, with-push m ns n)

-- the greatest sum with one number more
two-push : (m : ℕ) (ns : List ℕ) (n : ℕ) → greatest_two (m ∷ ns ++ n ∷ []) ≡ max (greatest_two (m ∷ ns)) (greatest (m ∷ ns) + n)
two-push m [] n = omega arith
two-push m (k ∷ ns) n = omega (arith, with-push m (k ∷ ns) n, two-push k ns n)

-- a pair that tells of the seen numbers tells, with one number more, of all of them
pair-more : (seen : List ℕ) (q : Pair) (n : ℕ) → IsPairOf seen q → IsPairOf (seen ++ n ∷ []) (paired q.most q.sum n)
pair-more [] q n p =
    let e : n ≡ max n 0 = omega arith in
    subst (λ o. IsPairOf (n ∷ []) (paired o q.sum n)) (sym p.most) record { most = ap (λ k. Some k) e; sum = omega (arith, p.sum) }
pair-more (m ∷ ms) q n p =
    let g = greatest (m ∷ ms) in
    let e : max g n ≡ greatest ((m ∷ ms) ++ n ∷ []) = omega (arith, greatest-push (m ∷ ms) n) in
    subst (λ o. IsPairOf ((m ∷ ms) ++ n ∷ []) (paired o q.sum n)) (sym p.most) record { most = ap (λ k. Some k) e; sum = omega (arith, p.sum, two-push m ms n) }

module _ (table : List Standing) where
  -- the lesser sides of the pins' blocks
  abbrev sides : List Pin → List ℕ
  sides pins = map (λ b. (standing_at table b).side) (block_pins pins)

  -- a pair of the seen numbers, taken on by the pins, tells the greatest sum of two of all
  fold-pairs : (seen : List ℕ) (q : Pair) (pins : List Pin) → IsPairOf seen q → (fold (pairs_pin table) q pins).sum ≡ greatest_two (seen ++ sides pins)
  fold-pairs seen q [] p = p.sum ∙ ap greatest_two (sym (append-nil seen))
  fold-pairs seen q (pin.Block b ∷ pins) p =
      let n = (standing_at table b).side in
      fold-pairs (seen ++ n ∷ []) (paired q.most q.sum n) pins (pair-more seen q n p) ∙ ap greatest_two (append_assoc seen (n ∷ []) (sides pins))
  fold-pairs seen q (pin.Pad k ∷ pins) p = fold-pairs seen q pins p

  -- the pair of the pins tells the greatest sum of the lesser sides of two blocks
  pub pair_sum : (pins : List Pin) → (paired_sides table pins).sum ≡ greatest_two (map (λ b. (standing_at table b).side) (block_pins pins))
  pair_sum pins = fold-pairs [] no_pair pins record { most = refl; sum = refl }

-- the greatest is at most 2^20, and the sum at most 2^21
pub record IsSmallPair (q : Pair) : Type 0 where
  pub most : IfSome q.most (λ m. m ≤ 1048576)
  pub sum : q.sum ≤ 2097152

-- a small pair stays small with one small number more
paired-small : (o : Option ℕ) (sum n : ℕ) → n ≤ 1048576 → IfSome o (λ m. m ≤ 1048576) → sum ≤ 2097152 → IsSmallPair (paired o sum n)
paired-small None sum n h k s = record { most = h; sum = s }
paired-small (Some m) sum n h k s = record { most = omega (arith, h, k); sum = omega (arith, h, k, s) }

module _ (design : Design) (items : ℕ) (table : List Standing) (ready : IsReady design items table) where
  -- a small pair stays small as pins are taken
  pairs-small : (q : Pair) (pins : List Pin) → IsSmallPair q → AllByRecursion (λ p. pin_number p < pin_count (length design.blocks) (length design.pads) p) pins → IsSmallPair (fold (pairs_pin table) q pins)
  pairs-small q [] h all = h
  pairs-small q (pin.Block b ∷ pins) h all =
      pairs-small (paired q.most q.sum (standing_at table b).side) pins (paired-small q.most q.sum (standing_at table b).side (standing_ready design items table ready b all.0).side h.most h.sum) all.1
  pairs-small q (pin.Pad k ∷ pins) h all = pairs-small q pins h all.1

  -- at any point of the pass
  pub pairs_before : (pins : List Pin) (k : ℕ) → IsNet design pins → IsSmallPair (paired_sides table (take k pins))
  pairs_before pins k net =
      let there = λ (p : Pin). pin_number p < pin_count (length design.blocks) (length design.pads) p in
      pairs-small no_pair (take k pins) record { most = tt; sum = omega arith }
      (each-left there (take k pins) (drop k pins) (subst (AllByRecursion there) (sym (take-append-drop k pins)) (recursion_from_All there pins net)))

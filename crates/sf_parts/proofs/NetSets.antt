-- The set of the pins of a net: sorted, and without repeats.
use Rattle.std.proofs.Common.{◌≡◌, ℕ, ◌+◌, ◌<◌, ◌≤◌, ◌^◌, true, List, [], ◌∷◌, length, get_or, Option, Some, None, refl, ap, sym, subst, ◌∙◌, arith, eq-eqb}
use Rattle.sf_parts.proofs.Common.{All, AllPairs, Contains, list_any, filter_map, cons_option, IsPermutation, nat_tests, All-contains, list_any_at, Any-from_list_any, IsAdmitted, IsPinInRange, HasPinsInRange, design_pads, named_pins, pin_of, pin_number, pin_order, IsThere, IsNetMade, same_pin, Net, Pin, Parts, RawNet, All-permutation, Contains-permutation, IsPermutation-sym, length_permutation}
use Rattle.sf_model.specs.declared.parts.Pin.TheVariants as pin
use Rattle.sf_parts.proofs.Limited.{limits_kept}
use Rattle.sf_parts.proofs.PinsThere.{few_placed, pins_there}

-- a pin that is there has a number of 16 bits
small : (blocks pads : ℕ) (p : Pin) → blocks ≤ 2 ^ 16 → pads ≤ 2 ^ 16 → IsThere blocks pads p → pin_number p < 2 ^ 16
small blocks pads (pin.Block b) few_blocks few_pads there = omega arith
small blocks pads (pin.Pad p) few_blocks few_pads there = omega arith

-- pins with numbers of 16 bits and one order are the same
same_order : (p q : Pin) → pin_number p < 2 ^ 16 → pin_number q < 2 ^ 16 → pin_order p ≡ pin_order q → p ≡ q
same_order (pin.Block b) (pin.Block c) hp hq e = ap pin.Block e
same_order (pin.Block b) (pin.Pad c) hp hq e = absurd (omega arith)
same_order (pin.Pad b) (pin.Block c) hp hq e = absurd (omega arith)
same_order (pin.Pad b) (pin.Pad c) hp hq e = ap pin.Pad (let s : b ≡ c = omega arith in s)

-- pins that the test finds the same have one order
same_test : (p q : Pin) → same_pin p q ≡ true → pin_order p ≡ pin_order q
same_test p q h = grind (arith, nat_tests)

-- a pin of a list is in the list without repeats
found : (all set : List Pin) (p : Pin) → All (λ q. pin_number q < 2 ^ 16) all → All (Contains all) set → list_any (same_pin p) set ≡ list_any (same_pin p) all → Contains all p → Contains set p
found all set p low each same here =
    let any : list_any (same_pin p) all ≡ true = list_any_at (same_pin p) all here.0 p here.1 (ap (same_pin p) here.2 ∙ eq-eqb (pin_order p) (pin_order p) refl) in
    let w = Any-from_list_any (same_pin p) set (same ∙ any) in
    let q : Pin = w.1 in
    let in_set : Contains set q = (w.0, w.2, w.3) in
    let in_all : Contains all q = All-contains (Contains all) set q each in_set in
    let equal : p ≡ q = same_order p q (All-contains (λ r. pin_number r < 2 ^ 16) all p low here) (All-contains (λ r. pin_number r < 2 ^ 16) all q low in_all) (same_test p q w.4) in
    let P : Pin → Type 0 = λ r. Contains set r in
    subst P (sym equal) in_set

-- an item that may be there makes a list longer by one at most
kept_length : {Y : Type 0} (o : Option Y) (ys : List Y) → length (cons_option o ys) ≤ 1 + length ys
kept_length None ys = omega arith
kept_length (Some y) ys = omega arith

-- no more is kept of a list than it has
length_kept : {X Y : Type 0} (h : X → Option Y) (xs : List X) → length (filter_map h xs) ≤ length xs
length_kept h [] = omega arith
length_kept h (x ∷ xs) = omega (arith, kept_length (h x) (filter_map h xs), length_kept h xs)

-- the sorted pins of a net without repeats are its set
pub net_made : (parts : Parts) (read : RawNet) (net : Net) (all sorted : List Pin) → IsAdmitted parts → Contains parts.nets read → HasPinsInRange parts → all ≡ named_pins parts read.pins → IsPermutation all sorted → AllPairs (λ p q. pin_order p < pin_order q) net.pins → ((p : Pin) → list_any (same_pin p) net.pins ≡ list_any (same_pin p) sorted) → All (Contains sorted) net.pins → length net.pins ≤ length sorted → net.weight < 2 ^ 8 → IsNetMade parts read net
net_made parts read net all sorted admitted in_nets ranges named moved up same each few light =
    let limits = limits_kept parts admitted in
    let blocks = limits.few_blocks in
    let pads = limits.few_pads in
    let placed = few_placed parts in
    let here : All (IsPinInRange (length parts.blocks) (length parts.pads)) read.pins = All-contains (λ (n : RawNet). All (IsPinInRange (length parts.blocks) (length parts.pads)) n.pins) parts.nets read ranges in_nets in
    let of_names = pins_there parts read admitted in_nets here in
    let P : List Pin → Type 0 = λ ps. All (IsThere (length parts.blocks) (length (design_pads parts))) ps in
    let there : All (IsThere (length parts.blocks) (length (design_pads parts))) all = subst P (sym named) of_names in
    let back : (p : Pin) → Contains sorted p → Contains all p = λ p h. Contains-permutation sorted all p (IsPermutation-sym all sorted moved) h in
    let there_sorted = All-permutation (IsThere (length parts.blocks) (length (design_pads parts))) all sorted moved there in
    let low : All (λ q. pin_number q < 2 ^ 16) sorted = λ k d l. small (length parts.blocks) (length (design_pads parts)) (get_or sorted k d) (omega arith) (omega arith) (there_sorted k d l) in
    record {
      set = record {
        ascending = up;
        same = λ p. (
          λ h. subst (λ (ps : List Pin). Contains ps p) named (back p (All-contains (Contains sorted) net.pins p each h)),
          λ h. found sorted net.pins p low each (same p) (Contains-permutation all sorted p moved (subst (λ (ps : List Pin). Contains ps p) (sym named) h)),
        );
      };
      few = (let n = ap length named in omega (arith, length_permutation all sorted moved, length_kept (pin_of parts) read.pins));
      there = λ k d l. All-contains (IsThere (length parts.blocks) (length (design_pads parts))) sorted (get_or net.pins k d) there_sorted (each k d l);
      light = light;
    }

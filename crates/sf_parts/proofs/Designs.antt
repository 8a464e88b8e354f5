-- What is built from admitted parts is their design, and keeps the limits.
use Rattle.std.proofs.Common.{◌≡◌, ℕ, ◌<◌, ◌≤◌, ◌^◌, ℤ, nat_abs, Bool, true, false, IsTrue, cond, List, [], ◌∷◌, map, length, get_or, Option, Some, None, IfSome, refl, sym, ap, ◌∙◌, subst, arith}
use Rattle.sf_parts.proofs.Common.{All, AllByRecursion, AllZip, filter_map, sum_by, zip, ints, All-from_recursion, recursion_from_All, sum_by-cons, IsAdmitted, IsPlaceWithin, HasShapeChoices, IsDesignOf, IsNetOf, IsOutline, IsWeighted, design_blocks, design_pads, placed_pad, first_shapeless, IsCoordinate, IsPinSet, IsShapeList, IsWithinLimits, IsShapeChoice, IsNetMade, Design, Block, Net, Pad, Shape, Parts, RawBlock, RawNet, RawPad, no_paths, Outline, Weights}
use Rattle.sf_parts.proofs.Limited.{limits_kept}
use Rattle.sf_parts.proofs.Paired.{zip_length}
use Rattle.sf_parts.proofs.PinsThere.{all_kept, few_placed}

-- with one list for each there are as many blocks in the design as were read
length_blocks : (blocks : List RawBlock) (lists : List (List Shape)) → length lists ≡ length blocks → length (design_blocks blocks lists) ≡ length blocks
length_blocks [] lists same = refl
length_blocks (b ∷ bs) [] same = absurd (omega arith)
length_blocks (b ∷ bs) (l ∷ ls) same = omega (arith, length_blocks bs ls (omega arith))

-- each block of the design has a list of shapes, where no list is empty
shapes_fine : (blocks : List RawBlock) (lists : List (List Shape)) → first_shapeless blocks lists ≡ None → AllByRecursion IsShapeChoice lists → AllByRecursion (λ b. IsShapeList b.shapes) (design_blocks blocks lists)
shapes_fine [] lists none fine = tt
shapes_fine (b ∷ bs) [] none fine = tt
shapes_fine (b ∷ bs) ([] ∷ ls) none fine = cc
shapes_fine (b ∷ bs) ((s ∷ ss) ∷ ls) none fine =
    (record { some = omega arith; choice = fine.0 }, shapes_fine bs ls none fine.1)

-- a coordinate within the limit is that of a pad
coordinate_fits : (z : ℤ) → nat_abs z ≤ 2 ^ 20 → IsCoordinate z
coordinate_fits z h = (omega (arith, ints), omega (arith, ints))

-- both coordinates of the pad keep the limit
abbrev IsPadPlaced : Pad → Type 0
IsPadPlaced p = IsCoordinate p.x × IsCoordinate p.y

-- a pad at a place within the limit keeps it
pad_fits : (name : List ℕ) (o : Option (ℤ × ℤ)) → IsPlaceWithin o → IfSome (placed_pad (record { name = name; place = o })) IsPadPlaced
pad_fits name None h = tt
pad_fits name (Some at) h = (coordinate_fits at.0 h.0, coordinate_fits at.1 h.1)

-- all pads of the design keep the limit
places_fit : (on : Bool) (pads : List RawPad) → (IsTrue on → All (λ p. IsPlaceWithin p.place) pads) → All IsPadPlaced (cond on (filter_map placed_pad pads) [])
places_fit true pads h = all_kept IsPadPlaced placed_pad pads (λ k d low. pad_fits (get_or pads k d).name (get_or pads k d).place (h refl k d low))
places_fit false pads h = λ k d low. absurd (omega arith)

-- the nets that are made have no more pins than were read
pins_counted : (parts : Parts) (read : List RawNet) (nets : List Net) → AllZip (IsNetMade parts) read nets → sum_by (λ n. length n.pins) nets ≤ sum_by (λ n. length n.pins) read
pins_counted parts [] [] made = omega arith
pins_counted parts [] (n ∷ ns) made = absurd made
pins_counted parts (r ∷ rs) [] made = absurd made
pins_counted parts (r ∷ rs) (n ∷ ns) made =
    let few = made.0.few in
    omega (arith, pins_counted parts rs ns made.1, sum_by-cons (λ (m : Net). length m.pins) n ns, sum_by-cons (λ (m : RawNet). length m.pins) r rs)

-- the pins of each net that is made are a set
pin_sets : (parts : Parts) (read : List RawNet) (nets : List Net) → AllZip (IsNetMade parts) read nets → AllByRecursion (λ n. IsPinSet (length parts.blocks) (length (design_pads parts)) n.pins) nets
pin_sets parts [] [] made = tt
pin_sets parts [] (n ∷ ns) made = absurd made
pin_sets parts (r ∷ rs) [] made = tt
pin_sets parts (r ∷ rs) (n ∷ ns) made = (record { in_range = made.0.there; ascending = made.0.set.ascending }, pin_sets parts rs ns made.1)

-- the weight of each net that is made is one byte
nets_light : (parts : Parts) (read : List RawNet) (nets : List Net) → AllZip (IsNetMade parts) read nets → AllByRecursion (λ n. n.weight < 2 ^ 8) nets
nets_light parts [] [] made = tt
nets_light parts [] (n ∷ ns) made = absurd made
nets_light parts (r ∷ rs) [] made = tt
nets_light parts (r ∷ rs) (n ∷ ns) made = (made.0.light, nets_light parts rs ns made.1)

-- each net that is made is the one that was read
pub nets_are : (parts : Parts) (read : List RawNet) (nets : List Net) → AllZip (IsNetMade parts) read nets → AllByRecursion (λ n. IsNetOf parts n.0 n.1) (zip read nets)
nets_are parts [] nets made = tt
nets_are parts (r ∷ rs) [] made = tt
nets_are parts (r ∷ rs) (n ∷ ns) made = (made.0.set, nets_are parts rs ns made.1)

-- what is built from admitted parts keeps the limits
pub limits_hold : (parts : Parts) (lists : List (List Shape)) (outline : Outline) (weights : Weights) (blocks : List Block) (pads : List Pad) (nets : List Net) → IsAdmitted parts → HasShapeChoices parts.blocks lists → IsOutline outline → IsWeighted weights → first_shapeless parts.blocks lists ≡ None → blocks ≡ design_blocks parts.blocks lists → pads ≡ design_pads parts → AllZip (IsNetMade parts) parts.nets nets → weights.area < 2 ^ 16 → weights.wire < 2 ^ 16 → IsWithinLimits blocks pads nets outline weights
limits_hold parts lists outline weights blocks pads nets admitted choices sides weighted none of_blocks of_pads made area wire =
    let limits = limits_kept parts admitted in
    let some_block = limits.some_block in
    let few_blocks = limits.few_blocks in
    let few_pads = limits.few_pads in
    let few_nets = limits.few_nets in
    let few_pins = limits.few_pins in
    let n : length (design_blocks parts.blocks lists) ≡ length parts.blocks = length_blocks parts.blocks lists choices.one_each in
    let m : length nets ≡ length parts.nets = sym (zip_length (IsNetMade parts) parts.nets nets made) in
    let P : List Block → Type 0 = λ bs. IsWithinLimits bs pads nets outline weights in
    let Q : List Pad → Type 0 = λ ps. IsWithinLimits (design_blocks parts.blocks lists) ps nets outline weights in
    let R : ℕ → Type 0 = λ k. All (λ (net : Net). IsPinSet k (length (design_pads parts)) net.pins) nets in
    subst P (sym of_blocks) (subst Q (sym of_pads) (record {
      some_block = omega arith;
      few_blocks = omega arith;
      few_pads = omega (arith, few_placed parts);
      few_nets = omega arith;
      few_pins = omega (arith, pins_counted parts parts.nets nets made);
      shapes = All-from_recursion (λ (b : Block). IsShapeList b.shapes) (design_blocks parts.blocks lists) (shapes_fine parts.blocks lists none (recursion_from_All IsShapeChoice lists choices.fine));
      places = places_fit parts.pads_in parts.pads limits.places;
      pins = subst R (sym n) (All-from_recursion (λ (net : Net). IsPinSet (length parts.blocks) (length (design_pads parts)) net.pins) nets (pin_sets parts parts.nets nets made));
      net_weights = All-from_recursion (λ (net : Net). net.weight < 2 ^ 8) nets (nets_light parts parts.nets nets made);
      width = sides.0;
      height = sides.1;
      area_weight = area;
      wire_weight = wire;
      weighted = weighted;
    }))

-- what is built from parts is their design
pub is_design : (parts : Parts) (lists : List (List Shape)) (outline : Outline) (weights : Weights) (net_weights : List ℕ) (design : Design) → HasShapeChoices parts.blocks lists → design.blocks ≡ design_blocks parts.blocks lists → design.pads ≡ design_pads parts → AllZip (IsNetMade parts) parts.nets design.nets → design.outline ≡ outline → design.weights ≡ weights → map (λ n. n.weight) design.nets ≡ net_weights → design.area_floor ≡ 0 → design.routes.paths ≡ no_paths → IsDesignOf parts lists outline weights net_weights design
is_design parts lists outline weights net_weights design choices blocks pads made outline_is weights_are net_weights_are no_floor unrouted = record {
  block_count = ap (λ bs. length bs) blocks ∙ length_blocks parts.blocks lists choices.one_each;
  blocks = blocks;
  pads = pads;
  net_count = sym (zip_length (IsNetMade parts) parts.nets design.nets made);
  nets = All-from_recursion (λ (n : RawNet × Net). IsNetOf parts n.0 n.1) (zip parts.nets design.nets) (nets_are parts parts.nets design.nets made);
  outline_is = outline_is;
  weights_are = weights_are;
  net_weights_are = net_weights_are;
  no_floor = no_floor;
  unrouted = unrouted;
}

-- The pads that the nets of admitted parts name have a place, and a number below that of the placed pads.
use Rattle.std.proofs.Common.{◌≡◌, ℕ, zero, suc, ◌+◌, ◌<◌, ◌≤◌, ℤ, Bool, true, false, ◌&&◌, ◌||◌, cond, List, [], ◌∷◌, ◌++◌, length, take, get_or, Option, Some, None, is_some, is_none, IfSome, refl, ap, sym, ◌∙◌, arith, eq-eqb, option_map}
use Rattle.sf_parts.proofs.Common.{All, AllByRecursion, Contains, list_any, flat_map, filter_map, cons_option, count_by, All-from_recursion, recursion_from_All, Contains-get_or, list_any-append, list_any_at, sum_by-cons, sum_by-take-le, count_by_more_yes, count_by-le-length, first, unplaced_faults, missing_places, is_wired, is_index, block_of, pad_of, IsPinInRange, IsAdmitted, no_blocks, over_limits, name_faults, duplicates, unknowns, placed_pad, design_pads, pin_at, pin_of, named_pins, IsThere, BuildFault, Pad, Parts, RawBlock, RawNet, RawPad, RawPin, MissingPlace}
use Rattle.sf_model.specs.declared.parts.Pin.TheVariants as pin
use Rattle.sf_parts.specs.declared.raw.RawPin.TheVariants as raw
use Rattle.sf_parts.proofs.Limited.{right_none}
use Rattle.sf_parts.proofs.Tables.{place_within}

-- where no fault of places is left, the first pad has none: if it is in a net it has a place
unplaced_head : (o : Option (ℤ × ℤ)) (w : Bool) (f : BuildFault) (fs : List BuildFault) → first (cond (is_none o && w) (f ∷ fs) fs) ≡ None → (first fs ≡ None) × (w ≡ true → is_some o ≡ true)
unplaced_head (Some at) w f fs none = (none, λ e. refl)
unplaced_head None true f fs none = cc
unplaced_head None false f fs none = (none, λ e. cc)

-- where there is no fault of places, each pad that is in a net has one
unplaced_none : (wired : ℕ → Bool) (s : ℕ) (ps : List RawPad) → first (unplaced_faults wired s ps) ≡ None → (i : ℕ) (d : RawPad) (j : ℕ) → i < length ps → j ≡ s + i → wired j ≡ true → is_some (get_or ps i d).place ≡ true
unplaced_none wired s [] none i d j low e w = absurd (omega arith)
unplaced_none wired s (p ∷ ps) none zero d j low e w =
    let here : s ≡ j = omega arith in
    (unplaced_head p.place (wired s) (MissingPlace p.name) (unplaced_faults wired (s + 1) ps) none).1 (ap wired here ∙ w)
unplaced_none wired s (p ∷ ps) none (suc i) d j low e w =
    unplaced_none wired (s + 1) ps (unplaced_head p.place (wired s) (MissingPlace p.name) (unplaced_faults wired (s + 1) ps) none).0 i d j (omega arith) (omega arith) w

-- a test among all items of lists, list by list
any_flat : {X A : Type 0} (p : A → Bool) (f : X → List A) (xs : List X) → list_any p (flat_map f xs) ≡ list_any (λ x. list_any p (f x)) xs
any_flat p f [] = refl
any_flat p f (x ∷ xs) = list_any-append p (f x) (flat_map f xs) ∙ ap (λ b. list_any p (f x) || b) (any_flat p f xs)

-- a pad that a pin of a net stands for is in a net
wired_here : (parts : Parts) (net : RawNet) (rp : RawPin) (i : ℕ) → Contains parts.nets net → Contains net.pins rp → pad_of parts.pads rp ≡ Some i → is_wired parts i ≡ true
wired_here parts net rp i in_nets in_pins at =
    let test : RawPin → Bool = λ p. is_index i (pad_of parts.pads p) in
    let hit : test rp ≡ true = ap (is_index i) at ∙ eq-eqb i i refl in
    any_flat test (λ (n : RawNet). n.pins) parts.nets
    ∙ list_any_at (λ (n : RawNet). list_any test n.pins) parts.nets in_nets.0 net in_nets.1
    (ap (λ (n : RawNet). list_any test n.pins) in_nets.2 ∙ list_any_at test net.pins in_pins.0 rp in_pins.1 (ap test in_pins.2 ∙ hit))

-- admitted parts have no fault of places
no_missing : (parts : Parts) → IsAdmitted parts → first (missing_places parts) ≡ None
no_missing parts none = right_none (duplicates parts ++ unknowns parts) (missing_places parts) (right_none (no_blocks parts ++ over_limits parts) (name_faults parts) none)

-- a pad makes one pad of the design, where it has a place
placed_length : (o : Option (ℤ × ℤ)) (n : List ℕ) (qs : List Pad) → length (cons_option (option_map (λ (at : ℤ × ℤ). let q : Pad = record { name = n; x = at.0; y = at.1 } in q) o) qs) ≡ cond (is_some o) 1 0 + length qs
placed_length None n qs = omega arith
placed_length (Some at) n qs = omega arith

-- the pad has a place
abbrev has_place : RawPad → Bool
has_place p = is_some p.place

-- there are as many pads in the design as have a place
pub length_placed : (pads : List RawPad) → length (filter_map placed_pad pads) ≡ count_by (λ (p : RawPad). is_some p.place) pads
length_placed [] = refl
length_placed (p ∷ ps) = placed_length p.place p.name (filter_map placed_pad ps) ∙ ap (λ n. cond (is_some p.place) 1 0 + n) (length_placed ps) ∙ sym (sum_by-cons (λ (q : RawPad). cond (is_some q.place) 1 0) p ps)

-- where pads count or not, the design has no more than were read
few_when : (b : Bool) (pads : List RawPad) → length (cond b (filter_map placed_pad pads) []) ≤ length pads
few_when true pads = omega (arith, length_placed pads, count_by-le-length has_place pads)
few_when false pads = omega arith

-- the design has no more pads than were read
pub few_placed : (parts : Parts) → length (design_pads parts) ≤ length parts.pads
few_placed parts = few_when parts.pads_in parts.pads

-- the number of a pad with a place is below that of all such pads
number_below : (parts : Parts) (i : ℕ) (d : RawPad) → parts.pads_in ≡ true → i < length parts.pads → is_some (get_or parts.pads i d).place ≡ true → count_by (λ (p : RawPad). is_some p.place) (take i parts.pads) < length (design_pads parts)
number_below parts i d on low placed =
    let all : length (design_pads parts) ≡ length (filter_map placed_pad parts.pads) = ap (λ b. length (cond b (filter_map placed_pad parts.pads) [])) on in
    let one = count_by_more_yes has_place parts.pads i d low placed in
    let most = sum_by-take-le (λ (q : RawPad). cond (is_some q.place) 1 0) parts.pads (i + 1) in
    omega (arith, length_placed parts.pads)

-- the block of a pin is there
pub block_in_range : (parts : Parts) (rp : RawPin) → IsPinInRange (length parts.blocks) (length parts.pads) rp → IfSome (block_of parts.blocks rp) (λ i. i < length parts.blocks)
block_in_range parts (raw.Named n) h = place_within (λ (b : RawBlock). b.name) parts.blocks n (block_of parts.blocks (raw.Named n)) refl
block_in_range parts (raw.Block b) h = h
block_in_range parts (raw.Pad p) h = tt

-- the pad of a pin is there
pad_in_range : (parts : Parts) (rp : RawPin) → IsPinInRange (length parts.blocks) (length parts.pads) rp → IfSome (pad_of parts.pads rp) (λ i. i < length parts.pads)
pad_in_range parts (raw.Named n) h = place_within (λ (b : RawPad). b.name) parts.pads n (pad_of parts.pads (raw.Named n)) refl
pad_in_range parts (raw.Block b) h = tt
pad_in_range parts (raw.Pad p) h = h

-- where pads count, the pad at index i has a number among those of the design
abbrev HasNumber : Parts → ℕ → Type 0
HasNumber parts i = parts.pads_in ≡ true → count_by (λ (p : RawPad). is_some p.place) (take i parts.pads) < length (design_pads parts)

-- a pad for places past the end
no_pad : RawPad
no_pad = record { name = []; place = None }

-- the pad of a pin of admitted parts has a number among those of the design
number_there : (parts : Parts) (net : RawNet) (rp : RawPin) (o : Option ℕ) → IsAdmitted parts → Contains parts.nets net → Contains net.pins rp → pad_of parts.pads rp ≡ o → IfSome o (λ i. i < length parts.pads) → IfSome o (HasNumber parts)
number_there parts net rp None admitted in_nets in_pins at low = tt
number_there parts net rp (Some i) admitted in_nets in_pins at low = λ on.
    let none : first (cond parts.pads_in (unplaced_faults (is_wired parts) 0 parts.pads) []) ≡ None = no_missing parts admitted in
    let here : first (unplaced_faults (is_wired parts) 0 parts.pads) ≡ None = sym (ap (λ b. first (cond b (unplaced_faults (is_wired parts) 0 parts.pads) [])) on) ∙ none in
    number_below parts i no_pad on low (unplaced_none (is_wired parts) 0 parts.pads here i no_pad i low (omega arith) (wired_here parts net rp i in_nets in_pins at))

-- a pin of a pad with such a number stands for a pad of the design
pad_there : (on : Bool) (n blocks pads : ℕ) → (on ≡ true → n < pads) → IfSome (cond on (Some (pin.Pad n)) None) (IsThere blocks pads)
pad_there true n blocks pads h = h refl
pad_there false n blocks pads h = tt

-- what a block or a pad at these indices stands for is there
there_at : (parts : Parts) (b p : Option ℕ) → IfSome b (λ i. i < length parts.blocks) → IfSome p (HasNumber parts) → IfSome (pin_at parts b p) (IsThere (length parts.blocks) (length (design_pads parts)))
there_at parts (Some b) p hb hp = hb
there_at parts None (Some p) hb hp = pad_there parts.pads_in (count_by (λ (q : RawPad). is_some q.place) (take p parts.pads)) (length parts.blocks) (length (design_pads parts)) hp
there_at parts None None hb hp = tt

-- what holds of an item that may be there and of the others holds of all
kept : {Y : Type 0} (P : Y → Type 0) (o : Option Y) (ys : List Y) → IfSome o P → AllByRecursion P ys → AllByRecursion P (cons_option o ys)
kept P None ys here rest = rest
kept P (Some y) ys here rest = (here, rest)

-- what holds of what each element becomes holds of all that is kept, by recursion
each_kept : {X Y : Type 0} (P : Y → Type 0) (h : X → Option Y) (xs : List X) → AllByRecursion (λ x. IfSome (h x) P) xs → AllByRecursion P (filter_map h xs)
each_kept P h [] a = tt
each_kept P h (x ∷ xs) a = kept P (h x) (filter_map h xs) a.0 (each_kept P h xs a.1)

-- what each element that is kept becomes
pub all_kept : {X Y : Type 0} (P : Y → Type 0) (h : X → Option Y) (xs : List X) → All (λ x. IfSome (h x) P) xs → All P (filter_map h xs)
all_kept P h xs a = All-from_recursion P (filter_map h xs) (each_kept P h xs (recursion_from_All (λ x. IfSome (h x) P) xs a))

-- each pin of a net stands for a block or a pad of the design
pub pins_there : (parts : Parts) (net : RawNet) → IsAdmitted parts → Contains parts.nets net → All (IsPinInRange (length parts.blocks) (length parts.pads)) net.pins → All (IsThere (length parts.blocks) (length (design_pads parts))) (named_pins parts net.pins)
pins_there parts net admitted in_nets ranges =
    all_kept (IsThere (length parts.blocks) (length (design_pads parts))) (pin_of parts) net.pins
    (λ k d low. there_at parts (block_of parts.blocks (get_or net.pins k d)) (pad_of parts.pads (get_or net.pins k d)) (block_in_range parts (get_or net.pins k d) (ranges k d low))
    (number_there parts net (get_or net.pins k d) (pad_of parts.pads (get_or net.pins k d)) admitted in_nets (Contains-get_or net.pins k d low) refl (pad_in_range parts (get_or net.pins k d) (ranges k d low))))

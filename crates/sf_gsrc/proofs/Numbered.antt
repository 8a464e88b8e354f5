-- A numbered pin is of the block and of the pad of the pin that was read, so numbers change no fault of the parts.
use Rattle.std.proofs.Common.{◌≡◌, ℕ, ◌+◌, ◌<◌, Bool, true, false, ◌&&◌, ◌||◌, cond, map, length, List, [], ◌∷◌, ◌++◌, Option, Some, None, is_some, is_none, refl, ap, sym, ◌∙◌}
use Rattle.sf_gsrc.proofs.Common.{IfSome, flat_map, sum_by, All, list_any, bytes_eq, length-map, All-map, All-weaker, RawBlock, RawNet, RawPad, RawPin, IsPinInRange, at_pin_name, at_pin_names, block_names, block_of, first_refusal, if_both, if_neither, is_block_name, is_index, is_pad_name, is_wired, missing_places, pad_names, pad_of, unplaced_faults, by_number, has_numbers, numbered, numbered_net, numbered_nets, numbered_pin, sum_by-cons, Parts, place_within, position_any}
use Rattle.sf_parts.specs.declared.fault.BuildFault.{BuildFault}
use Rattle.sf_parts.specs.declared.fault.BuildFault.TheVariants as fault
use Rattle.sf_parts.specs.declared.raw.RawPin.TheVariants as raw

-- ---- one pin

-- a pin by its number stands for the pad that was found of it, if one was
pad_by : (pads : List RawPad) (b p : Option ℕ) (pin : RawPin) → pad_of pads pin ≡ p → pad_of pads (by_number b p pin) ≡ p
pad_by pads (Some b) None pin e = refl
pad_by pads (Some b) (Some p) pin e = e
pad_by pads None (Some p) pin e = refl
pad_by pads None None pin e = e

-- a pin by its number stands for the same pad as by its name
pub same_pad : (blocks : List RawBlock) (pads : List RawPad) (pin : RawPin) → pad_of pads (numbered_pin blocks pads pin) ≡ pad_of pads pin
same_pad blocks pads pin = pad_by pads (block_of blocks pin) (pad_of pads pin) pin refl

-- a name of one of them alone has neither of these faults
both_by : (parts : Parts) (n : List ℕ) (b p : Option ℕ) → is_some b ≡ is_block_name parts n → is_some p ≡ is_pad_name parts n
    → at_pin_name (if_both parts) (by_number b p (raw.Named n)) ≡ if_both parts n
both_by parts n (Some b) None e f = rw (← e, ← f) refl
both_by parts n (Some b) (Some p) e f = refl
both_by parts n None (Some p) e f = rw (← e) refl
both_by parts n None None e f = refl

-- a pin by its number has the fault of a name that is of neither just where the name has it
neither_by : (parts : Parts) (n : List ℕ) (b p : Option ℕ) → is_some b ≡ is_block_name parts n → is_some p ≡ is_pad_name parts n
    → at_pin_name (if_neither parts) (by_number b p (raw.Named n)) ≡ if_neither parts n
neither_by parts n (Some b) None e f = rw (← e) refl
neither_by parts n (Some b) (Some p) e f = refl
neither_by parts n None (Some p) e f = rw (← e, ← f) refl
neither_by parts n None None e f = refl

-- numbers change no fault of a name that is of a block and of a pad
both_same : (parts : Parts) (pin : RawPin) → at_pin_name (if_both parts) (numbered_pin parts.blocks parts.pads pin) ≡ at_pin_name (if_both parts) pin
both_same parts (raw.Named n) = both_by parts n (block_of parts.blocks (raw.Named n)) (pad_of parts.pads (raw.Named n)) (position_any (bytes_eq n) 0 (block_names parts.blocks)) (position_any (bytes_eq n) 0 (pad_names parts.pads))
both_same parts (raw.Block b) = refl
both_same parts (raw.Pad p) = refl

-- numbers change no fault of a name that is of neither
neither_same : (parts : Parts) (pin : RawPin) → at_pin_name (if_neither parts) (numbered_pin parts.blocks parts.pads pin) ≡ at_pin_name (if_neither parts) pin
neither_same parts (raw.Named n) = neither_by parts n (block_of parts.blocks (raw.Named n)) (pad_of parts.pads (raw.Named n)) (position_any (bytes_eq n) 0 (block_names parts.blocks)) (position_any (bytes_eq n) 0 (pad_names parts.pads))
neither_same parts (raw.Block b) = refl
neither_same parts (raw.Pad p) = refl

-- ---- all pins

-- where a change of each element changes nothing of what it gives, the list gives the same
flat_same : {X Y : Type 0} (f : X → X) (g : X → List Y) → ((x : X) → g (f x) ≡ g x) → (xs : List X) → flat_map g (map f xs) ≡ flat_map g xs
flat_same f g same [] = refl
flat_same {X} {Y} f g same (x ∷ xs) = ap (λ (ys : List Y). ys ++ flat_map g (map f xs)) (same x) ∙ ap (λ (ys : List Y). g x ++ ys) (flat_same f g same xs)

-- a fault of pins' names that numbers do not change at a pin they change nowhere
names_same : (parts : Parts) (h : List ℕ → List BuildFault) → ((pin : RawPin) → at_pin_name h (numbered_pin parts.blocks parts.pads pin) ≡ at_pin_name h pin)
    → at_pin_names h (map (numbered_net parts.blocks parts.pads) parts.nets) ≡ at_pin_names h parts.nets
names_same parts h same =
    flat_same (numbered_net parts.blocks parts.pads) (λ (n : RawNet). flat_map (at_pin_name h) n.pins)
    (λ n. flat_same (numbered_pin parts.blocks parts.pads) (at_pin_name h) same n.pins) parts.nets

-- a test that a change does not touch holds of some element just as before
any_same : {X : Type 0} (f : X → X) (q : X → Bool) → ((x : X) → q (f x) ≡ q x) → (xs others rest : List X) → list_any q others ≡ list_any q rest → list_any q (map f xs ++ others) ≡ list_any q (xs ++ rest)
any_same f q same [] others rest h = h
any_same f q same (x ∷ xs) others rest h = ap (λ b. b || list_any q (map f xs ++ others)) (same x) ∙ ap (λ b. q x || b) (any_same f q same xs others rest h)

-- numbers do not change which pads stand in a net
wired_in : (blocks : List RawBlock) (pads : List RawPad) (i : ℕ) (nets : List RawNet)
    → list_any (λ p. is_index i (pad_of pads p)) (flat_map (λ (n : RawNet). n.pins) (map (numbered_net blocks pads) nets)) ≡ list_any (λ p. is_index i (pad_of pads p)) (flat_map (λ (n : RawNet). n.pins) nets)
wired_in blocks pads i [] = refl
wired_in blocks pads i (n ∷ nets) =
    any_same (numbered_pin blocks pads) (λ p. is_index i (pad_of pads p)) (λ p. ap (is_index i) (same_pad blocks pads p)) n.pins _ _ (wired_in blocks pads i nets)

-- two tests that agree find the same pads without a place
unplaced_same : (now was : ℕ → Bool) → ((i : ℕ) → now i ≡ was i) → (i : ℕ) (pads : List RawPad) → unplaced_faults now i pads ≡ unplaced_faults was i pads
unplaced_same now was same i [] = refl
unplaced_same now was same i (p ∷ ps) =
    ap (λ b. cond (is_none p.place && b) (fault.MissingPlace p.name ∷ unplaced_faults now (i + 1) ps) (unplaced_faults now (i + 1) ps)) (same i)
    ∙ ap (λ (l : List BuildFault). cond (is_none p.place && was i) (fault.MissingPlace p.name ∷ l) l) (unplaced_same now was same (i + 1) ps)

-- numbers do not change how many pins the nets have
sum_same : (blocks : List RawBlock) (pads : List RawPad) (nets : List RawNet) → sum_by (λ (n : RawNet). length n.pins) (map (numbered_net blocks pads) nets) ≡ sum_by (λ (n : RawNet). length n.pins) nets
sum_same blocks pads [] = refl
sum_same blocks pads (n ∷ nets) =
    let size : RawNet → ℕ = λ m. length m.pins in
    sum_by-cons size (numbered_net blocks pads n) (map (numbered_net blocks pads) nets)
    ∙ ap (λ k. k + sum_by size (map (numbered_net blocks pads) nets)) (length-map n.pins (numbered_pin blocks pads))
    ∙ ap (λ k. length n.pins + k) (sum_same blocks pads nets)
    ∙ sym (sum_by-cons size n nets)

-- ---- the parts

-- the parts with each pin by its number
abbrev with_numbers : Parts → Parts
with_numbers parts = record parts { nets = map (numbered_net parts.blocks parts.pads) parts.nets }

-- numbers change no pad without a place
missing_same : (parts : Parts) → missing_places (with_numbers parts) ≡ missing_places parts
missing_same parts =
    ap (λ (l : List BuildFault). cond parts.pads_in l [])
    (unplaced_same (is_wired (with_numbers parts)) (is_wired parts) (λ i. wired_in parts.blocks parts.pads i parts.nets) 0 parts.pads)

-- numbers change no first fault
faults_same : (parts : Parts) → first_refusal (with_numbers parts) ≡ first_refusal parts
faults_same parts = rw (
  length-map parts.nets (numbered_net parts.blocks parts.pads),
  sum_same parts.blocks parts.pads parts.nets,
  names_same parts (if_both parts) (both_same parts),
  names_same parts (if_neither parts) (neither_same parts),
  missing_same parts,
) refl

-- the same fault is answered first, or none
pub refusal_same : (parts : Parts) → first_refusal (numbered parts) ≡ first_refusal parts
refusal_same parts =
    elim (has_numbers parts.blocks parts.pads) as (λ b. first_refusal (record parts { nets = cond b (map (numbered_net parts.blocks parts.pads) parts.nets) parts.nets }) ≡ first_refusal parts) [ true ↦ faults_same parts | false ↦ refl ]

-- ---- pins in range

-- a pin is in range by its number where the block or the pad that was found is
in_range_by : (blocks pads : ℕ) (b p : Option ℕ) (pin : RawPin) → IfSome b (λ i. i < blocks) → IfSome p (λ i. i < pads) → IsPinInRange blocks pads pin → IsPinInRange blocks pads (by_number b p pin)
in_range_by blocks pads (Some b) None pin h k was = h
in_range_by blocks pads (Some b) (Some p) pin h k was = was
in_range_by blocks pads None (Some p) pin h k was = k
in_range_by blocks pads None None pin h k was = was

-- a pin by its number is in range where the pin was
pin_in_range : (blocks : List RawBlock) (pads : List RawPad) (pin : RawPin) → IsPinInRange (length blocks) (length pads) pin → IsPinInRange (length blocks) (length pads) (numbered_pin blocks pads pin)
pin_in_range blocks pads (raw.Named n) was =
    in_range_by (length blocks) (length pads) (block_of blocks (raw.Named n)) (pad_of pads (raw.Named n)) (raw.Named n)
    (place_within (λ (b : RawBlock). b.name) blocks n _ refl) (place_within (λ (p : RawPad). p.name) pads n _ refl) was
pin_in_range blocks pads (raw.Block b) was = was
pin_in_range blocks pads (raw.Pad p) was = was

-- where a change keeps what is said of an element, it keeps it of all
mapped : {X : Type 0} (P : X → Type 0) (f : X → X) → ((x : X) → P x → P (f x)) → (xs : List X) → All P xs → All P (map f xs)
mapped P f keeps xs h = All-map P f xs (All-weaker P (λ x. P (f x)) keeps xs h)

-- the pins of nets stay in range with their numbers
pub nets_in_range_still : (blocks : List RawBlock) (pads : List RawPad) (nets : List RawNet) → All (λ (n : RawNet). All (IsPinInRange (length blocks) (length pads)) n.pins) nets
    → All (λ (n : RawNet). All (IsPinInRange (length blocks) (length pads)) n.pins) (numbered_nets blocks pads nets)
nets_in_range_still blocks pads nets h =
    let P : RawNet → Type 0 = λ n. All (IsPinInRange (length blocks) (length pads)) n.pins in
    elim (has_numbers blocks pads) as (λ b. All P (cond b (map (numbered_net blocks pads) nets) nets)) [
      | true ↦ mapped P (numbered_net blocks pads) (λ n was. mapped (IsPinInRange (length blocks) (length pads)) (numbered_pin blocks pads) (pin_in_range blocks pads) n.pins was) nets h
      | false ↦ h
    ]

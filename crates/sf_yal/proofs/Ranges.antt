-- Blocks have sizes, and pins are of blocks and pads that are there.
use Rattle.std.proofs.Common.{◌≡◌, inl, inr, ℕ, ◌+◌, ◌≤◌, ◌<◌, List, [], ◌∷◌, length, map, Option, Some, None, ap, sym, subst, ◌∙◌, arith, All}
use Rattle.sf_yal.proofs.Common.{IfSome, AllZip, cases_Bool, length-map, RawBlock, RawNet, RawPad, RawPin, Parts, index_of, has_name, IsBlockOf, Instance, Module, modules, pads_of, instances_of, block_pins, pad_pins, net_of, signals_of, StandsFor, All-nil, All-cons, All-append, index_bound}
use Rattle.std.proofs.lemmas.Slice.Zip.{AllZip-long}
use Rattle.sf_parts.specs.Admitted.{IsPinInRange, IsSized, HasSizes, HasPinsInRange}
use Rattle.sf_parts.specs.declared.raw.RawPin.TheVariants as pins

-- ---- sizes

-- blocks have the sides of boxes
blocks_sized : (scale : ℕ) (all : List Module) (parent : ℕ) (instances : List Instance) (blocks : List RawBlock) → AllZip (IsBlockOf scale all parent) instances blocks → All (λ b. IsSized b.kind) blocks
blocks_sized scale all parent [] [] each = All-nil (λ (b : RawBlock). IsSized b.kind)
blocks_sized scale all parent [] (b ∷ blocks) each = absurd each
blocks_sized scale all parent (i ∷ instances) [] each = absurd each
blocks_sized scale all parent (i ∷ instances) (b ∷ blocks) each =
    All-cons (λ (b : RawBlock). IsSized b.kind) b blocks (subst (λ (b : RawBlock). IsSized b.kind) (sym each.0.block_is) (each.0.wide, each.0.high)) (blocks_sized scale all parent instances blocks each.1)

-- the blocks of a text have sizes
pub parts_sized : (scale : ℕ) (text : List ℕ) (out : Parts) → StandsFor scale text out → HasSizes out
parts_sized scale text out s = blocks_sized scale (modules s.cut) s.parent (instances_of s.cut) out.blocks s.blocks

-- ---- pins

module _ (blocks pads : ℕ) (signal : List ℕ) where
  -- the pins are of so many blocks and pads
  abbrev InRange : List RawPin → Type 0
  InRange some = All (IsPinInRange blocks pads) some

  -- the pins of instances are of blocks
  block_pins_in_range : (n : ℕ) (uses : List (List (List ℕ))) → n + length uses ≤ blocks → InRange (block_pins signal n uses)
  block_pins_in_range n [] few = All-nil (IsPinInRange blocks pads)
  block_pins_in_range n (signals ∷ more) few =
      let rest = block_pins_in_range (n + 1) more (omega arith) in
      elim (cases_Bool (has_name signal signals)) [ inl e ↦ rw e (All-cons (IsPinInRange blocks pads) (pins.Block n) (block_pins signal (n + 1) more) (omega arith) rest) | inr e ↦ rw e rest ]

  -- that of a pad is of a pad
  pad_pins_in_range : (o : Option ℕ) → IfSome o (λ k. k < pads) → InRange (pad_pins o)
  pad_pins_in_range None h = All-nil (IsPinInRange blocks pads)
  pad_pins_in_range (Some k) h = All-cons (IsPinInRange blocks pads) (pins.Pad k) [] h (All-nil (IsPinInRange blocks pads))

-- the pins of nets are of blocks and pads
nets_in_range : (uses : List (List (List ℕ))) (pad_names : List (List ℕ)) (signals : List (List ℕ)) → All (λ n. All (IsPinInRange (length uses) (length pad_names)) n.pins) (map (net_of uses pad_names) signals)
nets_in_range uses pad_names [] = All-nil (λ (n : RawNet). All (IsPinInRange (length uses) (length pad_names)) n.pins)
nets_in_range uses pad_names (signal ∷ signals) =
    All-cons (λ (n : RawNet). All (IsPinInRange (length uses) (length pad_names)) n.pins) (net_of uses pad_names signal) (map (net_of uses pad_names) signals)
    (All-append (IsPinInRange (length uses) (length pad_names)) (block_pins signal 0 uses) (pad_pins (index_of signal pad_names))
    (block_pins_in_range (length uses) (length pad_names) signal 0 uses (omega arith))
    (pad_pins_in_range (length uses) (length pad_names) signal (index_of signal pad_names) (index_bound signal pad_names)))
    (nets_in_range uses pad_names signals)

-- the pins of a text are of its blocks and pads
pub parts_in_range : (scale : ℕ) (text : List ℕ) (out : Parts) → StandsFor scale text out → HasPinsInRange out
parts_in_range scale text out s =
    let uses : List (List (List ℕ)) = map (λ i. i.signals) (instances_of s.cut) in
    let pad_names : List (List ℕ) = map (λ p. p.name) (pads_of scale s.cut) in
    let blocks : length out.blocks ≡ length uses = AllZip-long (IsBlockOf scale (modules s.cut) s.parent) (instances_of s.cut) out.blocks s.blocks ∙ sym (length-map (instances_of s.cut) (λ (i : Instance). i.signals)) in
    let pads : length out.pads ≡ length pad_names = ap length s.pads ∙ sym (length-map (pads_of scale s.cut) (λ (p : RawPad). p.name)) in
    rw (blocks, pads, s.nets) (nets_in_range uses pad_names (signals_of uses))

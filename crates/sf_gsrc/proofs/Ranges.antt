-- The pins of a nets file are named, and joining keeps blocks and nets.
use Rattle.std.proofs.Common.{◌≡◌, ℕ, true, false, List, [], ◌∷◌, length, map, Option, Some, None, Ok, refl, cond, ap, subst, ◌∙◌}
use Rattle.sf_gsrc.proofs.Common.{IfSome, All, length-map, All-nil, All-cons, All-same, RawBlock, RawNet, RawPad, Named, IsPinInRange, IsSized, HasSizes, HasPinsInRange, GsrcBlocks, net_of, NetsStandFor, first_twice, has_numbers, joined, names_of, nets_in, numbered, numbered_net, numbered_nets, placed_once, placed_parts, unplaced_parts, Parts, JoinFault, GsrcNets, GsrcPlaces}
use Rattle.sf_gsrc.specs.declared.fault.JoinFault.TheVariants as faults
use Rattle.sf_gsrc.specs.Ranges.{HasPinsInAnyRange}
use Rattle.sf_gsrc.proofs.Numbered.{nets_in_range_still}
use Rattle.sf_gsrc.proofs.Results.{ok_is, err_not_ok}

-- ---- named pins

-- what holds of each that is made of an element holds of a list of them
all_made : {X Y : Type 0} (P : Y → Type 0) (f : X → Y) → ((x : X) → P (f x)) → (xs : List X) → All P (map f xs)
all_made P f each [] = All-nil P
all_made P f each (x ∷ xs) = All-cons P (f x) (map f xs) (each x) (all_made P f each xs)

-- the nets for which a text stands are in any range
pub nets_named : (text : List ℕ) (out : GsrcNets) → NetsStandFor text out → HasPinsInAnyRange out.nets
nets_named text out s = record {
  in_range = λ blocks pads.
      All-same (λ (n : RawNet). All (IsPinInRange blocks pads) n.pins) out.nets (map net_of s.names) s.nets
      (all_made (λ (n : RawNet). All (IsPinInRange blocks pads) n.pins) net_of (λ names. all_made (IsPinInRange blocks pads) Named (λ name. tt) names) s.names);
}

-- ---- joined parts

-- the parts have the blocks and the nets of the files, with numbered pins
pub record Keeps (blocks : GsrcBlocks) (nets : List RawNet) (parts : Parts) : Type 0 where
  pub blocks_are : parts.blocks ≡ blocks.blocks
  pub nets_are : parts.nets ≡ numbered_nets parts.blocks parts.pads nets

-- parts with no name placed twice keep what was made
placed_keep : (blocks : GsrcBlocks) (nets : List RawNet) (made parts : Parts) (twice : Option (List ℕ)) → placed_once twice made ≡ Ok parts → Keeps blocks nets made → Keeps blocks nets parts
placed_keep blocks nets made parts None e k = subst (λ (p : Parts). Keeps blocks nets p) (ok_is {E = JoinFault} made parts e) k
placed_keep blocks nets made parts (Some name) e k = absurd (err_not_ok (faults.PlacedTwice name) parts e)

-- what is joined keeps the blocks and the nets
pub joined_keep : (blocks : GsrcBlocks) (nets : Option GsrcNets) (places : Option GsrcPlaces) (parts : Parts) → joined blocks nets places ≡ Ok parts → Keeps blocks (nets_in nets) parts
joined_keep blocks nets None parts e =
    placed_keep blocks (nets_in nets) (numbered (unplaced_parts blocks (nets_in nets))) parts None e (record { blocks_are = refl; nets_are = refl })
joined_keep blocks nets (Some places) parts e =
    placed_keep blocks (nets_in nets) (numbered (placed_parts blocks (nets_in nets) places.places)) parts (first_twice (names_of places.places)) e (record { blocks_are = refl; nets_are = refl })

-- what is joined of sized blocks has sizes
pub joined_sizes : (blocks : GsrcBlocks) (nets : Option GsrcNets) (places : Option GsrcPlaces) (parts : Parts) → joined blocks nets places ≡ Ok parts
    → All (λ b. IsSized b.kind) blocks.blocks → HasSizes parts
joined_sizes blocks nets places parts e sizes = All-same (λ (b : RawBlock). IsSized b.kind) parts.blocks blocks.blocks (joined_keep blocks nets places parts e).blocks_are sizes

-- nets in any range are in it where there is a file of them, and where there is none
some_nets : (nets : Option GsrcNets) → IfSome nets (λ out. HasPinsInAnyRange out.nets) → HasPinsInAnyRange (nets_in nets)
some_nets None h = record { in_range = λ blocks pads. All-nil (λ (n : RawNet). All (IsPinInRange blocks pads) n.pins) }
some_nets (Some out) h = h

-- what is joined of nets in any range has its pins in range
pub joined_pins : (blocks : GsrcBlocks) (nets : Option GsrcNets) (places : Option GsrcPlaces) (parts : Parts) → joined blocks nets places ≡ Ok parts
    → IfSome nets (λ out. HasPinsInAnyRange out.nets) → HasPinsInRange parts
joined_pins blocks nets places parts e h =
    All-same (λ (n : RawNet). All (IsPinInRange (length parts.blocks) (length parts.pads)) n.pins) parts.nets (numbered_nets parts.blocks parts.pads (nets_in nets)) (joined_keep blocks nets places parts e).nets_are
    (nets_in_range_still parts.blocks parts.pads (nets_in nets) ((some_nets nets h).in_range (length parts.blocks) (length parts.pads)))

-- numbers do not change how many nets there are
numbered_count : (blocks : List RawBlock) (pads : List RawPad) (nets : List RawNet) → length (numbered_nets blocks pads nets) ≡ length nets
numbered_count blocks pads nets =
    elim (has_numbers blocks pads) as (λ b. length (cond b (map (numbered_net blocks pads) nets) nets) ≡ length nets) [ true ↦ length-map nets (numbered_net blocks pads) | false ↦ refl ]

-- what is joined has as many nets as the file of nets
pub joined_nets : (blocks : GsrcBlocks) (nets : Option GsrcNets) (places : Option GsrcPlaces) (parts : Parts) → joined blocks nets places ≡ Ok parts → length parts.nets ≡ length (nets_in nets)
joined_nets blocks nets places parts e = ap length (joined_keep blocks nets places parts e).nets_are ∙ numbered_count parts.blocks parts.pads (nets_in nets)

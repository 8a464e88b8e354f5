-- The parts, once all are made.
use Rattle.std.proofs.Common.{◌≡◌, ℕ, List, [], ◌∷◌, Ok, refl, sym}
use Rattle.sf_yal.proofs.Common.{map, Some, true, RawBlock, RawPad, RawNet, instances_in, Reading, nets_of, blocks_from, parts_by, signals_in}
use Rattle.sf_yal.specs.declared.instance.Instance as code

-- the signals that are kept are those of the instances
pub signals_are : (items : List code.Instance) → signals_in items ≡ map (λ i. i.signals) (instances_in items)
signals_are [] = refl
signals_are (i ∷ items) = rw (signals_are items) refl

-- the parts that are read are made of these
pub parts_are : (r : Reading) (parent : ℕ) (found blocks : List RawBlock) (pads : List RawPad) (nets : List RawNet) (strangers : List (List ℕ))
    → blocks_from r.names r.sizes parent [] r.instances ≡ Ok found → blocks ≡ found → pads ≡ r.pads → nets ≡ nets_of (map (λ i. i.signals) r.instances) r.pad_names → strangers ≡ []
    → parts_by r (Some parent) ≡ Ok (record { blocks = blocks; pads = pads; nets = nets; strangers = strangers; pads_in = true })
parts_are r parent found blocks pads nets strangers read b p n s =
    rw read (λ i. Ok (record { blocks = sym b i; pads = sym p i; nets = sym n i; strangers = sym s i; pads_in = true }))

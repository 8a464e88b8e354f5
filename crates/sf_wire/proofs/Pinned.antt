-- The pins of the nets of a design are blocks and pads of it.
use Rattle.std.proofs.Common.{◌≡◌, ℕ, suc, ◌<◌, List, ◌∷◌, length, get_or, subst, sym, arith, ap}
use Rattle.sf_model.specs.declared.parts.Net.{Net}
use Rattle.sf_wire.proofs.Common.{Pin, IsThere, Design}
use Rattle.sf_model.specs.Legal.{block_count}
use Rattle.sf_wire.specs.Nets.{HasPins}

-- the pins of a net of the design are its blocks and pads
pub net_pins : (design : Design) (n : ℕ) (net : Net) → n < length design.nets → net ≡ get_or design.nets n net → HasPins design net
net_pins design n net h e = subst (HasPins design) (sym e) (design.limits.pins n net h).in_range

-- so is each pin after the first
pub later_pin : (design : Design) (net : Net) (first : Pin) (others : List Pin) → HasPins design net → net.pins ≡ first ∷ others → (k : ℕ) (d : Pin) → k < length others → IsThere (block_count design) (length design.pads) (get_or others k d)
later_pin design net first others a e k d h =
    let P : List Pin → Type 0 = λ pins. IsThere (block_count design) (length design.pads) (get_or pins (suc k) d) in
    subst P e (a (suc k) d (omega (arith, h, ap length e)))

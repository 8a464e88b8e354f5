-- The parts that are joined.
use Rattle.std.proofs.Common.{◌≡◌, ℕ, true, List, [], ◌∷◌, map, Option, Some, None, Ok, refl, sym, ap, ◌∙◌}
use Rattle.sf_gsrc.proofs.Common.{RawPad, RawNet, GsrcBlocks, Place, pads_at, strangers_of, placed_once, placed_parts, pads_once, JoinFault}
use Rattle.sf_gsrc.specs.declared.fault.JoinFault.TheVariants as faults
use Rattle.sf_gsrc.proofs.Results.{ok_is, err_not_ok}

-- a pad that is placed keeps its name
names-pads_at : (places : List Place) (pads : List (List ℕ)) → map (λ p. p.name) (pads_at places pads) ≡ pads
names-pads_at places [] = refl
names-pads_at places (name ∷ pads) = ap (λ (ns : List (List ℕ)). name ∷ ns) (names-pads_at places pads)

-- pads and strangers as they were found are the parts, whether a name is placed twice or not
pub joined_by : (out : GsrcBlocks) (nets : List RawNet) (places : List Place) (pads : List RawPad) (strangers : List (List ℕ)) (twice : Option (List ℕ)) → pads_once twice (pads_at places out.pads) ≡ Ok pads
    → strangers ≡ strangers_of out.blocks (map (λ p. p.name) pads) places
    → placed_once twice (placed_parts out nets places) ≡ Ok (record { blocks = out.blocks; pads = pads; nets = nets; strangers = strangers; pads_in = true })
joined_by out nets places pads strangers (Some name) placed others = absurd (err_not_ok (faults.PlacedTwice name) pads placed)
joined_by out nets places pads strangers None placed others =
    let same : pads_at places out.pads ≡ pads = ok_is {E = JoinFault} (pads_at places out.pads) pads placed in
    let names : map (λ p. p.name) pads ≡ out.pads = ap (λ (ps : List RawPad). map (λ p. p.name) ps) (sym same) ∙ names-pads_at places out.pads in
    rw (others, names, ← same) refl

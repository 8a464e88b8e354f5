-- The parts that the texts are joined to.
use Rattle.std.proofs.Common.{◌≡◌, ℕ, Bool, true, false, List, [], refl, ap, ◌||◌}
use Rattle.sf_gen.proofs.Common.{not, map, Some, Ok, codes, RawBlock, Kinds, blocks_out, nets_out, places_out, named_parts, pad_list, parts_of, raw_blocks, sizes, ends}
use Rattle.sf_gsrc.specs.Join.{has_name, strangers_of, joined, numbered}

-- a name that a pad has is no stranger, whether a block has it or not
known : (b : Bool) → not (b || true) ≡ false
known true = refl
known false = refl

-- no place of the four pads is a stranger's
no_strangers : (bs : List RawBlock) (n : ℕ) → strangers_of bs pad_list (places_out n).places ≡ []
no_strangers bs n =
    let block_has = has_name (map (λ b. b.name) bs) in
    rw (known (block_has (codes "p0")), known (block_has (codes "p1")), known (block_has (codes "p2")), known (block_has (codes "p3"))) refl

-- the three texts' contents joined are the parts of the design
pub joined_are : (kinds : Kinds) (seed n : ℕ) → joined (blocks_out kinds (sizes seed n)) (Some (nets_out (ends seed n))) (Some (places_out n)) ≡ Ok (parts_of kinds seed n)
joined_are kinds seed n = ap (λ (s : List (List ℕ)). Ok (numbered (record (named_parts kinds seed n) { strangers = s }))) (no_strangers (raw_blocks kinds (sizes seed n)) n)

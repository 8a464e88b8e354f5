-- The search for a block without a shape.
use Rattle.std.proofs.Common.{◌≡◌, ℕ, ◌+◌, ◌<◌, List, [], ◌∷◌, length, get_or, drop, refl, ap, ◌∙◌, arith}
use Rattle.sf_parts.proofs.Common.{first_shapeless, Shape, RawBlock}
use Rattle.sf_parts.specs.declared.raw.Kind.TheVariants.{Hard}
use Rattle.sf_model.proofs.Walks.{drop_step}

-- a block with a shape is not the first without one
shapeless_skip : (b : RawBlock) (bs : List RawBlock) (l : List Shape) (ls : List (List Shape)) → 0 < length l → first_shapeless (b ∷ bs) (l ∷ ls) ≡ first_shapeless bs ls
shapeless_skip b bs [] ls some = absurd (omega arith)
shapeless_skip b bs (s ∷ ss) ls some = refl

-- a block for places past the end
no_block : RawBlock
no_block = record { name = []; kind = Hard 0 0 }

-- the search for a block without a shape goes on past one that has a shape
pub shapeless_step : (bs : List RawBlock) (ls : List (List Shape)) (i : ℕ) (l : List Shape) → i < length bs → i < length ls → 0 < length (get_or ls i l) → first_shapeless (drop i bs) (drop i ls) ≡ first_shapeless (drop (i + 1) bs) (drop (i + 1) ls)
shapeless_step bs ls i l in_bs in_ls some = let b = no_block in ap (λ xs. first_shapeless xs (drop i ls)) (drop_step bs i b in_bs) ∙ ap (λ ys. first_shapeless (get_or bs i b ∷ drop (i + 1) bs) ys) (drop_step ls i l in_ls) ∙ shapeless_skip (get_or bs i b) (drop (i + 1) bs) (get_or ls i l) (drop (i + 1) ls) some

-- The spots that a placed file gives a design's blocks are one list, by number.
use Rattle.std.proofs.Common.{◌≡◌, ◌+◌, inl, inr, ℕ, suc, List, [], ◌∷◌, map, length, Option, Some, None, Result, Ok, Err, refl, sym, ap, subst, ◌∙◌, arith}
use Rattle.sf_program.proofs.Common.{codes, range_with_len, Contents, Design, Block, Spot, block_count, ◌>>=◌, Place, IsByNumber, SpotsPlaced, SpotsRead, lines_named, sized_spot, spot_said, spots_said, GivesOne, Refusal, PlacesRead}
use Rattle.sf_program.proofs.Once.{once, then-one}
use Rattle.sf_program.proofs.OneDesign.{places-one}

-- a placed file gives a design's blocks one list of spots, or one refusal
pub spots-one : (contents : Contents) (scale : ℕ) (name : List ℕ) (design : Design) → GivesOne contents.may_fail (SpotsRead (Some contents) scale name design)
spots-one contents scale name design =
    then-one (PlacesRead (Some contents) (codes "placed") scale name) (SpotsPlaced design) (places-one contents (codes "placed") scale name) (λ places. once (SpotsPlaced design places) (λ r s a b. a ∙ sym b))

-- the spots of blocks stand by number
sized-number : (b : ℕ) (name : List ℕ) (line : Place) (size : Option (ℕ × ℕ)) (spot : Spot) → sized_spot b name line size ≡ Ok spot → spot.block ≡ b
sized-number b name line None spot e = absurd (cc)
sized-number b name line (Some size) spot e = cc

-- whatever lines have its name, the spot of a block has its number
spot-number : (b : ℕ) (name : List ℕ) (lines : List Place) (spot : Spot) → spot_said b name lines ≡ Ok spot → spot.block ≡ b
spot-number b name [] spot e = absurd (cc)
spot-number b name (line ∷ []) spot e = sized-number b name line line.size spot e
spot-number b name (line ∷ other ∷ more) spot e = absurd (cc)

-- spots by number from b on, as many as there are
abbrev StandFrom : ℕ → ℕ → List Spot → Type 0
StandFrom b n spots = (map (λ (s : Spot). s.block) spots ≡ range_with_len b n) × (length spots ≡ n)

-- one spot before others that stand by number
one-more : (b n : ℕ) (first : Result Spot Refusal) (others : Result (List Spot) Refusal) (spots : List Spot) → ((s : Spot) → first ≡ Ok s → s.block ≡ b) → ((ss : List Spot) → others ≡ Ok ss → StandFrom (b + 1) n ss)
    → (first >>= λ s. others >>= λ ss. Ok (s ∷ ss)) ≡ Ok spots → StandFrom b (suc n) spots
one-more b n (Ok s) (Ok ss) spots one more e =
    let same : s ∷ ss ≡ spots = cc in
    let k = more ss refl in
    subst (StandFrom b (suc n)) same (ap (λ x. x ∷ map (λ (t : Spot). t.block) ss) (one s refl) ∙ ap (λ xs. b ∷ xs) k.0, omega (arith, k.1))
one-more b n (Ok s) (Err why) spots one more e = absurd (cc)
one-more b n (Err why) others spots one more e = absurd (cc)

-- the spots of all blocks stand by number
spots-number : (b : ℕ) (blocks : List Block) (lines : List Place) (spots : List Spot) → spots_said b blocks lines ≡ Ok spots → StandFrom b (length blocks) spots
spots-number b [] lines spots e = let same : [] ≡ spots = cc in subst (StandFrom b 0) same (refl, refl)
spots-number b (block ∷ blocks) lines spots e =
    one-more b (length blocks) (spot_said b block.name (lines_named block.name lines)) (spots_said (b + 1) blocks lines) spots
    (λ s. spot-number b block.name (lines_named block.name lines) s) (λ ss. spots-number (b + 1) blocks lines ss) e

-- so do those that are read, and there is one for each block
pub spots-stand : (contents : Contents) (scale : ℕ) (name : List ℕ) (design : Design) (spots : List Spot) → SpotsRead (Some contents) scale name design (Ok spots) → IsByNumber spots × (length spots ≡ block_count design)
spots-stand contents scale name design spots read =
    elim read [
      | inl m ↦ (let k = spots-number 0 design.blocks m.0.places spots (sym m.2) in (subst (λ n. map (λ (s : Spot). s.block) spots ≡ range_with_len 0 n) (sym k.1) k.0, k.1))
      | inr m ↦ (let e = m.2 in absurd (cc))
    ]

-- A walk over normalised Polish expressions by the moves of Wong and Liu, under a threshold that falls.
use Rattle.std.specs.Prelude.{◌≡◌, ℕ, zero, suc, ◌+◌, ◌*◌, ◌-◌, ◌/◌, ◌%◌, ◌⊎◌, ◌==◌, min, nat_le, nat_lt, List, [], ◌∷◌, ◌++◌, Option, if◌then◌else◌}
use Rattle.rand_core.specs.Stream.{Stream, next_u32}
use Rattle.sf_model.specs.declared.TheConstants.{MAX}
use Rattle.sf_model.specs.declared.design.Design.{Design}
use Rattle.sf_model.specs.Legal.{block_count}
use Rattle.sf_polish.specs.declared.expr.Expr.{Expr}
use Rattle.sf_polish.specs.declared.expr.Token.{Token}
use Rattle.sf_polish.specs.declared.expr.Token.TheVariants as token
use Rattle.sf_anneal.specs.Moves.{swapped, flipped, runs, stepped, MayStep}
use Rattle.sf_anneal.specs.Measured.{IsMeasure, IsCost}

-- the chain `0 1 * 2 * ..` of so many blocks
abbrev pub chain : ℕ → List Token
chain zero = []
chain (suc zero) = token.Block 0 ∷ []
chain (suc (suc n)) = chain (suc n) ++ token.Block (suc n) ∷ token.Beside ∷ []

-- tokens i and i + 1 have changed places where they may, and otherwise all stands as before
abbrev pub IsStepped : List Token → ℕ → List Token → Type 0
IsStepped tokens i next = (MayStep tokens i × (next ≡ stepped tokens i)) ⊎ ((¬ (MayStep tokens i)) × (next ≡ tokens))

-- one of the three moves, at the place that a word gives
abbrev pub IsMoveOf : ℕ → ℕ → ℕ → List Token → List Token → Type 0
IsMoveOf zero blocks word tokens next = next ≡ swapped tokens (word % (blocks - 1))
IsMoveOf (suc zero) blocks word tokens next = next ≡ flipped tokens (word % runs tokens)
IsMoveOf (suc (suc kind)) blocks word tokens next = IsStepped tokens (word % (2 * blocks - 2)) next

-- the move of these two words, the first for its kind
abbrev pub IsMoved : ℕ → ℕ → ℕ → List Token → List Token → Type 0
IsMoved blocks kind place tokens next = IsMoveOf (kind % 3) blocks place tokens next

-- by how much the cost may rise where `left` of all trials are left
abbrev pub slack : ℕ → ℕ → ℕ → ℕ
slack c moves left = c * left / (16 * moves)

-- tokens and their cost
abbrev pub Visit : Type 0
Visit = List Token × ℕ

-- the moved tokens where they cost at most so much more, where a sum above MAX counts as MAX; otherwise the old ones
abbrev pub kept : ℕ → Visit → Visit → Visit
kept rise now next = if nat_le next.1 (min (now.1 + rise) MAX) then next else now

-- the moved tokens where they cost less
abbrev pub cheaper : Visit → Visit → Visit
cheaper best next = if nat_lt next.1 best.1 then next else best

-- from these tokens on the trials that are left come to an end at which the first cheapest of all visited tokens are these
unfoldable pub Walks : Design → ℕ → ℕ → ℕ → Stream → Visit → Visit → Visit → Type 0
Walks design c moves zero words now best end = end ≡ best
Walks design c moves (suc left) words now best end =
    let kind = next_u32 words in
    let place = next_u32 kind.1 in
    (next : Visit) × IsMoved (block_count design) kind.0 place.0 now.0 next.0 × IsCost design next.0 next.1
    × Walks design c moves left place.1 (kept (slack c moves (suc left)) now next) (cheaper best next) end

-- the number that the threshold falls from: the cost of the chain, or 0 where it is MAX
abbrev pub height : ℕ → ℕ
height z = if z == MAX then 0 else z

-- one block has no moves
abbrev pub trials : ℕ → ℕ → ℕ
trials blocks moves = if blocks == 1 then 0 else moves

-- what a walk of so many trials finds over these words: the first cheapest of all visited expressions, with its shapes and its cost, or none where all cost MAX
pub record IsWalk (design : Design) (words : Stream) (moves : ℕ) (found : Option (Expr × ℕ)) : Type 0 where
  pub first : ℕ
  pub end : Visit
  pub costs : IsCost design (chain (block_count design)) first
  pub walks : Walks design (height first) moves (trials (block_count design) moves) words (chain (block_count design), first) (chain (block_count design), first) end
  pub measure : IsMeasure design end.0 found

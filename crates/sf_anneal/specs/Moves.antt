-- The moves of Wong and Liu (1986) on normalised Polish expressions.
use Rattle.std.specs.Prelude.{◌≢◌, ℕ, zero, suc, ◌+◌, ◌/◌, ◌≤◌, ◌==◌, List, [], ◌∷◌, length, slice_index_or, Bool, true, false, not, IsFalse, if◌then◌else◌}
use Rattle.std.specs.List.{swap}
use Rattle.sf_polish.specs.declared.expr.Token.{Token}
use Rattle.sf_polish.specs.declared.expr.Token.TheVariants.{Beside, Above, Block}
use Rattle.sf_polish.specs.Normal.{is_operand, same_operator, ends_in, operands, operators, IsNormal}

-- the tokens are a normalised Polish expression of as many blocks as their length tells
abbrev pub AreNormal : List Token → Type 0
AreNormal tokens = IsNormal ((length tokens + 1) / 2) tokens

-- the place of operand j, counted from 0 on
abbrev pub operand_place : List Token → ℕ → ℕ
operand_place [] j = 0
operand_place (Beside ∷ ts) j = suc (operand_place ts j)
operand_place (Above ∷ ts) j = suc (operand_place ts j)
operand_place (Block b ∷ ts) zero = 0
operand_place (Block b ∷ ts) (suc j) = suc (operand_place ts j)

-- operands j and j + 1 change places
abbrev pub swapped : List Token → ℕ → List Token
swapped tokens j = swap tokens (operand_place tokens j) (operand_place tokens (j + 1))

-- the other operator
abbrev pub turned : Token → Token
turned Beside = Above
turned Above = Beside
turned (Block b) = Block b

-- how many runs have begun by a token, where `begun` had before it; `inside` says whether an operator stands before it
abbrev pub begun_by : Token → Bool → ℕ → ℕ
begun_by Beside true begun = begun
begun_by Beside false begun = begun + 1
begun_by Above true begun = begun
begun_by Above false begun = begun + 1
begun_by (Block b) inside begun = begun

-- how many maximal runs of operators have begun by the end of the tokens, where `begun` had before them
abbrev pub runs_from : Bool → ℕ → List Token → ℕ
runs_from inside begun [] = begun
runs_from inside begun (t ∷ ts) = runs_from (not (is_operand t)) (begun_by t inside begun) ts

-- how many maximal runs of operators the tokens have
abbrev pub runs : List Token → ℕ
runs tokens = runs_from false 0 tokens

-- each operator of run k is the other one, where `begun` runs have begun before the tokens
abbrev pub flipped_from : ℕ → Bool → ℕ → List Token → List Token
flipped_from k inside begun [] = []
flipped_from k inside begun (t ∷ ts) =
    (if begun_by t inside begun == k + 1 then turned t else t) ∷ flipped_from k (not (is_operand t)) (begun_by t inside begun) ts

-- each operator of run k, counted from 0 on, is the other one
abbrev pub flipped : List Token → ℕ → List Token
flipped tokens k = flipped_from k false 0 tokens

-- tokens i and i + 1 have changed places
abbrev pub stepped : List Token → ℕ → List Token
stepped tokens i = swap tokens i (i + 1)

-- token i is an operand
abbrev pub is_operand_at : List Token → ℕ → Bool
is_operand_at tokens i = is_operand (slice_index_or tokens i Beside)

-- tokens i and i + 1 are one operand and one operator, and exchanged the tokens are normal
abbrev pub MayStep : List Token → ℕ → Type 0
MayStep tokens i = (is_operand_at tokens i ≢ is_operand_at tokens (i + 1)) × AreNormal (stepped tokens i)

-- an operator may stand behind these tokens in normal ones: two items stand before it, and not its like
abbrev pub MayFollow : List Token → Token → Type 0
MayFollow tokens operator = (operators tokens + 2 ≤ operands tokens) × IsFalse (ends_in operator tokens)

-- an operator may stand before these tokens in normal ones: they don't begin with its like
abbrev pub MayPrecede : Token → List Token → Type 0
MayPrecede operator tokens = IsFalse (same_operator operator (slice_index_or tokens 0 (Block 0)))

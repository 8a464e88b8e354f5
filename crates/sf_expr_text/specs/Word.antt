-- What a word of a text spells by itself.
use Rattle.std.specs.Prelude.{ℕ, Bool, false, ◌==◌, nat_lt, nat_le, List, [], ◌∷◌, Option, Some, None, if◌then◌else◌}
use Rattle.std.specs.List.{before_first, after_first}
use Rattle.std.specs.Option.{option_map}
use Rattle.sf_lex.specs.Whole.{plain_read}
use Rattle.sf_model.specs.declared.parts.Shape.{Shape}
use Rattle.sf_polish.specs.declared.expr.Token.{Token}
use Rattle.sf_polish.specs.declared.expr.Token.TheVariants as token
use Rattle.sf_expr_text.specs.declared.word.Piece.{Piece}
use Rattle.sf_expr_text.specs.declared.word.Piece.TheVariants.{Beside, Above, Block}

-- the token of a piece, without the shape
abbrev pub token_of : Piece → Token
token_of Beside = token.Beside
token_of Above = token.Above
token_of (Block b s) = token.Block b

-- the word is this one byte
abbrev pub is_byte : ℕ → List ℕ → Bool
is_byte b [] = false
is_byte b (c ∷ []) = c == b
is_byte b (c ∷ d ∷ bytes) = false

-- the colon
abbrev pub is_colon : ℕ → Bool
is_colon b = b == 58

-- the letter `x`
abbrev pub is_times : ℕ → Bool
is_times b = b == 120

-- the number, where it passes the test
abbrev pub when_is : (ℕ → Bool) → Option ℕ → Option ℕ
when_is test None = None
when_is test (Some n) = if test n then Some n else None

-- a number below the number of blocks
abbrev pub block_in : ℕ → List ℕ → Option ℕ
block_in blocks word = when_is (λ b. nat_lt b blocks) (plain_read blocks word)

-- a side from 1 to 1,048,576
abbrev pub side_in : List ℕ → Option ℕ
side_in word = when_is (λ n. nat_le 1 n) (plain_read 1_048_576 word)

-- two sides with an `x` between them
abbrev pub shape_of_sides : Option ℕ → Option ℕ → Option Shape
shape_of_sides (Some w) (Some h) = Some (record { w = w; h = h })
shape_of_sides _ _ = None

-- a shape in a word
unfoldable pub shape_in : List ℕ → Option Shape
shape_in word = shape_of_sides (side_in (before_first is_times word)) (side_in (after_first is_times word))

-- a word of a token text
unfoldable pub token_in : ℕ → List ℕ → Option Token
token_in blocks word = if is_byte 42 word then Some token.Beside
    else if is_byte 43 word then Some token.Above
    else option_map token.Block (block_in blocks word)

-- a block and its shape
abbrev pub block_of_parts : Option ℕ → Option Shape → Option Piece
block_of_parts (Some b) (Some s) = Some (Block b s)
block_of_parts _ _ = None

-- a word of an expression text
unfoldable pub piece_in : ℕ → List ℕ → Option Piece
piece_in blocks word = if is_byte 42 word then Some Beside
    else if is_byte 43 word then Some Above
    else block_of_parts (block_in blocks (before_first is_colon word)) (shape_in (after_first is_colon word))

-- its token, without the shape
abbrev pub shaped_token_in : ℕ → List ℕ → Option Token
shaped_token_in blocks word = option_map token_of (piece_in blocks word)

-- What a text is read as: the tokens or the expression that it spells, or its first fault.
use Rattle.std.specs.Prelude.{◌≡◌, ℕ, ◌+◌, Bool, not, ◌==◌, nat_le, List, [], ◌∷◌, ◌++◌, Option, Some, None, Result, Ok, Err, if◌then◌else◌, slice_set, replicate}
use Rattle.std.specs.List.{list_any, list_all, range_with_len}
use Rattle.sf_lex.specs.Scan.{LineWord, line_words, last_line_of}
use Rattle.sf_model.specs.declared.parts.Shape.{Shape}
use Rattle.sf_polish.specs.declared.expr.Expr.{Expr}
use Rattle.sf_polish.specs.declared.expr.Token.{Token}
use Rattle.sf_polish.specs.declared.expr.Token.TheVariants.{Beside, Above, Block}
use Rattle.sf_expr_text.specs.declared.fault.ExprFault.{ExprFault}
use Rattle.sf_expr_text.specs.declared.fault.ExprFault.TheVariants.{BadToken, NotBallot, NotNormal, RepeatedBlock, MissingBlock, NoMemory}
use Rattle.sf_expr_text.specs.declared.word.Piece.{Piece}
use Rattle.sf_expr_text.specs.declared.word.Piece.TheVariants as piece
use Rattle.sf_polish.specs.Normal.{is_block, operands, operators, ends_in}
use Rattle.sf_polish.specs.Shaping.{no_shape}
use Rattle.sf_expr_text.specs.Word.{token_in, shaped_token_in, piece_in}

-- whether a block is among the tokens
abbrev pub is_named : ℕ → List Token → Bool
is_named b tokens = list_any (is_block b) tokens

-- an operator after earlier tokens, or its fault
abbrev pub operator_after : List Token → ℕ → Token → Result Token ExprFault
operator_after earlier line t = if nat_le (operands earlier) (operators earlier + 1) then Err (NotBallot line)
    else if ends_in t earlier then Err (NotNormal line)
    else Ok t

-- what a word in a line spells after earlier tokens, or its fault
abbrev pub token_after : List Token → ℕ → Option Token → Result Token ExprFault
token_after earlier line None = Err (BadToken line)
token_after earlier line (Some Beside) = operator_after earlier line Beside
token_after earlier line (Some Above) = operator_after earlier line Above
token_after earlier line (Some (Block b)) = if is_named b earlier then Err (RepeatedBlock line) else Ok (Block b)

-- all tokens, or the fault of what is missing, at the last line
abbrev pub whole_tokens : ℕ → ℕ → List Token → Result (List Token) ExprFault
whole_tokens blocks last tokens = if not (list_all (λ b. is_named b tokens) (range_with_len 0 blocks)) then Err (MissingBlock last)
    else if operators tokens + 1 == operands tokens then Ok tokens
    else Err (NotBallot last)

-- one reading after another
infixl 10 ◌>>=◌
abbrev pub ◌>>=◌ : {A B : Type 0} → Result A ExprFault → (A → Result B ExprFault) → Result B ExprFault
(Ok x) >>= f = f x
(Err e) >>= f = Err e

-- the tokens of the words behind earlier tokens, by what each word spells; `last` is the text's last line
unfoldable pub tokens_from : ℕ → ℕ → (List ℕ → Option Token) → List Token → List LineWord → Result (List Token) ExprFault
tokens_from blocks last spelled earlier [] = whole_tokens blocks last earlier
tokens_from blocks last spelled earlier (word ∷ more) = do
  t ← token_after earlier word.line (spelled word.text)
  tokens_from blocks last spelled (earlier ++ t ∷ []) more

-- the shapes by block, once a word more is read
abbrev pub shapes_with : List Shape → Option Piece → List Shape
shapes_with shapes None = shapes
shapes_with shapes (Some piece.Beside) = shapes
shapes_with shapes (Some piece.Above) = shapes
shapes_with shapes (Some (piece.Block b s)) = slice_set shapes b s

-- the shapes after the words
unfoldable pub shapes_from : ℕ → List Shape → List LineWord → List Shape
shapes_from blocks shapes [] = shapes
shapes_from blocks shapes (word ∷ more) = shapes_from blocks (shapes_with shapes (piece_in blocks word.text)) more

-- ---- the two texts

-- what a text of tokens is read as
abbrev pub tokens_read : ℕ → List ℕ → Result (List Token) ExprFault
tokens_read blocks text = tokens_from blocks (last_line_of text) (token_in blocks) [] (line_words text)

-- the expression of its tokens and shapes
abbrev pub expr_of_parts : List Shape → List Token → Result Expr ExprFault
expr_of_parts shapes tokens = Ok (record { tokens = tokens; shapes = shapes })

-- what the text of an expression is read as
abbrev pub expr_read : ℕ → List ℕ → Result Expr ExprFault
expr_read blocks text = tokens_from blocks (last_line_of text) (shaped_token_in blocks) [] (line_words text)
    >>= expr_of_parts (shapes_from blocks (replicate blocks no_shape) (line_words text))

-- ---- what a function returned

-- the fault is that of the reading, unless memory ran out
abbrev pub Fails : {X : Type 0} → ExprFault → Result X ExprFault → Type 0
Fails NoMemory read = Unit {0}
Fails fault read = read ≡ Err fault

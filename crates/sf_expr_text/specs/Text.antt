-- The texts of tokens and of expressions: a word for each token, and one space between two words.
use Rattle.std.specs.Prelude.{◌≡◌, ℕ, List, [], ◌∷◌, ◌++◌, map}
use Rattle.std.specs.Fmt.{decimal}
use Rattle.std.specs.List.{join_with_byte}
use Rattle.sf_lex.specs.Scan.{line_words}
use Rattle.sf_model.specs.declared.parts.Shape.{Shape}
use Rattle.sf_polish.specs.declared.expr.Expr.{Expr}
use Rattle.sf_polish.specs.declared.expr.Token.{Token}
use Rattle.sf_polish.specs.declared.expr.Token.TheVariants.{Beside, Above, Block}
use Rattle.sf_polish.specs.Normal.{IsNormal}
use Rattle.sf_polish.specs.Postfix.{shape_at}
use Rattle.sf_polish.specs.Writable.{IsWritable}

-- ---- what is written

-- `*`, `+` or the number of a block
abbrev pub token_text : Token → List ℕ
token_text Beside = 42 ∷ []
token_text Above = 43 ∷ []
token_text (Block b) = decimal b

-- `wxh`
abbrev pub shape_text : Shape → List ℕ
shape_text s = decimal s.w ++ (120 ∷ decimal s.h)

-- `*`, `+`, or `i:wxh` for a block and its shape
abbrev pub shaped_text : List Shape → Token → List ℕ
shaped_text shapes Beside = 42 ∷ []
shaped_text shapes Above = 43 ∷ []
shaped_text shapes (Block b) = decimal b ++ (58 ∷ shape_text (shape_at shapes b))

-- the words of an expression, and its text
abbrev pub expr_words : Expr → List (List ℕ)
expr_words expr = map (shaped_text expr.shapes) expr.tokens

-- the text of an expression
abbrev pub expr_text : Expr → List ℕ
expr_text expr = join_with_byte 32 (expr_words expr)

-- ---- what a text spells

-- the words of a text, whatever its lines
abbrev pub spelled_words : List ℕ → List (List ℕ)
spelled_words text = map (λ w. w.text) (line_words text)

-- the text spells the tokens, word for word
pub record SpellsTokens (blocks : ℕ) (text : List ℕ) (tokens : List Token) : Type 0 where
  pub words : spelled_words text ≡ map token_text tokens
  pub normal : IsNormal blocks tokens

-- the text spells the expression, word for word
pub record SpellsExpr (blocks : ℕ) (text : List ℕ) (expr : Expr) : Type 0 where
  pub words : spelled_words text ≡ expr_words expr
  pub writable : IsWritable blocks expr

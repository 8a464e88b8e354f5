-- Where a text stops being that of a normal expression, and how.
use Rattle.std.specs.Prelude.{◌≡◌, ◌≢◌, ℕ, ◌+◌, ◌<◌, ◌≤◌, List, [], ◌∷◌, ◌++◌, All, count_by, IsTrue, IsFalse}
use Rattle.std.specs.Fmt.{decimal}
use Rattle.std.specs.List.{AllZip}
use Rattle.sf_lex.specs.Scan.{LineWord, line_words, last_line_of}
use Rattle.sf_model.specs.declared.parts.Shape.{Shape}
use Rattle.sf_model.specs.Limits.{IsSide}
use Rattle.sf_polish.specs.declared.expr.Token.{Token}
use Rattle.sf_polish.specs.declared.expr.Token.TheVariants.{Beside, Above, Block}
use Rattle.sf_expr_text.specs.declared.fault.ExprFault.{ExprFault}
use Rattle.sf_expr_text.specs.declared.fault.ExprFault.TheVariants.{BadToken, NotBallot, NotNormal, RepeatedBlock, MissingBlock}
use Rattle.sf_polish.specs.Normal.{is_block, is_operand, is_outside, ends_in, operands, operators, IsBallot, Alternates}
use Rattle.sf_expr_text.specs.Reading.{is_named}
use Rattle.sf_expr_text.specs.Text.{token_text, shape_text}

-- what a normal expression of these blocks may begin with: no block twice and none that the design lacks, each prefix with
-- more operands than operators, and no operator right after its like
pub record IsFront (blocks : ℕ) (tokens : List Token) : Type 0 where
  pub once : (b : ℕ) → count_by (is_block b) tokens ≤ 1
  pub no_other : All (λ t. IsFalse (is_outside blocks t)) tokens
  pub ballot : IsBallot tokens
  pub alternates : Alternates tokens

-- the word of a text of tokens is this token's
abbrev pub WritesToken : List ℕ → Token → Type 0
WritesToken word t = word ≡ token_text t

-- the word of an expression's text is this token's: of a block with any shape whose sides keep the limit
abbrev pub WritesShaped : List ℕ → Token → Type 0
WritesShaped word Beside = word ≡ 42 ∷ []
WritesShaped word Above = word ≡ 43 ∷ []
WritesShaped word (Block b) = (s : Shape) × IsSide s.w × IsSide s.h × (word ≡ decimal b ++ (58 ∷ shape_text s))

-- the word is an operator's
abbrev pub WritesOperator : (List ℕ → Token → Type 0) → List ℕ → Token → Type 0
WritesOperator Writes word t = Writes word t × IsFalse (is_operand t)

-- why no normal expression goes on with this word behind these tokens: the word is of no block and of no operator, its
-- block is there, its operator wants one operand more, or it repeats the operator before it
abbrev pub IsWordFault : (List ℕ → Token → Type 0) → ℕ → List Token → LineWord → ExprFault → Type 0
IsWordFault Writes blocks tokens word (BadToken line) = (line ≡ word.line) × ((t : Token) → Writes word.text t → IsTrue (is_outside blocks t))
IsWordFault Writes blocks tokens word (RepeatedBlock line) = (line ≡ word.line) × (b : ℕ) × Writes word.text (Block b) × IsTrue (is_named b tokens)
IsWordFault Writes blocks tokens word (NotBallot line) = (line ≡ word.line) × (t : Token) × WritesOperator Writes word.text t × (operands tokens ≤ operators tokens + 1)
IsWordFault Writes blocks tokens word (NotNormal line) = (line ≡ word.line) × (t : Token) × WritesOperator Writes word.text t × (operators tokens + 1 < operands tokens) × IsTrue (ends_in t tokens)
IsWordFault Writes blocks tokens word fault = ⊥

-- why no normal expression ends behind these tokens: a block is missing, or the operators aren't one fewer than the operands
abbrev pub IsEndFault : ℕ → List Token → ℕ → ExprFault → Type 0
IsEndFault blocks tokens last (MissingBlock line) = (line ≡ last) × (b : ℕ) × (b < blocks) × IsFalse (is_named b tokens)
IsEndFault blocks tokens last (NotBallot line) = (line ≡ last) × ((b : ℕ) → b < blocks → IsTrue (is_named b tokens)) × (operators tokens + 1 ≢ operands tokens)
IsEndFault blocks tokens last fault = ⊥

-- the fault at the first of the words that are left, or at the end where none is
abbrev pub IsFaultAt : (List ℕ → Token → Type 0) → ℕ → List Token → ℕ → List LineWord → ExprFault → Type 0
IsFaultAt Writes blocks tokens last [] fault = IsEndFault blocks tokens last fault
IsFaultAt Writes blocks tokens last (word ∷ more) fault = IsWordFault Writes blocks tokens word fault

-- the words of a text as far as they are the front of a normal expression, and the fault of what follows
pub record GoesWrong (Writes : List ℕ → Token → Type 0) (blocks : ℕ) (text : List ℕ) (fault : ExprFault) : Type 0 where
  pub before : List LineWord
  pub left : List LineWord
  pub words : line_words text ≡ before ++ left
  pub tokens : List Token
  pub written : AllZip (λ word t. Writes word.text t) before tokens
  pub front : IsFront blocks tokens
  pub stop : IsFaultAt Writes blocks tokens (last_line_of text) left fault

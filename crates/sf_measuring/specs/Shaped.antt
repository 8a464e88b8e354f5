-- What `shape` answers: the shape curve of an expression over the blocks of a design.
use Rattle.std.specs.Prelude.{◌≡◌, ℕ, List, [], ◌∷◌, ◌++◌, codes, Option, Some, None, Result, Ok, Err}
use Rattle.std.specs.Fmt.{decimal}
use Rattle.std.specs.List.{flat_map}
use Rattle.sf_io.specs.Outside.{Contents}
use Rattle.sf_io.specs.declared.status.Status.{Status}
use Rattle.sf_io.specs.declared.status.Status.TheVariants.{Done}
use Rattle.sf_model.specs.declared.design.Design.{Design}
use Rattle.sf_model.specs.declared.parts.Shape.{Shape}
use Rattle.sf_model.specs.Legal.{block_count}
use Rattle.sf_polish.specs.declared.expr.Token.{Token}
use Rattle.sf_expr_text.specs.declared.fault.ExprFault.{ExprFault}
use Rattle.sf_expr_text.specs.declared.fault.ExprFault.TheVariants as fault
use Rattle.sf_expr_text.specs.Reading.{tokens_read}
use Rattle.sf_expr_text.specs.Text.{SpellsTokens}
use Rattle.sf_curves.specs.Choices.{IsRootCurve}
use Rattle.sf_curves.specs.Points.{IsLeastArea, area_of}
use Rattle.sf_node.specs.Subproblem.{root}
use Rattle.sf_options.specs.Options.{ShapeOptions, WeightOptions}
use Rattle.sf_designs.specs.declared.stop.Stop.{Stop}
use Rattle.sf_designs.specs.declared.work.Work.{Work}
use Rattle.sf_designs.specs.Outcome.{Refusal, Then}
use Rattle.sf_designs.specs.Reading.{DesignRead, Said, TextRead, With}
use Rattle.sf_designs.specs.Refusals.{bad_input, line_of, no_line}
use Rattle.sf_designs.specs.Stores.{Obeyed}

-- a text that spells no expression; want of memory has no line, and is not met
abbrev pub expr_refusal : ExprFault → Refusal
expr_refusal (fault.BadToken line) = bad_input (codes "expr") line (codes "BadToken" ∷ [])
expr_refusal (fault.NotBallot line) = bad_input (codes "expr") line (codes "NotBallot" ∷ [])
expr_refusal (fault.NotNormal line) = bad_input (codes "expr") line (codes "NotNormal" ∷ [])
expr_refusal (fault.RepeatedBlock line) = bad_input (codes "expr") line (codes "RepeatedBlock" ∷ [])
expr_refusal (fault.MissingBlock line) = bad_input (codes "expr") line (codes "MissingBlock" ∷ [])
expr_refusal fault.NoMemory = no_line

-- the tokens that the text under the name spells, of so many blocks
abbrev pub TokensRead : Option Contents → List ℕ → ℕ → Result (List Token) Refusal → Type 0
TokensRead held name blocks = Then (TextRead held name) (λ text. Said (SpellsTokens blocks text) (tokens_read blocks text) expr_refusal)

-- `shape` has no weights: its design is that of areas alone
abbrev pub areas_alone : WeightOptions
areas_alone = record { area = 1; wire = 0; net_weights = None }

-- the design first, and then an expression of its blocks
abbrev pub ShapeRead : Option Contents → ShapeOptions → Result (Design × List Token) Refusal → Type 0
ShapeRead held o = Then (DesignRead held o.design areas_alone) (With (λ design. TokensRead held o.expr (block_count design)))

-- a line for each point
abbrev pub point_line : Shape → List ℕ
point_line point = line_of (decimal point.w ∷ decimal point.h ∷ [])

-- the last line: the point of least area, or that there is none
abbrev pub least_line : Option Shape → List ℕ
least_line None = line_of (codes "least" ∷ codes "none" ∷ [])
least_line (Some point) = line_of (codes "least" ∷ decimal point.w ∷ decimal point.h ∷ decimal (area_of point) ∷ [])

-- the point of least area, of least width among equals, or none where the curve is empty
abbrev pub IsLeast : List Shape → Option Shape → Type 0
IsLeast points None = points ≡ []
IsLeast points (Some point) = IsLeastArea points point

-- the text of a curve
abbrev pub IsCurveText : List Shape → List ℕ → Type 0
IsCurveText points text = (least : Option Shape) × IsLeast points least × (text ≡ flat_map point_line points ++ least_line least)

-- the files give a design and an expression, and what is printed is the curve of the whole expression over all listed shapes
pub record IsShaped (o : ShapeOptions) (before : Option Contents) (status : Status) (printed : List ℕ) : Type 0 where
  pub design : Design
  pub tokens : List Token
  pub reads : ShapeRead before o (Ok (design, tokens))
  pub points : List Shape
  pub curve : IsRootCurve design tokens (root design).spans points
  pub status_is : status ≡ Done
  pub text_is : IsCurveText points printed

-- what `shape` answers: the curve, and nothing to store
abbrev pub ShapeAnswers : ShapeOptions → Option Contents → Result Work Stop → Type 0
ShapeAnswers o before = Obeyed (λ status stored printed. IsShaped o before status printed × (stored ≡ [])) (λ why. ShapeRead before o (Err why))

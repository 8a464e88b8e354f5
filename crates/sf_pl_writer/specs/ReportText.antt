-- The report of a search.
use Rattle.std.specs.Prelude.{ℕ, List, [], ◌∷◌, ◌++◌, Option, Some, None, codes}
use Rattle.std.specs.Fmt.{decimal}
use Rattle.sf_model.specs.CostText.{cost_text}
use Rattle.sf_polish.specs.declared.expr.Expr.{Expr}
use Rattle.sf_expr_text.specs.Text.{expr_text}
use Rattle.sf_pl_writer.specs.declared.report.Outcome.{Outcome}
use Rattle.sf_pl_writer.specs.declared.report.Outcome.TheVariants.{Optimal, NoneFits, Open}
use Rattle.sf_pl_writer.specs.declared.report.Report.{Report}

-- a label, a space, what is said of it, and LF
abbrev pub line : List ℕ → List ℕ → List ℕ
line label text = label ++ (32 ∷ (text ++ (10 ∷ [])))

-- the word of an outcome
abbrev pub outcome_text : Outcome → List ℕ
outcome_text Optimal = codes "Optimal"
outcome_text NoneFits = codes "NoneFits"
outcome_text Open = codes "Open"

-- the last four lines with a plan
abbrev pub measured_lines : Report → Expr → List ℕ
measured_lines r expr =
    line (codes "size") (decimal r.size.0 ++ (32 ∷ decimal r.size.1))
    ++ (line (codes "area") (decimal r.area)
    ++ (line (codes "wire") (decimal r.wire)
    ++ line (codes "plan") (expr_text expr)))

-- without a plan
abbrev pub no_plan_lines : List ℕ
no_plan_lines = codes "size none\narea none\nwire none\nplan none\n"

-- the last four lines
abbrev pub plan_lines : Report → Option Expr → List ℕ
plan_lines r None = no_plan_lines
plan_lines r (Some expr) = measured_lines r expr

-- the whole report
abbrev pub report_text : Report → List ℕ
report_text r =
    line (codes "status") (outcome_text r.word)
    ++ (line (codes "cost") (cost_text r.cost)
    ++ (line (codes "bound") (cost_text r.bound)
    ++ (line (codes "decided") (decimal r.decided)
    ++ plan_lines r r.plan)))

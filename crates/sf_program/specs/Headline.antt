-- The main theorem: what a run of `plan`, `gen` or `resume` that ends with status 0, 1 or 3 has found, in terms of floorplans alone, whatever the schedule and the number of workers.
use Rattle.std.specs.Prelude.{◌≡◌, ⊤, ℕ, ◌+◌, ◌*◌, ◌<◌, ◌≤◌, List, [], Option, Result, Ok, MatchOption, codes}
use Rattle.std.specs.Io.{StartsWith}
use Rattle.std.specs.Io.KnownBytes.{Appends}
use Rattle.sf_io.specs.Outside.{Contents}
use Rattle.sf_io.specs.declared.status.Status.{Status}
use Rattle.sf_io.specs.declared.status.Status.TheVariants as status
use Rattle.sf_model.specs.declared.design.Design.{Design}
use Rattle.sf_model.specs.declared.TheConstants.{MAX}
use Rattle.sf_model.specs.Tree.{Tree, width, height, spots_of}
use Rattle.sf_model.specs.Legal.{Fits, IsLegal, block_count}
use Rattle.sf_model.specs.Cost.{IsFloor, NoneFits, cost}
use Rattle.sf_model.specs.Wire.{wire}
use Rattle.sf_node.specs.Full.{full}
use Rattle.sf_polish.specs.declared.expr.Expr.{Expr}
use Rattle.sf_polish.specs.Postfix.{Spells}
use Rattle.sf_certificate.specs.declared.cert.Cert.{Cert}
use Rattle.sf_certificate.specs.Valid.{decided}
use Rattle.sf_resume.specs.Resumed.{full_open}
use Rattle.sf_options.specs.Options.{ResumeOptions}
use Rattle.sf_pl_writer.specs.declared.report.Report.{Report}
use Rattle.sf_pl_writer.specs.ReportText.{report_text}
use Rattle.sf_designs.specs.Outcome.{Refusal}
use Rattle.sf_program.specs.Planned.{budget_of}
use Rattle.sf_program.specs.Resumed.{IsGoodWithPaths, ResumeRead}

-- the printed plan is a slicing floorplan of the design's blocks, each once and in a listed shape, that stays within the outline; cost, size, area and wire are its own
pub record IsPlanOf (design : Design) (report : Report) (expr : Expr) : Type 0 where
  pub tree : Tree
  pub spells : Spells expr tree
  pub legal : IsLegal design tree
  pub fits : Fits design.outline tree
  pub costs : cost design tree ≡ report.cost
  pub size : report.size ≡ (width tree, height tree)
  pub area : report.area ≡ width tree * height tree
  pub wires : report.wire ≡ wire design (spots_of tree)

-- the printed plan costs no more than any floorplan that fits
abbrev pub IsBest : Design → Report → Type 0
IsBest design report = (tree : Tree) → IsLegal design tree → Fits design.outline tree → report.cost ≤ cost design tree

-- what the status says: the plan is the best one; no floorplan fits; or the budget is spent, which was below the count of all subproblems that could be decided, and the bound is below the cost
abbrev pub IsEnd : Design → ℕ → ℕ → Report → Status → Type 0
IsEnd design budget all report status.Done = (report.cost < MAX) × (report.bound ≡ report.cost) × IsBest design report
IsEnd design budget all report status.NoneFits = (report.bound ≡ MAX) × NoneFits design
IsEnd design budget all report status.Open = (report.bound < report.cost) × (report.decided ≡ budget) × (budget < all)
IsEnd design budget all report other = ⊥

-- the first line that is printed at status 0, at 1 and at 3
abbrev pub first_line : Status → List ℕ
first_line status.Done = codes "status Optimal\n"
first_line status.NoneFits = codes "status NoneFits\n"
first_line status.Open = codes "status Open\n"
first_line other = []

-- the plan is one of the design, or there is none; no floorplan that fits costs less than the bound; and the status says which of three ends the search came to
pub record IsFinding (design : Design) (budget all : ℕ) (status : Status) (report : Report) : Type 0 where
  pub plan : MatchOption report.plan (report.cost ≡ MAX) (IsPlanOf design report)
  pub floor : IsFloor design report.bound
  pub few : report.decided ≤ budget
  pub end : IsEnd design budget all report status
  -- what is printed begins with the line of the status
  pub begins : StartsWith (report_text report) (first_line status)

-- what was read or generated stands for a design, and what was printed is the report of what was found of it
pub record IsHeadline (Stands : Result Design Refusal → Type 0) (nodes : Option ℕ) (taken taken_then : Option (List ℕ)) (status : Status) : Type 0 where
  pub design : Design
  pub stands : Stands (Ok design)
  pub report : Report
  pub finding : IsFinding design (budget_of nodes (block_count design)) (full design) status report
  pub prints : Appends taken taken_then (report_text report)

-- what was read stands for a design and a valid certificate, and what was printed is the report of what was found when the search had gone on: the budget and all that could be decided are beyond what the certificate decides
pub record IsHeadlineOn (o : ResumeOptions) (before : Option Contents) (taken taken_then : Option (List ℕ)) (status : Status) : Type 0 where
  pub design : Design
  pub old : Cert
  pub stands : ResumeRead before o (Ok (design, old))
  pub good : IsGoodWithPaths o.bounds design old
  pub report : Report
  pub finding : IsFinding design (decided old.tags + o.nodes) (decided old.tags + full_open design old) status report
  pub prints : Appends taken taken_then (report_text report)

-- the statuses of a search
abbrev pub HasSearched : Status → Type 0
HasSearched status.Done = ⊤
HasSearched status.NoneFits = ⊤
HasSearched status.Open = ⊤
HasSearched other = ⊥

-- What the command `plan` answers.
use Rattle.std.specs.Prelude.{◌≡◌, ℕ, ◌+◌, ◌*◌, ◌/◌, ◌<◌, ◌≤◌, min, List, [], ◌∷◌, length, codes, Option, Some, None, IfSome, Result, Ok, Err, Bool, true, IsFalse}
use Rattle.sf_io.specs.Outside.{Contents}
use Rattle.sf_io.specs.declared.status.Status.{Status}
use Rattle.sf_io.specs.declared.status.Status.TheVariants.{Done, NoneFits, Open}
use Rattle.sf_model.specs.declared.design.Design.{Design}
use Rattle.sf_model.specs.declared.plan.Spot.{Spot}
use Rattle.sf_model.specs.declared.TheConstants.{MAX}
use Rattle.sf_model.specs.Tree.{Tree, width, height, spots_of}
use Rattle.sf_model.specs.Legal.{block_count}
use Rattle.sf_model.specs.Cost.{IsFloor}
use Rattle.sf_model.specs.Wire.{wire}
use Rattle.sf_polish.specs.declared.expr.Expr.{Expr}
use Rattle.sf_polish.specs.Postfix.{Spells}
use Rattle.sf_place.specs.Spots.{by_number}
use Rattle.sf_node.specs.declared.part.Part.{Part}
use Rattle.sf_node.specs.Full.{full}
use Rattle.sf_node.specs.Parts.{Parts}
use Rattle.sf_search_core.specs.Outcome.{opening}
use Rattle.sf_certificate.specs.declared.cert.Cert.{Cert}
use Rattle.sf_certificate.specs.Named.{AllNameFirst}
use Rattle.sf_certificate.specs.Valid.{IsValid, decided}
use Rattle.sf_cert_text.specs.Text.{cert_text}
use Rattle.sf_checker.specs.declared.answer.Answer.{Answer}
use Rattle.sf_checker.specs.Answers.{is_yes}
use Rattle.sf_known.specs.Routed.{Takes}
use Rattle.sf_program.specs.Checked.{IsChosenAnswer}
use Rattle.sf_search.specs.Turns.{turns}
use Rattle.sf_search.specs.Found.{IsCertOf}
use Rattle.sf_pl_writer.specs.declared.report.Outcome.{Outcome}
use Rattle.sf_pl_writer.specs.declared.report.Outcome.TheVariants as word
use Rattle.sf_pl_writer.specs.PlText.{pl_text}
use Rattle.sf_pl_writer.specs.ReportText.{report_text}
use Rattle.sf_options.specs.declared.command.BoundsChoice.{BoundsChoice}
use Rattle.sf_options.specs.Options.{PlanOptions}
use Rattle.sf_designs.specs.Outcome.{Refusal, Then}
use Rattle.sf_designs.specs.Refusals.{over_limit}
use Rattle.sf_designs.specs.Reading.{PartsAdmitted, DesignMade, With}
use Rattle.sf_program.specs.Beginning.{BeginRead}
use Rattle.sf_program.specs.Knowing.{MadeKnown}
use Rattle.sf_program.specs.Chosen.{chosen_value, chosen_part}
use Rattle.sf_anneal.specs.declared.beginning.Beginning.{Beginning}
use Rattle.sf_anneal.specs.Starts.{begun_plan}
use Rattle.sf_known.specs.Initial.{IsSearchInput}
use Rattle.sf_designs.specs.Stores.{Stored}
use Rattle.sf_designs.specs.Weighed.{WeighedParts}

-- how many subproblems of so many blocks may be decided
abbrev pub node_limit : ℕ → ℕ
node_limit blocks = min 4_000_000 (4_000_000_000 / ((blocks + 2) * (20 * blocks + 48)))

-- the budget of a search: what was asked for, or its default
abbrev pub budget_of : Option ℕ → ℕ → ℕ
budget_of None blocks = min 100_000 (node_limit blocks)
budget_of (Some nodes) blocks = nodes

-- a count of subproblems past the limit is refused, but of a long search
abbrev pub CountTested : Bool → ℕ → ℕ → Result ℕ Refusal → Type 0
CountTested is_long count blocks (Ok same) = (same ≡ count) × (IsFalse is_long → count ≤ node_limit blocks)
CountTested is_long count blocks (Err why) = IsFalse is_long × (node_limit blocks < count) × (why ≡ over_limit (codes "nodes") count (node_limit blocks))

-- so is a budget
abbrev pub BudgetTested : Bool → Option ℕ → ℕ → Result ℕ Refusal → Type 0
BudgetTested is_long nodes blocks = CountTested is_long (budget_of nodes blocks) blocks

-- the design of admitted parts, where the budget is within its limit
abbrev pub BudgetedDesign : PlanOptions → WeighedParts → Result Design Refusal → Type 0
BudgetedDesign o read = Then (BudgetTested o.is_long o.nodes (length read.parts.blocks)) (λ budget. DesignMade o.design o.weights read)

-- the files stand for this design, and the budget is within its limit
abbrev pub PlanDesign : Option Contents → PlanOptions → Result Design Refusal → Type 0
PlanDesign held o = Then (PartsAdmitted held o.design o.weights) (BudgetedDesign o)

-- the same design, and then what its search begins with where the file of a placement is named
abbrev pub BegunDesign : Option Contents → PlanOptions → WeighedParts → Result (Design × Option Beginning) Refusal → Type 0
BegunDesign held o read = Then (BudgetedDesign o read) (With (BeginRead held o read.parts))

-- all that the files stand for which the words name
abbrev pub PlanInput : Option Contents → PlanOptions → Result (Design × Option Beginning) Refusal → Type 0
PlanInput held o = Then (PartsAdmitted held o.design o.weights) (BegunDesign held o)

-- the design that knows what was asked for, where nothing of all that is refused
abbrev pub PlanRead : Option Contents → PlanOptions → Result Design Refusal → Type 0
PlanRead held o = Then (PlanInput held o) (λ input. MadeKnown o.bounds input.0)

-- how a search ended: optimal, with no plan since none fits, or with its budget spent
abbrev pub IsEnding : ℕ → ℕ → Outcome → Type 0
IsEnding cost bound word.Optimal = (cost < MAX) × (bound ≡ cost)
IsEnding cost bound word.NoneFits = (cost ≡ MAX) × (bound ≡ MAX)
IsEnding cost bound word.Open = bound < cost

-- the status that goes with the word of a search
abbrev pub outcome_status : Outcome → Status
outcome_status word.Optimal = Done
outcome_status word.NoneFits = NoneFits
outcome_status word.Open = Open

-- what is measured of the plan that an expression spells
pub record AreMeasures (design : Design) (expr : Expr) (spots : List Spot) (w h length_of_wires : ℕ) : Type 0 where
  pub tree : Tree
  pub spells : Spells expr tree
  pub spots_are : spots ≡ by_number (block_count design) (spots_of tree)
  pub wide : w ≡ width tree
  pub high : h ≡ height tree
  pub wired : length_of_wires ≡ wire design (spots_of tree)

-- the placement is stored behind the certificate where its name is given
abbrev pub placement_stores : Design → ℕ → Option (List ℕ) → List Spot → List Stored
placement_stores design scale None spots = []
placement_stores design scale (Some name) spots = (name, pl_text design spots scale) ∷ []

-- what is stored and printed of a certificate without a plan, and of one with a plan that is measured
abbrev pub IsTold : Design → ℕ → List ℕ → Option (List ℕ) → Outcome → Cert → Option Expr → List Stored → List ℕ → Type 0
IsTold design scale name pl said cert None stored printed =
    (stored ≡ (name, cert_text cert) ∷ [])
    × (printed ≡ report_text (record { word = said; cost = cert.cost; bound = cert.bound; decided = decided cert.tags; size = (0, 0); area = 0; wire = 0; plan = None }))
IsTold design scale name pl said cert (Some expr) stored printed =
    (spots : List Spot) × (w h wires : ℕ) × AreMeasures design expr spots w h wires
    × (stored ≡ (name, cert_text cert) ∷ placement_stores design scale pl spots)
    × (printed ≡ report_text (record { word = said; cost = cert.cost; bound = cert.bound; decided = decided cert.tags; size = (w, h); area = w * h; wire = wires; plan = Some expr }))

-- the certificate of a search of the design by so many workers with this budget, which begins with a plan of so high a cost, or with none: valid by a bound and its parts, with the paths of the design, each closed subproblem naming the first part that is at least the cost, the cost no higher than that of the plan that it began with, and where it began with none, with one worker found by the turns of the search core
pub record IsSearchedBy (value : Parts → ℕ) (part : Parts → Part → ℕ) (design : Design) (workers budget : ℕ) (start : Option (Expr × ℕ)) (cert : Cert) : Type 0 where
  pub valid : IsValid design value part cert
  pub named : AllNameFirst design part cert.cost cert.tags
  pub blocks : cert.blocks ≡ block_count design
  pub paths : cert.paths ≡ design.routes.paths
  pub few : decided cert.tags ≤ budget
  pub spent : cert.bound < cert.cost → decided cert.tags ≡ budget
  pub ended : full design ≤ budget → cert.bound ≡ cert.cost
  pub lower : IfSome start (λ plan. cert.cost ≤ plan.1)
  pub run : workers ≡ 1 → start ≡ None → IsCertOf design (turns design value budget (opening design value 1)) cert

-- the same by the bound that was chosen
abbrev pub IsSearched : BoundsChoice → Design → ℕ → ℕ → Option (Expr × ℕ) → Cert → Type 0
IsSearched bounds design = IsSearchedBy (chosen_value bounds design) (chosen_part bounds design) design

-- the certificate of a search, and what of it is stored and printed
pub record IsReported (bounds : BoundsChoice) (design : Design) (scale : ℕ) (cert_name : List ℕ) (pl_name : Option (List ℕ)) (cert : Cert) (status : Status) (stored : List Stored) (printed : List ℕ) : Type 0 where
  -- no floorplan that fits costs less than the bound, and the answer to the certificate is Yes, whatever paths the design had before it took those of the certificate
  pub floor : IsFloor design cert.bound
  pub accepted : (read : Design) (answer : Answer) → Takes bounds read cert.paths design → IsChosenAnswer bounds read cert answer → is_yes answer ≡ true
  pub said : Outcome
  pub ending : IsEnding cert.cost cert.bound said
  pub status_is : status ≡ outcome_status said
  pub told : IsTold design scale cert_name pl_name said cert cert.plan stored printed

-- the answer of a search
pub record IsAnswered (bounds : BoundsChoice) (design : Design) (workers budget : ℕ) (start : Option (Expr × ℕ)) (scale : ℕ) (cert_name : List ℕ) (pl_name : Option (List ℕ)) (status : Status) (stored : List Stored) (printed : List ℕ) : Type 0 where
  pub cert : Cert
  pub searched : IsSearched bounds design workers budget start cert
  pub reported : IsReported bounds design scale cert_name pl_name cert status stored printed

-- the files stand for a design, and this is the answer of its search where it knows what was asked for and has the paths that were found, which begins with what walks find, with the plan to which a placement is packed that is given, or with what is known. Where that packed plan fits the outline, what is printed costs no more
pub record IsPlanned (o : PlanOptions) (before : Option Contents) (status : Status) (stored : List Stored) (printed : List ℕ) : Type 0 where
  pub read : Design
  pub begin : Option Beginning
  pub stands : PlanInput before o (Ok (read, begin))
  pub design : Design
  pub start : Option (Expr × ℕ)
  pub begun : IsSearchInput o.starts o.bounds read begin design start
  pub answered : IsAnswered o.bounds design o.workers (budget_of o.nodes (block_count design)) start o.design.per_unit o.cert o.pl_out status stored printed
  pub no_dearer : IfSome (begun_plan begin) (λ plan. answered.cert.cost ≤ plan.1)

-- What `gen` answers: the texts of a generated design are stored, and then it is searched as `plan` searches it.
use Rattle.std.specs.Prelude.{◌≡◌, ℕ, List, ◌++◌, codes, false, None, Result, Ok}
use Rattle.sf_io.specs.declared.status.Status.{Status}
use Rattle.sf_model.specs.declared.design.Design.{Design}
use Rattle.sf_model.specs.Legal.{block_count}
use Rattle.sf_options.specs.Options.{GenOptions}
use Rattle.sf_designs.specs.Outcome.{Refusal, Then}
use Rattle.sf_generated.specs.Made.{DesignGenerated, texts_stored}
use Rattle.sf_options.specs.declared.command.BoundsChoice.TheVariants.{Standard}
use Rattle.sf_program.specs.Planned.{BudgetTested, IsAnswered, budget_of}
use Rattle.sf_designs.specs.Stores.{Stored}

-- the name of the certificate
abbrev pub cert_name : GenOptions → List ℕ
cert_name o = o.out ++ codes ".cert"

-- the budget is tested first
abbrev pub GenRead : GenOptions → Result Design Refusal → Type 0
GenRead o = Then (BudgetTested false o.nodes o.count) (λ budget. DesignGenerated o)

-- the design is generated, its texts are stored, and what follows is the answer of its search
pub record IsGenerated (o : GenOptions) (status : Status) (stored : List Stored) (printed : List ℕ) : Type 0 where
  pub design : Design
  pub made : GenRead o (Ok design)
  pub searched : List Stored
  pub answered : IsAnswered Standard design 1 (budget_of o.nodes (block_count design)) None 1 (cert_name o) None status searched printed
  pub stored_is : stored ≡ texts_stored o ++ searched

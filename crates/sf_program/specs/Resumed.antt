-- What the command `resume` answers: the search goes on from a certificate.
use Rattle.std.specs.Prelude.{◌≡◌, ◌⊎◌, ℕ, ◌+◌, ◌<◌, ◌≤◌, List, [], Result, Ok, Err, Option, Bool}
use Rattle.sf_io.specs.Outside.{Contents}
use Rattle.sf_io.specs.declared.status.Status.{Status}
use Rattle.sf_io.specs.declared.status.Status.TheVariants.{No as NotValid}
use Rattle.sf_model.specs.declared.design.Design.{Design}
use Rattle.sf_model.specs.Legal.{block_count}
use Rattle.sf_certificate.specs.declared.cert.Cert.{Cert}
use Rattle.sf_certificate.specs.Named.{AllNameFirst}
use Rattle.sf_certificate.specs.Said.{said_by}
use Rattle.sf_certificate.specs.Valid.{IsValid, decided}
use Rattle.sf_checker.specs.declared.answer.Why.{Why}
use Rattle.sf_checker.specs.declared.answer.Answer.TheVariants.{No}
use Rattle.sf_known.specs.Routed.{Takes}
use Rattle.sf_resume.specs.Resumed.{full_open}
use Rattle.sf_options.specs.declared.command.BoundsChoice.{BoundsChoice}
use Rattle.sf_options.specs.Options.{ResumeOptions}
use Rattle.sf_program.specs.Chosen.{chosen_value, chosen_part}
use Rattle.sf_designs.specs.Outcome.{Refusal, Then}
use Rattle.sf_program.specs.Planned.{CountTested, IsReported}
use Rattle.sf_program.specs.Checked.{CertRead, IsChosenAnswer, answer_text}
use Rattle.sf_designs.specs.Reading.{With}
use Rattle.sf_program.specs.Knowing.{KnownRead}
use Rattle.sf_designs.specs.Stores.{Stored}

-- the certificate that the text under the name says
abbrev pub CertLoaded : Bool → Option Contents → List ℕ → Design → Result Cert Refusal → Type 0
CertLoaded is_long held name design (Ok cert) = CertRead is_long held name (block_count design) (Ok (said_by cert))
CertLoaded is_long held name design (Err why) = CertRead is_long held name (block_count design) (Err why)

-- the certificate is valid by the chosen bound and its parts
abbrev pub IsGood : BoundsChoice → Design → Cert → Type 0
IsGood bounds design cert = IsValid design (chosen_value bounds design) (chosen_part bounds design) cert

-- the same for the design that takes the certificate's paths
abbrev pub IsGoodWithPaths : BoundsChoice → Design → Cert → Type 0
IsGoodWithPaths bounds design cert = (routed : Design) × Takes bounds design cert.paths routed × IsGood bounds routed cert

-- where it is valid, the subproblems that it decides and the budget are counted together against the limit; the budget alone is not
abbrev pub SumTested : BoundsChoice → Bool → ℕ → Design → Cert → Result Cert Refusal → Type 0
SumTested bounds is_long nodes design cert (Ok same) = (same ≡ cert) × (IsGoodWithPaths bounds design cert → CountTested is_long (decided cert.tags + nodes) (block_count design) (Ok (decided cert.tags + nodes)))
SumTested bounds is_long nodes design cert (Err why) = IsGoodWithPaths bounds design cert × CountTested is_long (decided cert.tags + nodes) (block_count design) (Err why)

-- the certificate of a design, and then the limit
abbrev pub CertTaken : Option Contents → ResumeOptions → Design → Result Cert Refusal → Type 0
CertTaken held o design = Then (CertLoaded o.is_long held o.cert design) (SumTested o.bounds o.is_long o.nodes design)

-- the design first, and then the certificate for its blocks
abbrev pub ResumeRead : Option Contents → ResumeOptions → Result (Design × Cert) Refusal → Type 0
ResumeRead held o = Then (KnownRead held o.design o.weights o.bounds) (With (CertTaken held o))

-- a certificate that is not valid: the line of its first failure, and nothing is stored
pub record IsRejected (bounds : BoundsChoice) (design : Design) (cert : Cert) (status : Status) (stored : List Stored) (printed : List ℕ) : Type 0 where
  pub invalid : IsGoodWithPaths bounds design cert → ⊥
  pub why : Why
  pub answered : IsChosenAnswer bounds design cert (No why)
  pub status_is : status ≡ NotValid
  pub unstored : stored ≡ []
  pub prints : printed ≡ answer_text (No why)

-- the certificate of a search that went on from an older one with this budget: valid for the whole space of plans, with the paths of the design, each closed subproblem naming the first part that is at least the cost; exactly so many more are decided where the bound stays below the cost, and it doesn't where the budget is that of all subproblems at and below those that were open
pub record IsSearchedOn (bounds : BoundsChoice) (design : Design) (old : Cert) (budget : ℕ) (cert : Cert) : Type 0 where
  pub valid : IsGood bounds design cert
  pub named : AllNameFirst design (chosen_part bounds design) cert.cost cert.tags
  pub blocks : cert.blocks ≡ block_count design
  pub paths : cert.paths ≡ design.routes.paths
  pub lower : cert.cost ≤ old.cost
  pub few : decided cert.tags ≤ decided old.tags + budget
  pub spent : cert.bound < cert.cost → decided cert.tags ≡ decided old.tags + budget
  pub ended : full_open design old ≤ budget → cert.bound ≡ cert.cost

-- the certificate is valid, and this is the answer of the search that goes on from it
pub record IsGoneOn (bounds : BoundsChoice) (design : Design) (old : Cert) (budget scale : ℕ) (cert_name : List ℕ) (pl_name : Option (List ℕ)) (status : Status) (stored : List Stored) (printed : List ℕ) : Type 0 where
  pub good : IsGood bounds design old
  pub cert : Cert
  pub searched : IsSearchedOn bounds design old budget cert
  pub reported : IsReported bounds design scale cert_name pl_name cert status stored printed

-- the same for the design that takes the certificate's paths
pub record IsGoneOnWithPaths (o : ResumeOptions) (design : Design) (old : Cert) (status : Status) (stored : List Stored) (printed : List ℕ) : Type 0 where
  pub routed : Design
  pub takes : Takes o.bounds design old.paths routed
  pub gone_on : IsGoneOn o.bounds routed old o.nodes o.design.per_unit o.cert_out o.pl_out status stored printed

-- what is answered to a certificate
abbrev pub IsTakenUp : ResumeOptions → Design → Cert → Status → List Stored → List ℕ → Type 0
IsTakenUp o design cert status stored printed =
    IsRejected o.bounds design cert status stored printed ⊎ IsGoneOnWithPaths o design cert status stored printed

-- the files stand for a design and a certificate, and this is answered to it
pub record IsContinued (o : ResumeOptions) (before : Option Contents) (status : Status) (stored : List Stored) (printed : List ℕ) : Type 0 where
  pub design : Design
  pub cert : Cert
  pub reads : ResumeRead before o (Ok (design, cert))
  pub taken_up : IsTakenUp o design cert status stored printed

-- What the command `check` answers.
use Rattle.std.specs.Prelude.{◌≡◌, ℕ, ◌^◌, ◌⊎◌, List, [], ◌∷◌, ◌++◌, codes, Option, Some, None, Result, Ok, Bool, true, false}
use Rattle.std.specs.Fmt.{decimal}
use Rattle.sf_io.specs.Outside.{Contents}
use Rattle.sf_io.specs.declared.status.Status.{Status}
use Rattle.sf_io.specs.declared.status.Status.TheVariants as status
use Rattle.sf_model.specs.declared.design.Design.{Design}
use Rattle.sf_model.specs.Legal.{block_count}
use Rattle.sf_certificate.specs.declared.cert.Cert.{Cert}
use Rattle.sf_cert_text.specs.declared.fault.CertFault.{CertFault}
use Rattle.sf_cert_text.specs.declared.fault.CertFault.TheVariants as fault
use Rattle.sf_certificate.specs.Named.{AllNameFirst, AreAlikeButNames}
use Rattle.sf_certificate.specs.Said.{Said, said_by}
use Rattle.sf_cert_text.specs.Reading.{cert_read}
use Rattle.sf_cert_text.specs.Text.{cert_text}
use Rattle.sf_model.specs.CostText.{cost_text}
use Rattle.sf_checker.specs.declared.answer.Why.{Why}
use Rattle.sf_checker.specs.declared.answer.Why.TheVariants.{BadPlan, CostDiffers, NotClosed, BoundDiffers, BadSplit, BadChildren, BadPath}
use Rattle.sf_checker.specs.declared.answer.Answer.{Answer}
use Rattle.sf_checker.specs.declared.answer.Answer.TheVariants.{Yes, No}
use Rattle.sf_checker.specs.Answers.{IsAnswer, is_yes, with_bad_path}
use Rattle.sf_known.specs.Routed.{Breaks, Takes}
use Rattle.sf_options.specs.declared.command.BoundsChoice.{BoundsChoice}
use Rattle.sf_options.specs.Options.{CheckOptions}
use Rattle.sf_program.specs.Chosen.{chosen_value, chosen_part}
use Rattle.sf_designs.specs.Outcome.{Refusal, Then}
use Rattle.sf_designs.specs.Refusals.{line_of, bad_input, no_line}
use Rattle.sf_designs.specs.Reading.{TextWithin, Judged}
use Rattle.sf_program.specs.Knowing.{KnownRead}
use Rattle.sf_designs.specs.Stores.{Stored}

-- a text that is no certificate; want of memory has no line, and is not met
abbrev pub cert_refusal : CertFault → Refusal
cert_refusal (fault.BadHeader line) = bad_input (codes "cert") line (codes "BadHeader" ∷ [])
cert_refusal (fault.BadTag line) = bad_input (codes "cert") line (codes "BadTag" ∷ [])
cert_refusal (fault.TooDeep line) = bad_input (codes "cert") line (codes "TooDeep" ∷ [])
cert_refusal (fault.Truncated line) = bad_input (codes "cert") line (codes "Truncated" ∷ [])
cert_refusal (fault.Trailing line) = bad_input (codes "cert") line (codes "Trailing" ∷ [])
cert_refusal fault.NoMemory = no_line

-- the most bytes that a certificate may have: 64 MiB, or 64 GiB where it may be that of a long search
abbrev pub cert_limit : Bool → ℕ
cert_limit false = 2 ^ 26
cert_limit true = 2 ^ 36

-- what the text under the name says as the certificate of so many blocks
abbrev pub CertRead : Bool → Option Contents → List ℕ → ℕ → Result Said Refusal → Type 0
CertRead is_long held name blocks = Then (TextWithin (cert_limit is_long) held name) (λ text. Judged (cert_read blocks text) cert_refusal)

-- the design first, and then the certificate for its blocks
abbrev pub CheckRead : Option Contents → CheckOptions → Result Said Refusal → Type 0
CheckRead held o = Then (KnownRead held o.design o.weights o.bounds) (λ design. CertRead o.is_long held o.cert (block_count design))

-- the words for a failure, with `none` for MAX
abbrev pub why_words : Why → List (List ℕ)
why_words BadPlan = codes "BadPlan" ∷ []
why_words (CostDiffers said is) = codes "CostDiffers" ∷ cost_text said ∷ cost_text is ∷ []
why_words (NotClosed node bound cost) = codes "NotClosed" ∷ decimal node ∷ cost_text bound ∷ cost_text cost ∷ []
why_words (BoundDiffers said is) = codes "BoundDiffers" ∷ cost_text said ∷ cost_text is ∷ []
why_words (BadSplit node) = codes "BadSplit" ∷ decimal node ∷ []
why_words (BadChildren node) = codes "BadChildren" ∷ decimal node ∷ []
why_words (BadPath path) = codes "BadPath" ∷ decimal path ∷ []

-- four lines for a valid certificate, and one with the first failure
abbrev pub answer_text : Answer → List ℕ
answer_text (Yes cost bound decided) =
    line_of (codes "status" ∷ codes "Yes" ∷ [])
    ++ (line_of (codes "cost" ∷ cost_text cost ∷ [])
    ++ (line_of (codes "bound" ∷ cost_text bound ∷ [])
    ++ line_of (codes "decided" ∷ decimal decided ∷ [])))
answer_text (No why) = line_of (codes "status" ∷ codes "No" ∷ why_words why)

-- done exactly at Yes
abbrev pub answer_status : Answer → Status
answer_status (Yes cost bound decided) = status.Done
answer_status (No why) = status.No

-- the checker's answer by the chosen bound, for the design that takes the certificate's paths
pub record IsAnswerWithPaths (bounds : BoundsChoice) (design : Design) (cert : Cert) (answer : Answer) : Type 0 where
  pub routed : Design
  pub takes : Takes bounds design cert.paths routed
  pub answered : IsAnswer routed (chosen_value bounds routed) (chosen_part bounds routed) cert answer

-- the answer to a certificate of which a path is not legal: the first such path, behind a failure of plan or cost
pub record IsWrongPathAnswer (bounds : BoundsChoice) (design : Design) (cert : Cert) (answer : Answer) : Type 0 where
  pub path : ℕ
  pub breaks : Breaks bounds design cert.paths path
  pub found : Answer
  pub answered : IsAnswer design (chosen_value bounds design) (chosen_part bounds design) cert found
  pub is : answer ≡ with_bad_path path found

-- the answer to a certificate by the chosen bound
abbrev pub IsChosenAnswer : BoundsChoice → Design → Cert → Answer → Type 0
IsChosenAnswer bounds design cert answer = IsAnswerWithPaths bounds design cert answer ⊎ IsWrongPathAnswer bounds design cert answer

-- the text says a certificate for the blocks of the design, and this is the answer to it
pub record IsTextAnswer (bounds : BoundsChoice) (design : Design) (text : List ℕ) (answer : Answer) : Type 0 where
  pub cert : Cert
  pub reads : cert_read (block_count design) text ≡ Ok (said_by cert)
  pub answered : IsChosenAnswer bounds design cert answer

-- the same certificate, each closed subproblem naming the first part of the bound that is at least the cost; the checker says Yes to it
pub record IsRenamed (bounds : BoundsChoice) (design : Design) (old new : Cert) : Type 0 where
  pub alike : AreAlikeButNames old new
  pub routed : Design
  pub takes : Takes bounds design old.paths routed
  pub named : AllNameFirst routed (chosen_part bounds routed) new.cost new.tags
  pub accepted : (answer : Answer) → IsChosenAnswer bounds design new answer → is_yes answer ≡ true

-- the certificate is stored under the name with its parts named so
abbrev pub IsStoredAnew : BoundsChoice → Design → Cert → List ℕ → List Stored → Type 0
IsStoredAnew bounds design cert name stored = (new : Cert) × IsRenamed bounds design cert new × (stored ≡ (name, cert_text new) ∷ [])

-- what is stored of a certificate with this answer: nothing at No, nor where no name is given
abbrev pub IsRewritten : BoundsChoice → Design → Cert → Option (List ℕ) → Answer → List Stored → Type 0
IsRewritten bounds design cert None answer stored = stored ≡ []
IsRewritten bounds design cert (Some name) (No why) stored = stored ≡ []
IsRewritten bounds design cert (Some name) (Yes cost bound decided) stored = IsStoredAnew bounds design cert name stored

-- the checker's answer to a certificate by the chosen bound and its parts, and what is stored and printed of it
pub record IsJudged (bounds : BoundsChoice) (design : Design) (cert : Cert) (rewrite : Option (List ℕ)) (status : Status) (stored : List Stored) (printed : List ℕ) : Type 0 where
  pub answer : Answer
  pub answered : IsChosenAnswer bounds design cert answer
  pub status_is : status ≡ answer_status answer
  pub rewritten : IsRewritten bounds design cert rewrite answer stored
  pub prints : printed ≡ answer_text answer

-- the text says a certificate for the blocks of the design, which is judged
pub record JudgedText (bounds : BoundsChoice) (design : Design) (text : List ℕ) (rewrite : Option (List ℕ)) (status : Status) (stored : List Stored) (printed : List ℕ) : Type 0 where
  pub cert : Cert
  pub reads : cert_read (block_count design) text ≡ Ok (said_by cert)
  pub judged : IsJudged bounds design cert rewrite status stored printed

-- the text under the name does
pub record JudgedFile (bounds : BoundsChoice) (is_long : Bool) (held : Option Contents) (name : List ℕ) (design : Design) (rewrite : Option (List ℕ)) (status : Status) (stored : List Stored) (printed : List ℕ) : Type 0 where
  pub cert : Cert
  pub reads : CertRead is_long held name (block_count design) (Ok (said_by cert))
  pub judged : IsJudged bounds design cert rewrite status stored printed

-- the files stand for a design and a certificate, which is judged
pub record IsChecked (o : CheckOptions) (before : Option Contents) (status : Status) (stored : List Stored) (printed : List ℕ) : Type 0 where
  pub design : Design
  pub reads : KnownRead before o.design o.weights o.bounds (Ok design)
  pub file : JudgedFile o.bounds o.is_long before o.cert design o.rewrite status stored printed

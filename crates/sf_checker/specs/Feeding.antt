-- What a text has come to that is fed in pieces, and what is answered to it.
use Rattle.std.specs.Prelude.{◌≡◌, ◌≢◌, ℕ, List, Result, Ok, Err, IfOk, IfErr}
use Rattle.sf_model.specs.declared.design.Design.{Design}
use Rattle.sf_model.specs.Legal.{block_count}
use Rattle.sf_node.specs.declared.part.Part.{Part}
use Rattle.sf_node.specs.Parts.{Parts}
use Rattle.sf_certificate.specs.declared.cert.Cert.{Cert}
use Rattle.sf_cert_text.specs.declared.fault.CertFault.{CertFault}
use Rattle.sf_cert_text.specs.declared.fault.CertFault.TheVariants.{NoMemory}
use Rattle.sf_certificate.specs.Said.{said_by}
use Rattle.sf_cert_text.specs.Reading.{cert_read}
use Rattle.sf_checker.specs.declared.answer.Answer.{Answer}
use Rattle.sf_checker.specs.declared.stage.Stage.{Stage}
use Rattle.sf_checker.specs.Answers.{IsAnswer}
use Rattle.sf_checker.specs.Stages.{HoldsOneWay, IsStage, IsWanting}

-- the text spells a certificate for the blocks of the design, and this is the answer to it
pub record IsAnswerTo (design : Design) (bound : Parts → ℕ) (part : Parts → Part → ℕ) (text : List ℕ) (answer : Answer) : Type 0 where
  pub cert : Cert
  pub reads : cert_read (block_count design) text ≡ Ok (said_by cert)
  pub answered : IsAnswer design bound part cert answer

-- where a stage stands for a text that goes no further, the answer is one to the certificate that the text spells
abbrev pub AnswersAt : Design → (Parts → ℕ) → (Parts → Part → ℕ) → Stage → Result Answer CertFault → Type 0
AnswersAt design bound part stage result = (text : List ℕ) → IsStage design bound part text stage → IfOk result (IsAnswerTo design bound part text)

-- where a stage stands for a text that goes no further, a fault is that of the text
abbrev pub FaultsAt : Design → (Parts → ℕ) → (Parts → Part → ℕ) → Stage → Result Answer CertFault → Type 0
FaultsAt design bound part stage result = (text : List ℕ) → IsStage design bound part text stage → IfErr result (λ e. e ≢ NoMemory → cert_read (block_count design) text ≡ Err e)

-- the design, the bounds and the stage of a checking that was fed this text; the values are those of the bounds and of their parts
pub record IsFed {B : Type 0} (value : B → Design → Parts → ℕ) (part_value : B → Design → Parts → Part → ℕ) (design : Design) (bound : Parts → ℕ) (part : Parts → Part → ℕ) (text : List ℕ) (fed : Design × B × Stage) : Type 0 where
  pub serves : fed.0 ≡ design
  pub worth : value fed.1 design ≡ bound
  pub part_worth : part_value fed.1 design ≡ part
  pub stage : IsStage design bound part text fed.2

-- memory was wanting when it was fed
abbrev pub IsSpent : {B : Type 0} → Design × B × Stage → Type 0
IsSpent fed = IsWanting fed.2

-- of the tree it holds one way at most: that to a subproblem of its design, of 3,199 steps at most
abbrev pub KeepsOneWay : {B : Type 0} → Design × B × Stage → Type 0
KeepsOneWay fed = HoldsOneWay fed.0 fed.2

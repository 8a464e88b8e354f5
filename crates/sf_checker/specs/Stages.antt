-- How a check stands between two pieces of a text. These are words of its loop over the pieces; what it answers stands in
-- Feeding.
use Rattle.std.specs.Prelude.{◌≡◌, ◌≢◌, ◌==◌, ⊤, ℕ, List, ◌++◌, MatchOption, Result, Err, OnOk, IfErr}
use Rattle.sf_model.specs.declared.design.Design.{Design}
use Rattle.sf_model.specs.declared.TheConstants.{MAX}
use Rattle.sf_model.specs.Legal.{block_count}
use Rattle.sf_polish.specs.Writable.{IsWritable}
use Rattle.sf_node.specs.declared.part.Part.{Part}
use Rattle.sf_node.specs.Parts.{Parts}
use Rattle.sf_certificate.specs.declared.cert.Cert.{Cert}
use Rattle.sf_cert_text.specs.declared.fault.CertFault.{CertFault}
use Rattle.sf_cert_text.specs.declared.fault.CertFault.TheVariants.{NoMemory}
use Rattle.sf_certificate.specs.declared.tag.Tag.{Tag}
use Rattle.sf_certificate.specs.Form.{no_plan}
use Rattle.sf_cert_text.specs.Bytes.{IsPart, bytes_on, said_with}
use Rattle.sf_cert_text.specs.Reading.{cert_read}
use Rattle.sf_cert_text.specs.Reader.{with_tags}
use Rattle.sf_cursor.specs.Path.{IsOneWay}
use Rattle.sf_checker.specs.declared.stage.Body.{Body}
use Rattle.sf_checker.specs.declared.stage.Stage.{Stage}
use Rattle.sf_checker.specs.declared.stage.Stage.TheVariants.{Opening, Tree, Fault}
use Rattle.sf_checker.specs.Standing.{IsSteady, IsFound}

-- the text has this fault, whatever follows
abbrev pub IsFaulty : Design → List ℕ → CertFault → Type 0
IsFaulty design text fault = (rest : List ℕ) → cert_read (block_count design) (text ++ rest) ≡ Err fault

-- whatever follows the text, it is read as the header, the tags so far and what the reader makes of the rest; and this is
-- found of each certificate that begins so
pub record IsBody (design : Design) (bound : Parts → ℕ) (part : Parts → Part → ℕ) (text : List ℕ) (body : Body) : Type 0 where
  pub agrees : no_plan body.header.plan ≡ (body.header.cost == MAX)
  pub writable : MatchOption body.header.plan ⊤ (IsWritable (block_count design))
  pub tags : List Tag
  pub reads : (rest : List ℕ) → cert_read (block_count design) (text ++ rest) ≡ said_with (block_count design) body.header (with_tags tags (bytes_on (block_count design) body.reader rest))
  pub judged : (cert : Cert) (more : List Tag) → cert.plan ≡ body.header.plan → cert.cost ≡ body.header.cost → cert.tags ≡ tags ++ more → IsFound design bound part cert tags body.judge

-- the stage that a text leads to
abbrev pub IsStage : Design → (Parts → ℕ) → (Parts → Part → ℕ) → List ℕ → Stage → Type 0
IsStage design bound part text (Opening bytes) = bytes ≡ text
IsStage design bound part text (Tree body) = IsBody design bound part text body
IsStage design bound part text (Fault fault) = (fault ≢ NoMemory) × IsFaulty design text fault

-- where a stage stands for a text and a piece is fed without a fault, the stage afterwards stands for the text with the piece
abbrev pub FeedsOn : {X E : Type 0} → Design → (Parts → ℕ) → (Parts → Part → ℕ) → Stage → List ℕ → Result X E → Stage → Type 0
FeedsOn design bound part old piece result new = (text : List ℕ) → IsStage design bound part text old → OnOk result (IsStage design bound part (text ++ piece) new)

-- where a stage stands for a text and a piece is fed, a fault is that of the text with the piece, whatever follows
abbrev pub FaultsOn : {X : Type 0} → Design → (Parts → ℕ) → (Parts → Part → ℕ) → Stage → List ℕ → Result X CertFault → Type 0
FaultsOn design bound part old piece result = (text : List ℕ) → IsStage design bound part text old → IfErr result (λ e. e ≢ NoMemory → IsFaulty design (text ++ piece) e)

-- the next byte can be taken
abbrev pub IsReady : Design → (Parts → ℕ) → Stage → Type 0
IsReady design bound (Opening bytes) = IsPart bytes
IsReady design bound (Tree body) = IsSteady design bound body.judge
IsReady design bound (Fault fault) = ⊤

-- a stage holds one way at most, to a subproblem of the design: none before the tree is read, and none after a fault
abbrev pub HoldsOneWay : Design → Stage → Type 0
HoldsOneWay design (Opening bytes) = ⊤
HoldsOneWay design (Tree body) = IsOneWay design body.judge.walk.path
HoldsOneWay design (Fault fault) = ⊤

-- between two pieces the next byte can be taken, and one way is held at most
pub record IsBetween (design : Design) (bound : Parts → ℕ) (stage : Stage) : Type 0 where
  pub ready : IsReady design bound stage
  pub way : HoldsOneWay design stage

-- the tree is not read
abbrev pub IsOutside : Stage → Type 0
IsOutside (Opening bytes) = ⊤
IsOutside (Tree body) = ⊥
IsOutside (Fault fault) = ⊤

-- memory was wanting
abbrev pub IsWanting : Stage → Type 0
IsWanting stage = stage ≡ Fault NoMemory

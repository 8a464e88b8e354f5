-- What every stage takes is answered, and not refused.
use Rattle.std.proofs.Common.{◌≡◌, inl, inr, ℕ, Bool, true, false, List, Option, Some, Result, Err, refl, sym, ◌∙◌, subst}
use Rattle.sf_program.proofs.Common.{IsFalse, Contents, Status, Done, NoneFits, Usage, Open, No, BadInput, OverLimit, ReadFault, WriteFault, NoMemory, Command, plan, check, resume, measure, shape, gen, Means, meaning_unique, Answers, CommandAnswer, CommandRefuses, IsAnswer, IsRefused, RefusesWords, CheckRead, GenRead, Answer, GivesOne, IsAnswerTo, Refusal, refused, lost, ResumeRead, ShapeRead, Stored, HasSearched}
use Rattle.sf_program.specs.Complete.{EndsJudging, EndsResuming, HasValue, IsOwnEnd, IsTaken, MayEnd}
use Rattle.sf_measuring.specs.Measured as measured
use Rattle.sf_program.specs.Planned as planned
use Rattle.sf_program.proofs.Endings.{said-ends, judged-ends, checked-ends, taken-up-ends}
use Rattle.sf_program.proofs.Once.{no-refusal}
use Rattle.sf_program.proofs.OneChecked.{check-read-one, measure-read-one, shape-read-one}
use Rattle.sf_program.proofs.OneKnown.{plan-one}
use Rattle.sf_program.proofs.OneResumed.{resume-read-one}
use Rattle.sf_program.proofs.OneSearched.{gen-one}

-- a stage that gives a value refuses nothing
never-refused : {any : Bool} {X : Type 0} (Read : Result X Refusal → Type 0) → GivesOne any Read → HasValue Read → (a : Answer) → IsRefused (λ why. Read (Err why)) a.0 a.1 a.2 → ⊥
never-refused Read once taken a r = no-refusal Read once taken.0 (refused a.0 a.2) (λ t. tt) taken.1 r.1

module _ (contents : Contents) where
  -- a command whose texts every stage takes ends by a status of its own
  command-ends : (command : Command) (a : Answer) → IsTaken command contents → CommandAnswer command (Some contents) a.0 a.1 a.2 → IsOwnEnd command a.0
  command-ends (plan o) a taken h =
      elim h [ inl p ↦ subst HasSearched (sym p.answered.reported.status_is) (said-ends HasSearched tt tt tt p.answered.reported.said) | inr r ↦ absurd (never-refused (planned.PlanRead (Some contents) o) (plan-one contents o) taken a r) ]
  command-ends (check o) a taken h =
      elim h [ inl p ↦ subst EndsJudging (sym p.file.judged.status_is) (checked-ends EndsJudging tt tt p.file.judged.answer) | inr r ↦ absurd (never-refused (CheckRead (Some contents) o) (check-read-one contents o) taken a r) ]
  command-ends (resume o) a taken h =
      elim h [ inl p ↦ taken-up-ends EndsResuming tt tt tt tt o p.design p.cert a.0 a.1 a.2 p.taken_up | inr r ↦ absurd (never-refused (ResumeRead (Some contents) o) (resume-read-one contents o) taken a r) ]
  command-ends (measure o) a taken h =
      elim h [ inl p ↦ subst EndsJudging (sym p.0.status_is) (judged-ends EndsJudging tt tt p.0.verdict) | inr r ↦ absurd (never-refused (measured.MeasureRead (Some contents) o) (measure-read-one contents o) taken a r) ]
  command-ends (shape o) a taken h =
      elim h [ inl p ↦ subst (IsOwnEnd (shape o)) (sym p.0.status_is) tt | inr r ↦ absurd (never-refused (ShapeRead (Some contents) o) (shape-read-one contents o) taken a r) ]
  command-ends (gen o) a taken h =
      elim h [ inl p ↦ subst HasSearched (sym p.answered.reported.status_is) (said-ends HasSearched tt tt tt p.answered.reported.said) | inr r ↦ absurd (never-refused (GenRead o) (gen-one contents.may_fail o) taken a r) ]

  -- words of a command whose texts every stage takes end by a status of its own
  pub words-end : (words : List (List ℕ)) (command : Command) (a : Answer) → Means words command → IsTaken command contents → IsAnswerTo words contents a → IsOwnEnd command a.0
  words-end words command a means taken h =
      elim h [
        | inl x ↦ absurd (x.0 command means)
        | inr x ↦ command-ends command a taken (subst (λ (c : Command). CommandAnswer c (Some contents) a.0 a.1 a.2) (meaning_unique words x.0 command x.1 means) x.2)
      ]

-- ---- files that are lost

-- a stage that gives a value loses no file
never-lost : {X : Type 0} (contents : Contents) (Read : Result X Refusal → Type 0) → GivesOne contents.may_fail Read → IsFalse contents.may_fail → HasValue Read → Read (Err lost) → ⊥
never-lost contents Read once sure taken gone =
    no-refusal Read once taken.0 lost (λ t. absurd (let e : true ≡ false = sym t ∙ sure in cc)) taken.1 gone

module _ (contents : Contents) where
  -- no file is lost of a command whose texts every stage takes, where loads fail only at names without a text
  command-keeps : (command : Command) → IsFalse contents.may_fail → IsTaken command contents → CommandRefuses command (Some contents) lost → ⊥
  command-keeps (plan o) sure taken h = never-lost contents (planned.PlanRead (Some contents) o) (plan-one contents o) sure taken h
  command-keeps (check o) sure taken h = never-lost contents (CheckRead (Some contents) o) (check-read-one contents o) sure taken h
  command-keeps (resume o) sure taken h = never-lost contents (ResumeRead (Some contents) o) (resume-read-one contents o) sure taken h
  command-keeps (measure o) sure taken h = never-lost contents (measured.MeasureRead (Some contents) o) (measure-read-one contents o) sure taken h
  command-keeps (shape o) sure taken h = never-lost contents (ShapeRead (Some contents) o) (shape-read-one contents o) sure taken h
  command-keeps (gen o) sure taken h = never-lost contents (GenRead o) (gen-one contents.may_fail o) sure taken h

  -- no file is lost of words of a command whose texts every stage takes, where loads fail only at names
  -- without a text
  pub words-keep : (words : List (List ℕ)) (command : Command) → Means words command → IsFalse contents.may_fail → IsTaken command contents → RefusesWords words (Some contents) lost → ⊥
  words-keep words command means sure taken h =
      command-keeps command sure taken (subst (λ (c : Command). CommandRefuses c (Some contents) lost) (meaning_unique words h.0 command h.1 means) h.2)

-- ---- a run

-- an answer has this status
abbrev pub IsAnswered : List (List ℕ) → Option Contents → Status → Type 0
IsAnswered words before status = (stored : List Stored) × (printed : List ℕ) × Answers words before status stored printed

module _ (words : List (List ℕ)) (command : Command) (contents : Contents) (means : Means words command) (sure : IsFalse contents.may_fail) (taken : IsTaken command contents) where
  -- an answer to words whose texts every stage takes ends by a status of the command's own
  own-end : (status : Status) → IsAnswered words (Some contents) status → IsOwnEnd command status
  own-end status a = words-end contents words command (status, a.0, a.1) means taken a.2

  -- a run that answers, loses a file or is halted, and nothing else
  may-end : (status : Status) → (IsAnswer status → IsAnswered words (Some contents) status) → (status ≡ ReadFault → RefusesWords words (Some contents) lost) → MayEnd command status
  may-end Done a l = own-end Done (a tt)
  may-end NoneFits a l = own-end NoneFits (a tt)
  may-end Usage a l = own-end Usage (a tt)
  may-end Open a l = own-end Open (a tt)
  may-end No a l = own-end No (a tt)
  may-end BadInput a l = own-end BadInput (a tt)
  may-end OverLimit a l = own-end OverLimit (a tt)
  may-end ReadFault a l = absurd (words-keep contents words command means sure taken (l refl))
  may-end WriteFault a l = tt
  may-end NoMemory a l = tt

-- so `run` ends as the command may end
pub run-ends : (words : List (List ℕ)) (before : Option Contents) (status : Status) → (IsAnswer status → IsAnswered words before status) → (status ≡ ReadFault → RefusesWords words before lost)
    → (command : Command) (contents : Contents) → Means words command → before ≡ Some contents → IsFalse contents.may_fail → IsTaken command contents → MayEnd command status
run-ends words before status a l command contents means told sure taken =
    may-end words command contents means sure taken status
    (λ h. subst (λ (b : Option Contents). IsAnswered words b status) told (a h))
    (λ e. subst (λ (b : Option Contents). RefusesWords words b lost) told (l e))

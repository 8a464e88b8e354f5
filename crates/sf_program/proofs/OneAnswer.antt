-- Words and texts have one answer.
use Rattle.std.proofs.Common.{◌≡◌, ◌⊎◌, inl, inr, Bool, ℕ, List, [], Option, Some, Result, Ok, Err, refl, sym, subst, ◌∙◌}
use Rattle.sf_program.proofs.Common.{Contents, Status, Usage, BadInput, OverLimit, Design, Command, GenOptions, PlanOptions, plan, check, resume, measure, shape, gen, ResumeOptions, IsContinued, ResumeRead, Cert, meaning_unique, CommandAnswer, IsDone, IsRefused, CheckRead, IsChecked, GenRead, IsGenerated, Answer, AskForOneWorker, AtMostOne, GivesOne, HasOneWorker, IsAnswerTo, IsDoneBy, refusal, Refusal, IsRefusal, refused, IsShaped, ShapeRead}
use Rattle.sf_measuring.specs.Measured as measured
use Rattle.sf_program.specs.Planned as planned
use Rattle.sf_program.proofs.Endings.{said-ends, judged-ends, checked-ends, taken-up-ends}
use Rattle.sf_program.proofs.Once.{no-refusal, same-refusal}
use Rattle.sf_program.proofs.OneChecked.{HasOneName, check-read-one, checked-one, checked-reads, measure-read-one, measured-one, measured-reads, shape-read-one, shaped-one, shaped-reads}
use Rattle.sf_program.proofs.OneKnown.{plan-one}
use Rattle.sf_program.proofs.OneResumed.{resume-read-one}
use Rattle.sf_program.proofs.OneSearched.{HasOneCert, gen-one, generated-one, planned-one}

-- answers with the same status, stored texts and printed text are one
triple : (a b : Answer) → a.0 ≡ b.0 → a.1 ≡ b.1 → a.2 ≡ b.2 → a ≡ b
triple a b p q r = λ i. (p i, q i, r i)

-- the statuses of a command that did what it was asked for
abbrev IsOwn : Status → Type 0
IsOwn BadInput = ⊥
IsOwn OverLimit = ⊥
IsOwn status = Unit {0}

-- no status of a command's own is a refusal's
not-own : (status : Status) → IsRefusal status → IsOwn status → ⊥
not-own status r h = elim r [ inl e ↦ subst IsOwn e h | inr e ↦ subst IsOwn e h ]

-- a command that reads, and then answers or is refused
module _ {X : Type 0} (any : Bool) (Read : Result X Refusal → Type 0) (once : GivesOne any Read) (Is : Answer → Type 0) (reads : (a : Answer) → Is a → (x : X) × Read (Ok x)) where
  -- the answer is a refusal
  abbrev Refused : Answer → Type 0
  Refused a = IsRefused (λ why. Read (Err why)) a.0 a.1 a.2

  -- the answer is the command's own or a refusal
  abbrev EndsAs : Answer → Type 0
  EndsAs a = Is a ⊎ Refused a

  -- two refusals are one
  refused-both : (a b : Answer) → Refused a → Refused b → a ≡ b
  refused-both a b p q =
      let why : refused a.0 a.2 ≡ refused b.0 b.2 = same-refusal Read once (refused a.0 a.2) (refused b.0 b.2) (λ t. (tt, tt)) p.1 q.1 in
      let status : a.0 ≡ b.0 = cc in
      let line : a.2 ≡ b.2 = cc in
      triple a b status (p.2 ∙ sym q.2) line

  -- what is answered is not refused
  answered-refused : (a b : Answer) → Is a → Refused b → ⊥
  answered-refused a b p q = let m = reads a p in no-refusal Read once m.0 (refused b.0 b.2) (λ t. tt) m.1 q.1

  -- so where the command's own answers are one, all are one
  one-of : AtMostOne Is → AtMostOne EndsAs
  one-of one a b p q =
      elim p [
        | inl x ↦ elim q [ inl y ↦ one a b x y | inr y ↦ absurd (answered-refused a b x y) ]
        | inr x ↦ elim q [ inl y ↦ absurd (answered-refused b a y x) | inr y ↦ refused-both a b x y ]
      ]

  -- where the command is refused, that is its answer
  refused-of : ((a : Answer) → Is a → IsOwn a.0) → (status : Status) (line : List ℕ) (b : Answer) → IsRefusal status → EndsAs (refusal status line) → EndsAs b → b ≡ refusal status line
  refused-of own status line b is p q =
      elim p [
        | inl x ↦ absurd (not-own status is (own (refusal status line) x))
        | inr x ↦ elim q [ inl y ↦ absurd (answered-refused b (refusal status line) y x) | inr y ↦ refused-both b (refusal status line) y x ]
      ]

-- the answer of a command on a shelf that tells what it holds
abbrev IsOf : Command → Contents → Answer → Type 0
IsOf command contents a = CommandAnswer command (Some contents) a.0 a.1 a.2

-- an answer that stores nothing is one where its status and its printed text are
silent-one : (Is : Answer → Type 0) → ((a b : Answer) → Is a → Is b → (a.0 ≡ b.0) × (a.2 ≡ b.2)) → AtMostOne (λ (a : Answer). Is a × (a.1 ≡ []))
silent-one Is one a b p q = let same = one a b p.0 q.0 in triple a b same.0 (p.1 ∙ sym q.1) same.1

module _ (contents : Contents) where
  -- what is planned was read
  planned-reads : (o : PlanOptions) (a : Answer) → planned.IsPlanned o (Some contents) a.0 a.1 a.2 → (design : Design) × planned.PlanRead (Some contents) o (Ok design)
  planned-reads o a p = (p.begun.known, inl ((p.read, p.begin), p.stands, p.begun.knows))

  -- what is gone on with was read
  continued-reads : (o : ResumeOptions) (a : Answer) → IsContinued o (Some contents) a.0 a.1 a.2 → (both : Design × Cert) × ResumeRead (Some contents) o (Ok both)
  continued-reads o a p = ((p.design, p.cert), p.reads)

  -- what is generated was made
  generated-reads : (o : GenOptions) (a : Answer) → IsGenerated o a.0 a.1 a.2 → (design : Design) × GenRead o (Ok design)
  generated-reads o a p = (p.design, p.made)

  -- a command by one worker has one answer
  command-one : HasOneCert → HasOneName → (command : Command) → HasOneWorker command → AtMostOne (IsOf command contents)
  command-one certs names (plan o) single =
      one-of contents.may_fail (planned.PlanRead (Some contents) o) (plan-one contents o) (λ a. planned.IsPlanned o (Some contents) a.0 a.1 a.2) (planned-reads o)
      (λ a b p q. let same = planned-one certs contents o single.0 single.1 single.2 single.3 a b p q in triple a b same.0 same.1 same.2)
  command-one certs names (check o) single =
      one-of contents.may_fail (CheckRead (Some contents) o) (check-read-one contents o) (λ a. IsChecked o (Some contents) a.0 a.1 a.2) (checked-reads contents o)
      (λ a b p q. let same = checked-one contents o names a b p q in triple a b same.0 same.1 same.2)
  command-one certs names (resume o) single = absurd single
  command-one certs names (measure o) single =
      one-of contents.may_fail (measured.MeasureRead (Some contents) o) (measure-read-one contents o) (λ a. measured.IsMeasured o (Some contents) a.0 a.2 × (a.1 ≡ [])) (λ a p. measured-reads contents o a p.0)
      (silent-one (λ a. measured.IsMeasured o (Some contents) a.0 a.2) (measured-one contents o))
  command-one certs names (shape o) single =
      one-of contents.may_fail (ShapeRead (Some contents) o) (shape-read-one contents o) (λ a. IsShaped o (Some contents) a.0 a.2 × (a.1 ≡ [])) (λ a p. shaped-reads contents o a p.0)
      (silent-one (λ a. IsShaped o (Some contents) a.0 a.2) (shaped-one contents o))
  command-one certs names (gen o) single =
      one-of contents.may_fail (GenRead o) (gen-one contents.may_fail o) (λ a. IsGenerated o a.0 a.1 a.2) (generated-reads o)
      (λ a b p q. let same = generated-one certs o a b p q in triple a b same.0 same.1 same.2)

  -- where a command is refused, that is its only answer
  command-refused : (command : Command) (status : Status) (line : List ℕ) (b : Answer) → IsRefusal status → IsOf command contents (refusal status line) → IsOf command contents b → b ≡ refusal status line
  command-refused (plan o) status line b is p q =
      refused-of contents.may_fail (planned.PlanRead (Some contents) o) (plan-one contents o) (λ a. planned.IsPlanned o (Some contents) a.0 a.1 a.2) (planned-reads o)
      (λ a h. subst IsOwn (sym h.answered.reported.status_is) (said-ends IsOwn tt tt tt h.answered.reported.said)) status line b is p q
  command-refused (check o) status line b is p q =
      refused-of contents.may_fail (CheckRead (Some contents) o) (check-read-one contents o) (λ a. IsChecked o (Some contents) a.0 a.1 a.2) (checked-reads contents o)
      (λ a h. subst IsOwn (sym h.file.judged.status_is) (checked-ends IsOwn tt tt h.file.judged.answer)) status line b is p q
  command-refused (resume o) status line b is p q =
      refused-of contents.may_fail (ResumeRead (Some contents) o) (resume-read-one contents o) (λ a. IsContinued o (Some contents) a.0 a.1 a.2) (continued-reads o)
      (λ a h. taken-up-ends IsOwn tt tt tt tt o h.design h.cert a.0 a.1 a.2 h.taken_up) status line b is p q
  command-refused (measure o) status line b is p q =
      refused-of contents.may_fail (measured.MeasureRead (Some contents) o) (measure-read-one contents o) (λ a. measured.IsMeasured o (Some contents) a.0 a.2 × (a.1 ≡ [])) (λ a p. measured-reads contents o a p.0)
      (λ a h. subst IsOwn (sym h.0.status_is) (judged-ends IsOwn tt tt h.0.verdict)) status line b is p q
  command-refused (shape o) status line b is p q =
      refused-of contents.may_fail (ShapeRead (Some contents) o) (shape-read-one contents o) (λ a. IsShaped o (Some contents) a.0 a.2 × (a.1 ≡ [])) (λ a p. shaped-reads contents o a p.0)
      (λ a h. subst IsOwn (sym h.0.status_is) tt) status line b is p q
  command-refused (gen o) status line b is p q =
      refused-of contents.may_fail (GenRead o) (gen-one contents.may_fail o) (λ a. IsGenerated o a.0 a.1 a.2) (generated-reads o)
      (λ a h. subst IsOwn (sym h.answered.reported.status_is) (said-ends IsOwn tt tt tt h.answered.reported.said)) status line b is p q

  -- ---- by the words

  -- where a search by one worker has one certificate, and each is renamed in one way, words that ask for one
  -- worker have at most one answer
  pub words-one : HasOneCert → HasOneName → (words : List (List ℕ)) → AskForOneWorker words → AtMostOne (IsAnswerTo words contents)
  words-one certs names words single a b p q =
      elim p [
        | inl x ↦ elim q [ inl y ↦ triple a b (x.1 ∙ sym y.1) (x.2 ∙ sym y.2) (x.3 ∙ sym y.3) | inr y ↦ absurd (x.0 y.0 y.1) ]
        | inr x ↦ elim q [
          | inl y ↦ absurd (y.0 x.0 x.1)
          | inr y ↦ command-one certs names y.0 (single y.0 y.1) a b (subst (λ (c : Command). IsOf c contents a) (meaning_unique words x.0 y.0 x.1 y.1) x.2) y.2
        ]
      ]

  -- that words mean nothing is no refusal of an input
  usage-refused : (status : Status) → IsRefusal status → status ≡ Usage → ⊥
  usage-refused status is u = elim is [ inl e ↦ (let c : BadInput ≡ Usage = sym e ∙ u in absurd (cc)) | inr e ↦ (let c : OverLimit ≡ Usage = sym e ∙ u in absurd (cc)) ]

  -- where words may be answered by a refusal, they have no other answer
  pub words-refused : (words : List (List ℕ)) (status : Status) (line : List ℕ) (b : Answer) → IsRefusal status → IsAnswerTo words contents (refusal status line) → IsAnswerTo words contents b → b ≡ refusal status line
  words-refused words status line b is p q =
      elim p [
        | inl x ↦ absurd (usage-refused status is x.1)
        | inr x ↦ elim q [
          | inl y ↦ absurd (y.0 x.0 x.1)
          | inr y ↦ command-refused y.0 status line b is (subst (λ (c : Command). IsOf c contents (refusal status line)) (meaning_unique words x.0 y.0 x.1 y.1) x.2) y.2
        ]
      ]

  -- what was done is what any answer says
  pub words-done : HasOneCert → HasOneName → (words : List (List ℕ)) (after : Option Contents) (taken taken_then : Option (List ℕ)) (status : Status) (a : Answer)
      → AskForOneWorker words → IsAnswerTo words contents a → IsDone words (Some contents) after taken taken_then status → IsDoneBy a (Some contents) after taken taken_then status
  words-done certs names words after taken taken_then status a single is done =
      let same = words-one certs names words single (status, done.stored, done.printed) a done.answer is in
      subst (λ (x : Answer). IsDoneBy x (Some contents) after taken taken_then status) same (record { status_is = refl; stores = done.stores; prints = done.prints })

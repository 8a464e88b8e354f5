-- The statuses of answers.
use Rattle.std.proofs.Common.{◌≡◌, ◌⊎◌, inl, inr, ℕ, List, Option, sym, subst}
use Rattle.sf_program.proofs.Common.{Contents, Rose, ShelfSeen, SinkSeen, Status, ReadFault, WriteFault, NoMemory, Command, plan, check, resume, measure, shape, gen, Answers, CommandAnswer, IsAnswer, IsSilent, StoreOrPrintFailed, Reads, IsRefusal, AfterStores, StoppedAt, Stored}
use Rattle.sf_program.proofs.Endings.{said-ends, judged-ends, checked-ends, taken-up-ends}

-- a refusal is an answer
refused-status : (status : Status) → IsRefusal status → IsAnswer status
refused-status status r = elim r [ inl e ↦ subst IsAnswer (sym e) tt | inr e ↦ subst IsAnswer (sym e) tt ]

-- each command answers by a status of an answer
command-status : (command : Command) (before : Option Contents) (status : Status) (stored : List Stored) (printed : List ℕ) → CommandAnswer command before status stored printed → IsAnswer status
command-status (plan o) before status stored printed h =
    elim h [ inl p ↦ subst IsAnswer (sym p.answered.reported.status_is) (said-ends IsAnswer tt tt tt p.answered.reported.said) | inr r ↦ refused-status status r.0 ]
command-status (check o) before status stored printed h =
    elim h [ inl p ↦ subst IsAnswer (sym p.file.judged.status_is) (checked-ends IsAnswer tt tt p.file.judged.answer) | inr r ↦ refused-status status r.0 ]
command-status (resume o) before status stored printed h =
    elim h [ inl p ↦ taken-up-ends IsAnswer tt tt tt tt o p.design p.cert status stored printed p.taken_up | inr r ↦ refused-status status r.0 ]
command-status (measure o) before status stored printed h =
    elim h [ inl p ↦ subst IsAnswer (sym p.0.status_is) (judged-ends IsAnswer tt tt p.0.verdict) | inr r ↦ refused-status status r.0 ]
command-status (shape o) before status stored printed h =
    elim h [ inl p ↦ subst IsAnswer (sym p.0.status_is) tt | inr r ↦ refused-status status r.0 ]
command-status (gen o) before status stored printed h =
    elim h [ inl p ↦ subst IsAnswer (sym p.answered.reported.status_is) (said-ends IsAnswer tt tt tt p.answered.reported.said) | inr r ↦ refused-status status r.0 ]

-- an answer's status is no fault
pub answer-status : (words : List (List ℕ)) (before : Option Contents) (status : Status) (stored : List Stored) (printed : List ℕ) → Answers words before status stored printed → IsAnswer status
answer-status words before status stored printed h =
    elim h [ inl u ↦ subst IsAnswer (sym u.1) tt | inr m ↦ command-status m.0 before status stored printed m.2 ]

-- what is so of a silent status is so of a fault of reading or of want of memory
pub silent-are : (P : Status → Type 0) → P ReadFault → P NoMemory → (status : Status) → IsSilent status → P status
silent-are P lost none status s = elim s [ inl e ↦ subst P (sym e) lost | inr e ↦ subst P (sym e) none ]

-- an answer, or a fault of writing, is not silent
pub not-silent : (status : Status) → IsAnswer status ⊎ (status ≡ WriteFault) → IsSilent status → ⊥
not-silent status h s =
    silent-are (λ t. (IsAnswer t ⊎ (t ≡ WriteFault)) → ⊥) (λ k. elim k [ inl a ↦ a | inr e ↦ absurd (cc) ]) (λ k. elim k [ inl a ↦ a | inr e ↦ absurd (cc) ]) status s h

-- what a store or a print left is so of the shelf as it was before files were read
pub halted-before : (stored : List Stored) (printed : List ℕ) (before read after : ShelfSeen) (out out_then : SinkSeen) → Reads before read → StoreOrPrintFailed stored printed read after out out_then
    → StoreOrPrintFailed stored printed before after out out_then
halted-before stored printed before read after out out_then same h =
    elim h [
      | inl f ↦ inl (record { counted = subst (λ n. Rose n after.store_faults) same.no_store f.counted; stopped = subst (λ c. StoppedAt c stored after.holds) same.unchanged f.stopped; unprinted = f.unprinted })
      | inr f ↦ inr (record { counted = f.counted; stores = subst (λ c. AfterStores c stored after.holds) same.unchanged f.stores; part = f.part })
    ]

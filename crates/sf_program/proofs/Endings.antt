-- What holds of a command's own statuses holds of whatever it answers.
use Rattle.std.proofs.Common.{inl, inr, ℕ, List, sym, subst}
use Rattle.sf_program.proofs.Common.{Design, Cert, ResumeOptions, Status, Done, NoneFits, Open, No, Outcome, IsTakenUp, Stored, answer_status, verdict_status, outcome_status}
use Rattle.sf_place.specs.declared.verdict.Verdict.{Verdict}
use Rattle.sf_place.specs.declared.verdict.Verdict.TheVariants as verdict
use Rattle.sf_checker.specs.declared.answer.Answer.{Answer}
use Rattle.sf_checker.specs.declared.answer.Answer.TheVariants as checked
use Rattle.sf_pl_writer.specs.declared.report.Outcome.TheVariants as word

module _ (P : Status → Type 0) (done : P Done) where
  -- of the word that is said of a search
  pub said-ends : P NoneFits → P Open → (said : Outcome) → P (outcome_status said)
  said-ends none still word.Optimal = done
  said-ends none still word.NoneFits = none
  said-ends none still word.Open = still

  -- of a verdict on a placement
  pub judged-ends : P No → (v : Verdict) → P (verdict_status v)
  judged-ends failed verdict.Legal = done
  judged-ends failed (verdict.Unlisted b) = failed
  judged-ends failed (verdict.Outside b) = failed
  judged-ends failed (verdict.Overlap a b) = failed

  -- of the checker's answer
  pub checked-ends : P No → (a : Answer) → P (answer_status a)
  checked-ends failed (checked.Yes cost bound decided) = done
  checked-ends failed (checked.No why) = failed

  -- of what is answered to a certificate from which a search is to go on
  pub taken-up-ends : P NoneFits → P Open → P No → (o : ResumeOptions) (design : Design) (cert : Cert) (status : Status) (stored : List Stored) (printed : List ℕ) → IsTakenUp o design cert status stored printed → P status
  taken-up-ends none still failed o design cert status stored printed h =
      elim h [ inl r ↦ subst P (sym r.status_is) failed | inr g ↦ subst P (sym g.gone_on.reported.status_is) (said-ends none still g.gone_on.reported.said) ]

-- Counts of failed loads.
use Rattle.std.proofs.Common.{◌≡◌, ℕ, ◌+◌, ◌≤◌, List, [], ◌∷◌, refl, sym, subst, arith, cond}
use Rattle.sf_batch.proofs.Common.{Rose, Status, Outcome, outcome_status, Told, batch_status, is_search_end, BuiltJob, RoseBy, lost_jobs, lost_one, SearchTells}
use Rattle.sf_io.specs.declared.status.Status.TheVariants.{Done, NoneFits, Usage, Open, No, BadInput, OverLimit, ReadFault, WriteFault, NoMemory}
use Rattle.sf_pl_writer.specs.declared.report.Outcome.TheVariants as word

-- a search that ended lost no file
ends : (said : Outcome) → lost_one (outcome_status said) ≡ 0
ends word.Optimal = refl
ends word.NoneFits = refl
ends word.Open = refl

-- nor did a job that was searched
pub searched_keeps : (job : BuiltJob) (told : Told) → SearchTells job told → lost_one told.status ≡ 0
searched_keeps job told tells = subst (λ s. lost_one s ≡ 0) (sym tells.1.reported.status_is) (ends tells.1.reported.said)

-- a job counts where a count rose for it
pub counted_one : (status : Status) (faults faults_then : ℕ) → faults ≤ faults_then → (status ≡ ReadFault → Rose faults faults_then) → RoseBy (lost_one status) faults faults_then
counted_one ReadFault f t later rose = let r = rose refl in omega arith
counted_one Done f t later rose = omega arith
counted_one NoneFits f t later rose = omega arith
counted_one Usage f t later rose = omega arith
counted_one Open f t later rose = omega arith
counted_one No f t later rose = omega arith
counted_one BadInput f t later rose = omega arith
counted_one OverLimit f t later rose = omega arith
counted_one WriteFault f t later rose = omega arith
counted_one NoMemory f t later rose = omega arith

-- two counts, one after the other
pub counted_both : (m n a b c : ℕ) → RoseBy m a b → RoseBy n b c → RoseBy (m + n) a c
counted_both m n a b c h k = omega arith

-- fewer count too, and from an earlier count on
pub counted_less : (m n a b c : ℕ) → n ≤ m → a ≤ b → RoseBy m b c → RoseBy n a c
counted_less m n a b c few early h = omega arith

-- the first job that is no end of a search
first_lost : (status rest : Status) (n a b : ℕ) → (rest ≡ ReadFault → RoseBy n a b → Rose a b) → cond (is_search_end status) rest status ≡ ReadFault → RoseBy (lost_one status + n) a b → Rose a b
first_lost Done rest n a b next e h = next e (omega arith)
first_lost NoneFits rest n a b next e h = next e (omega arith)
first_lost Open rest n a b next e h = next e (omega arith)
first_lost ReadFault rest n a b next e h = omega arith
first_lost Usage rest n a b next e h = absurd (cc)
first_lost No rest n a b next e h = absurd (cc)
first_lost BadInput rest n a b next e h = absurd (cc)
first_lost OverLimit rest n a b next e h = absurd (cc)
first_lost WriteFault rest n a b next e h = absurd (cc)
first_lost NoMemory rest n a b next e h = absurd (cc)

-- where a batch ends with a failed load, one is counted
pub counted_some : (a b : ℕ) (all : List Told) → batch_status all ≡ ReadFault → RoseBy (lost_jobs all) a b → Rose a b
counted_some a b [] e h = absurd (cc)
counted_some a b (told ∷ more) e h = first_lost told.status (batch_status more) (lost_jobs more) a b (counted_some a b more) e h

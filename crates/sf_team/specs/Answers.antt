-- Which answers are those of which jobs.
use Rattle.std.specs.Prelude.{◌≡◌, ℕ, List, Some, ⊤, ◌<◌, Option, MatchOption, length, Contains, slice_get, slice_index_or}
use Rattle.std.specs.Arc.{arc_value}
use Rattle.sf_team.specs.declared.message.Message.{Message}
use Rattle.sf_team.specs.declared.message.Message.TheVariants.{Work, Stop}
use Rattle.sf_team.specs.declared.message.Done.{Done}

-- the message is one of these jobs, under its number, or a stop mark
abbrev pub IsMessageOf : {J : Type 0} → List J → Message J → Type 0
IsMessageOf jobs (Work numbered) = slice_get jobs numbered.number ≡ Some (arc_value numbered.job)
IsMessageOf jobs Stop = ⊤

module _ {J D : Type 0} (gives : J → Option D → Type 0) where
  -- the answer to a message: its job's number, and what that job comes to
  abbrev pub IsAnswerTo : Message J → Done D → Type 0
  IsAnswerTo (Work numbered) done = (done.number ≡ numbered.number) × gives (arc_value numbered.job) (Some done.answer)
  IsAnswerTo Stop done = ⊥

  -- each of these answers one of the messages
  abbrev pub AreAnswers : List (Message J) → List (Done D) → Type 0
  AreAnswers taken all = (d : Done D) → Contains all d → (x : Message J) × Contains taken x × IsAnswerTo x d

  -- the job of this number comes to this
  abbrev pub ComesTo : List J → ℕ → D → Type 0
  ComesTo jobs number answer = (job : J) × (slice_get jobs number ≡ Some job) × gives job (Some answer)

  -- each of these says under its number what that job comes to
  abbrev pub AreRight : List J → List (Done D) → Type 0
  AreRight jobs all = (d : Done D) → Contains all d → ComesTo jobs d.number d.answer

  -- a place of the table is empty, or says what the job of that number comes to
  abbrev pub RightAt : List J → ℕ → Option D → Type 0
  RightAt jobs number place = MatchOption place ⊤ (ComesTo jobs number)

  -- each job has a place in the table, and each place is right
  pub record IsTable (jobs : List J) (table : List (Option D)) : Type 0 where
    pub count : length table ≡ length jobs
    pub right : (k : ℕ) (d : Option D) → k < length table → RightAt jobs k (slice_index_or table k d)

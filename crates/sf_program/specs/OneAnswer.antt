-- That words and texts have one answer: what it is said of, and what is left open.
use Rattle.std.specs.Prelude.{◌≡◌, ◌≢◌, ⊤, ℕ, List, [], map, length, Option, None, Some, Bool, IsTrue, Result, Ok, Err}
use Rattle.std.specs.Io.KnownBytes.{Appends}
use Rattle.sf_io.specs.Outside.{Contents}
use Rattle.sf_io.specs.declared.status.Status.{Status}
use Rattle.sf_model.specs.declared.design.Design.{Design}
use Rattle.sf_parts.specs.declared.raw.RawBlock.{RawBlock}
use Rattle.sf_parts.specs.Admitted.{block_names}
use Rattle.sf_model.specs.Legal.{block_count}
use Rattle.sf_options.specs.Options.{Command, plan, resume}
use Rattle.sf_words.specs.Meaning.{Means}
use Rattle.sf_options.specs.declared.command.BoundsChoice.TheVariants.{Strong}
use Rattle.sf_program.specs.Answer.{Answers}
use Rattle.sf_designs.specs.Outcome.{Refusal, refused, lost}
use Rattle.sf_designs.specs.Stores.{AfterStores, Stored}

-- this is so of one thing at most
abbrev pub AtMostOne : {X : Type 0} → (X → Type 0) → Type 0
AtMostOne {X} P = (x y : X) → P x → P y → x ≡ y

-- a text refuses it
abbrev pub IsSaid : Refusal → Type 0
IsSaid (refused status line) = ⊤
IsSaid lost = ⊥

-- the texts say it
abbrev pub IsTold : {X : Type 0} → Result X Refusal → Type 0
IsTold (Ok x) = ⊤
IsTold (Err why) = IsSaid why

-- a stage gives one thing at most; where any load may fail, one beside the loss of a file
abbrev pub GivesOne : Bool → {X : Type 0} → (Result X Refusal → Type 0) → Type 0
GivesOne may_fail {X} P = (r s : Result X Refusal) → P r → P s → (IsTrue may_fail → IsTold r × IsTold s) → r ≡ s

-- a block for each of these, under its name and in their order
pub record HasBlocksOf (blocks : List RawBlock) (design : Design) : Type 0 where
  pub count : block_count design ≡ length blocks
  pub names : map (λ b. b.name) design.blocks ≡ block_names blocks

-- an answer: its status, what is stored, and what is printed
abbrev pub Answer : Type 0
Answer = Status × List Stored × List ℕ

-- the answer to these words, where the shelf tells that it holds these texts
abbrev pub IsAnswerTo : List (List ℕ) → Contents → Answer → Type 0
IsAnswerTo words contents a = Answers words (Some contents) a.0 a.1 a.2

-- this status was given, and the answer's texts are stored and printed
pub record IsDoneBy (a : Answer) (before after : Option Contents) (taken taken_then : Option (List ℕ)) (status : Status) : Type 0 where
  pub status_is : status ≡ a.0
  pub stores : AfterStores before a.1 after
  pub prints : Appends taken taken_then a.2

-- the answer of a refusal with this status and line
abbrev pub refusal : Status → List ℕ → Answer
refusal status line = (status, [], line)

-- several workers settle subproblems in an order that is not told, and a search that goes on or that begins with a plan is as theirs with one too: only one by one worker, from the root and from nothing, is said to be a function of its design
abbrev pub HasOneWorker : Command → Type 0
HasOneWorker (plan o) = (o.workers ≡ 1) × (o.starts.count ≡ 0) × (o.bounds ≢ Strong) × (o.begin ≡ None)
HasOneWorker (resume o) = ⊥
HasOneWorker other = ⊤

-- the words ask for no search by several workers, nor for one that goes on or that begins with a plan
abbrev pub AskForOneWorker : List (List ℕ) → Type 0
AskForOneWorker words = (command : Command) → Means words command → HasOneWorker command

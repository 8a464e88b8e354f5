-- A job whose design is built, and what its search comes to.
use Rattle.std.specs.Prelude.{◌≡◌, ⊤, List, [], Option, None, Some}
use Rattle.sf_io.specs.Outside.{Contents}
use Rattle.sf_lex.specs.Scan.{Line}
use Rattle.sf_model.specs.Legal.{block_count}
use Rattle.sf_options.specs.declared.command.BoundsChoice.TheVariants.{Standard}
use Rattle.sf_jobs.specs.Told.{Told}
use Rattle.sf_jobs.specs.Seen.{told_seen}
use Rattle.sf_program.specs.Planned.{IsAnswered, budget_of}
use Rattle.sf_designs.specs.Stores.{Stored}
use Rattle.sf_batch.specs.declared.job.BuiltJob.{BuiltJob}
use Rattle.sf_batch.specs.declared.job.FoundJob.{FoundJob}
use Rattle.sf_batch.specs.Alone.{LineComesTo}

-- the status and the text of a search of the design by one worker, with the job's budget and from no plan
abbrev pub SearchTells : BuiltJob → Told → Type 0
SearchTells job told = (stored : List Stored) × IsAnswered Standard job.design 1 (budget_of job.nodes (block_count job.design)) None 1 [] None told.status stored told.text

-- what is found of a job: under its number, what a search of it tells; or nothing, for want of memory
abbrev pub IsFound : BuiltJob → Option FoundJob → Type 0
IsFound job None = ⊤
IsFound job (Some found) = (found.number ≡ job.number) × SearchTells job (told_seen found.answer)

-- what a search of the built job tells is what the line comes to
abbrev pub StandsFor : Option Contents → Line → BuiltJob → Type 0
StandsFor held line job = (told : Told) → SearchTells job told → LineComesTo held line told

-- How a run over the files and the output of the system may end, and what budget its words name. Nothing is told of what the files hold and of what the output takes: so an answer is one that the words have over some files.
use Rattle.std.specs.Prelude.{◌≡◌, ⊤, ℕ, List, Some, None}
use Rattle.sf_io.specs.declared.status.Status.{Status}
use Rattle.sf_io.specs.declared.status.Status.TheVariants.{ReadFault, WriteFault, NoMemory}
use Rattle.sf_options.specs.Options.{Command, gen, plan, resume}
use Rattle.sf_program.specs.Answer.{Answers, RefusesWords}
use Rattle.sf_designs.specs.Outcome.{lost}
use Rattle.sf_designs.specs.Stores.{Stored}

-- the words have an answer of this status
abbrev pub HasAnswer : List (List ℕ) → Status → Type 0
HasAnswer words status = (stored : List Stored) × (printed : List ℕ) × Answers words None status stored printed

-- A run of the words may end so: with the status of an answer that they have; with a failed load, where they name a file; with a failed store or print, where they have an answer; or for want of memory.
abbrev pub MayEnd : List (List ℕ) → Status → Type 0
MayEnd words ReadFault = RefusesWords words None lost
MayEnd words WriteFault = (status : Status) × HasAnswer words status
MayEnd words NoMemory = ⊤
MayEnd words status = HasAnswer words status

-- the command is a search, from the root or from a certificate, whose budget is named
abbrev pub NamesBudget : Command → ℕ → Type 0
NamesBudget (plan o) nodes = o.nodes ≡ Some nodes
NamesBudget (resume o) nodes = o.nodes ≡ nodes
NamesBudget (gen o) nodes = o.nodes ≡ Some nodes
NamesBudget other nodes = ⊥

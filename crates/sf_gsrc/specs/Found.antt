-- What the reader keeps of the lines that it has read.
use Rattle.std.specs.Prelude.{◌≡◌, ℕ, List, [], ◌∷◌, ◌++◌, Option, Some, Result, Ok, Err}
use Rattle.sf_gsrc.specs.declared.fault.GsrcFault.{GsrcFault}
use Rattle.sf_gsrc.specs.declared.keywords.Counted.{Counted}
use Rattle.sf_gsrc.specs.declared.keywords.Counted.TheVariants as counts
use Rattle.sf_gsrc.specs.declared.count.Count.{Count}
use Rattle.sf_gsrc.specs.declared.found.Found.{Found}
use Rattle.sf_gsrc.specs.Blocks.{Entry, count_in, blocks_in, pads_in, Fails}

-- it keeps what the entries say
pub record IsFound (found : Found) (entries : List Entry) : Type 0 where
  pub soft : found.soft ≡ count_in counts.Soft entries
  pub hard : found.hard ≡ count_in counts.Hard entries
  pub terminals : found.terminals ≡ count_in counts.Terminals entries
  pub blocks : found.blocks.items ≡ blocks_in entries
  pub pads : found.pads.items ≡ pads_in entries

-- the count of a kind, as it is kept
abbrev pub count_kept : Found → Counted → Option Count
count_kept found counts.Soft = found.soft
count_kept found counts.Hard = found.hard
count_kept found counts.Terminals = found.terminals

-- with a count of this kind
abbrev pub with_count : Found → Counted → Count → Found
with_count found counts.Soft count = record found { soft = Some count }
with_count found counts.Hard count = record found { hard = Some count }
with_count found counts.Terminals count = record found { terminals = Some count }

-- a line was read, and what it says is kept; or it has this fault
abbrev pub Takes : Found → Found → List Entry → Result Entry GsrcFault → Type 0
Takes old new entries read = (entry : Entry) × (read ≡ Ok entry) × IsFound new (entries ++ entry ∷ [])

-- what a line says is kept, or its fault is answered
abbrev pub Keeps : {T : Type 0} → Result T GsrcFault → Found → Found → (List Entry → Result Entry GsrcFault) → Type 0
Keeps (Ok x) old new read = (entries : List Entry) → IsFound old entries → Takes old new entries (read entries)
Keeps (Err fault) old new read = (entries : List Entry) → IsFound old entries → Fails fault (read entries)

-- all lines were read, and what they say is kept with the number of the last; or they have this fault
abbrev pub ReadsAll : Result (Found × ℕ) GsrcFault → ℕ → Result (List Entry) GsrcFault → Type 0
ReadsAll (Ok r) last read = (entries : List Entry) × (read ≡ Ok entries) × IsFound r.0 entries × (r.1 ≡ last)
ReadsAll (Err fault) last read = Fails fault read

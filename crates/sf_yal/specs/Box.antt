-- Numbers of a statement, and the box of a module.
use Rattle.std.specs.Prelude.{ℕ, ◌/◌, ◌%◌, Bool, not, ◌||◌, ◌==◌, nat_lt, List, length, Result, Err, if◌then◌else◌, ℤ}
pub use Rattle.sf_lex.specs.Results.{◌>>=◌}
use Rattle.sf_lex.specs.Results.{map_err}
use Rattle.sf_lex.specs.Vertices.{box_read}
use Rattle.sf_lex.specs.declared.vertices.BoxSize.{BoxSize}
use Rattle.sf_lex.specs.declared.vertices.VertexFault.{VertexFault}
use Rattle.sf_lex.specs.declared.vertices.VertexFault.TheVariants.{Missing, BadNumber}
use Rattle.sf_lex.specs.Number.{signed_read}
use Rattle.sf_lex.specs.declared.number.NumberFault.{NumberFault}
use Rattle.sf_yal.specs.declared.fault.YalFault.{YalFault}
use Rattle.sf_yal.specs.declared.fault.YalFault.TheVariants as faults

-- the fault of a number is one of its statement's line
abbrev pub number_in : {A : Type 0} → ℕ → Result A NumberFault → Result A YalFault
number_in line read = map_err (faults.BadNumber line) read

-- a length with a sign or without one
abbrev pub length_read : ℕ → List ℕ → Result ℤ NumberFault
length_read scale word = signed_read scale 9_000_000_000_000_000 word

-- the fault of vertices is one of their statement's line
abbrev pub vertex_fault : ℕ → VertexFault → YalFault
vertex_fault line Missing = faults.BadStatement line
vertex_fault line (BadNumber fault) = faults.BadNumber line fault

-- the vertices that DIMENSIONS lists: at least two, each by two words
abbrev pub is_no_outline : List (List ℕ) → Bool
is_no_outline places = nat_lt (length places) 4 || not (length places % 2 == 0)

-- the bounding box of the vertices
unfoldable pub dimensions_said : ℕ → ℕ → List (List ℕ) → Result BoxSize YalFault
dimensions_said scale line places = if is_no_outline places then Err (faults.BadStatement line)
    else map_err (vertex_fault line) (box_read scale (length places / 2) places)

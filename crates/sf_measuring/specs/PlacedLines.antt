-- The lines of a placed file by their names, as the code looks them up.
use Rattle.std.specs.Prelude.{◌≡◌, ℕ, ◌<◌, true, List, [], ◌∷◌, length, slice_index_or, Option, Some, None, is_some, pos, neg_ℤ, ◌≤ℤ◌}
use Rattle.std.specs.List.{All}
use Rattle.sf_names.specs.Values.{value_in}
use Rattle.sf_model.specs.declared.parts.Block.{Block}
use Rattle.sf_gsrc.specs.declared.output.Place.{Place}
use Rattle.sf_measuring.specs.declared.placed_lines.Lines.{Lines}
use Rattle.sf_measuring.specs.declared.placed_lines.Lines.TheVariants.{Without, One, More}
use Rattle.sf_measuring.specs.Measured.{lines_named}

-- the line of this number is the only one of these
pub record IsOnly (all named : List Place) (i : ℕ) : Type 0 where
  pub in_range : i < length all
  pub only : (d : Place) → named ≡ slice_index_or all i d ∷ []

-- what is kept of the lines that have a name
abbrev pub LinesAre : List Place → List Place → Lines → Type 0
LinesAre all named Without = named ≡ []
LinesAre all named (One i) = IsOnly all named i
LinesAre all named More = (line other : Place) × (more : List Place) × (named ≡ line ∷ other ∷ more)

-- what is kept of one line more, of this number
abbrev pub with_line : Lines → ℕ → Lines
with_line Without i = One i
with_line (One k) i = More
with_line More i = More

-- what is kept is right of the lines that have the name; of other names nothing is kept
abbrev pub AreKept : List Place → List Place → Option Lines → Type 0
AreKept all named None = Unit {0}
AreKept all named (Some known) = LinesAre all named known

-- the index is right of each name that it has
abbrev pub AreIndexed : List (List ℕ × Lines) → List Place → List Place → Type 0
AreIndexed index all lines = (name : List ℕ) → AreKept all (lines_named name lines) (value_in index name)

-- the index has the name of each block, and what the lines are that have it
pub record IsIndex (index : List (List ℕ × Lines)) (blocks : List Block) (all lines : List Place) : Type 0 where
  pub names : All (λ (block : Block). is_some (value_in index block.name) ≡ true) blocks
  pub kept : AreIndexed index all lines

-- the place is at most 9,000,000,000,000,000 away from (0, 0) each way
pub record HasNearPlace (line : Place) : Type 0 where
  pub left : neg_ℤ (pos 9000000000000000) ≤ℤ line.x
  pub right : line.x ≤ℤ pos 9000000000000000
  pub lower : neg_ℤ (pos 9000000000000000) ≤ℤ line.y
  pub upper : line.y ≤ℤ pos 9000000000000000

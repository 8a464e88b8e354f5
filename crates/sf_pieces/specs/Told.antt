-- What pieces tell: the subproblems that a search decided, and those that it leaves open.
use Rattle.std.specs.Prelude.{◌≡◌, ℕ, ◌<◌, List, ◌++◌, length, map, All, IsPermutation, true}
use Rattle.std.specs.List.{flat_map}
use Rattle.sf_model.specs.declared.design.Design.{Design}
use Rattle.sf_node.specs.declared.part.Part.{Part}
use Rattle.sf_node.specs.Parts.{Parts}
use Rattle.sf_node.specs.Subproblem.{root}
use Rattle.sf_node.specs.Children.{walk}
use Rattle.sf_node.specs.Later.{pending}
use Rattle.sf_search_core.specs.declared.entry.Entry.{Entry}
use Rattle.sf_certificate.specs.declared.mark.Mark.{Mark}
use Rattle.sf_certificate.specs.declared.tag.Tag.TheVariants.{Open}
use Rattle.sf_certificate.specs.Marks.{marks, tag_of}
use Rattle.sf_certificate.specs.Named.{unnamed_mark}
use Rattle.sf_pieces.specs.declared.piece.Piece.{Piece}
use Rattle.sf_pieces.specs.Naming.{AreKept}

-- the subproblems of a piece with their tags: the tags are read against what waits from its first one on
abbrev pub marks_in : Design → Piece → List Mark
marks_in design p = marks (pending design true (walk (root design) p.first.items)) p.tags.items

-- those of all pieces
abbrev pub told_by : Design → List Piece → List Mark
told_by design pieces = flat_map (marks_in design) pieces

-- an entry as its subproblem with its tag
abbrev pub mark_of : Entry → Mark
mark_of entry = record { node = entry.node; tag = tag_of entry.kind }

-- a subproblem that is left open
abbrev pub open_mark : Parts → Mark
open_mark node = record { node = node; tag = Open }

-- each tag of the piece stands at a subproblem, and there is one
abbrev pub IsRead : Design → Piece → Type 0
IsRead design p = (map (λ (m : Mark). m.tag) (marks_in design p) ≡ p.tags.items) × (0 < length p.tags.items)

-- the pieces tell these entries and these open subproblems, each once, but for the parts that closed ones name; what is kept names the parts
pub record AreTold (design : Design) (part : Parts → Part → ℕ) (value : ℕ) (entries : List Entry) (left : List Parts) (pieces : List Piece) : Type 0 where
  pub told : IsPermutation (map mark_of entries ++ map open_mark left) (map unnamed_mark (told_by design pieces))
  pub read : All (IsRead design) pieces
  pub kept : All (λ p. AreKept part value (marks_in design p) p.kept.items) pieces

-- How the search with one worker names the parts that close its subproblems. The cost falls while it goes on, so what it names at first may be too late a part: it keeps the values of the parts until the cost is known.
use Rattle.std.specs.Prelude.{◌≡◌, ℕ, ◌≤◌, List, [], ◌∷◌, map, All, Bool, true, false}
use Rattle.std.specs.List.{flat_map}
use Rattle.sf_node.specs.declared.part.Part.{Part}
use Rattle.sf_node.specs.declared.part.Part.TheVariants.{Area, Range, Pair, Hull, Full}
use Rattle.sf_node.specs.declared.part.PartValues.{PartValues}
use Rattle.sf_node.specs.declared.step.Step.{Step}
use Rattle.sf_node.specs.Parts.{Parts}
use Rattle.sf_node.specs.ByPart.{first_part}
use Rattle.sf_certificate.specs.declared.mark.Mark.{Mark}
use Rattle.sf_certificate.specs.declared.tag.Tag.{Tag}
use Rattle.sf_certificate.specs.declared.tag.Tag.TheVariants.{Extend, Split, Closed, Open}
use Rattle.sf_pieces.specs.declared.piece.Piece.{Piece}

-- the values as a function of the part. The full one is not kept: it is named where no other part is at least the cost
abbrev pub value_in : PartValues → Part → ℕ
value_in values Area = values.area
value_in values Range = values.range
value_in values Pair = values.pair
value_in values Hull = values.hull
value_in values Full = 0

-- a closed tag names the first part that is at least the cost
abbrev pub with_first_part : (Part → ℕ) → ℕ → Tag → Tag
with_first_part part cost Extend = Extend
with_first_part part cost (Split b) = Split b
with_first_part part cost (Closed p) = Closed (first_part part cost)
with_first_part part cost Open = Open

-- another part than the area is named
abbrev pub is_late : Tag → Bool
is_late Extend = false
is_late (Split b) = false
is_late (Closed Area) = false
is_late (Closed p) = true
is_late Open = false

-- what is kept of a subproblem: nothing where its area closes it, since no lower cost changes that, else the values of its parts
abbrev pub kept_for : (Part → ℕ) → Tag → List PartValues
kept_for part Extend = []
kept_for part (Split b) = []
kept_for part (Closed Area) = []
kept_for part (Closed p) = record { area = part Area; range = part Range; pair = part Pair; hull = part Hull } ∷ []
kept_for part Open = []

-- these values are kept for the marks, in their order, and where the area is named it is at least the cost
pub record AreKept (part : Parts → Part → ℕ) (cost : ℕ) (marks : List Mark) (kept : List PartValues) : Type 0 where
  pub values : kept ≡ flat_map (λ mark. kept_for (part mark.node) mark.tag) marks
  pub areas : All (λ mark. mark.tag ≡ Closed Area → cost ≤ part mark.node Area) marks

-- the tags, each closed one that doesn't name the area named by the next of the kept values
abbrev pub renamed : ℕ → List Tag → List PartValues → List Tag
renamed cost [] kept = []
renamed cost (Extend ∷ tags) kept = Extend ∷ renamed cost tags kept
renamed cost (Split b ∷ tags) kept = Split b ∷ renamed cost tags kept
renamed cost (Open ∷ tags) kept = Open ∷ renamed cost tags kept
renamed cost (Closed Area ∷ tags) kept = Closed Area ∷ renamed cost tags kept
renamed cost (Closed p ∷ tags) [] = Closed p ∷ renamed cost tags []
renamed cost (Closed p ∷ tags) (values ∷ kept) = Closed (first_part (value_in values) cost) ∷ renamed cost tags kept

-- the first path and the tags of a piece
abbrev pub shape_of : Piece → List Step × List Tag
shape_of p = (p.first.items, p.tags.items)

-- those of the piece with its closed subproblems named by what is kept for it
abbrev pub shape_named : ℕ → Piece → List Step × List Tag
shape_named cost p = (p.first.items, renamed cost p.tags.items p.kept.items)

-- the second pieces are the first with their closed subproblems named
abbrev pub AreNamed : ℕ → List Piece → List Piece → Type 0
AreNamed cost old new = map shape_of new ≡ map (shape_named cost) old

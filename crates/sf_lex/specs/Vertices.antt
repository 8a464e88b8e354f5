-- The vertices of an outline, and their bounding box.
use Rattle.std.specs.Prelude.{ℕ, zero, suc, List, [], ◌∷◌, map, Result, Ok, Err, ℤ, ◌-ℤ◌, fold, unsigned_abs}
use Rattle.std.specs.Int.{int_min, int_max}
use Rattle.sf_lex.specs.Results.{◌>>=◌, map_err}
use Rattle.sf_lex.specs.Number.{signed_read}
use Rattle.sf_lex.specs.declared.vertices.BoxSize.{BoxSize}
use Rattle.sf_lex.specs.declared.vertices.VertexFault.{VertexFault}
use Rattle.sf_lex.specs.declared.vertices.VertexFault.TheVariants.{Missing, BadNumber}

-- a coordinate
abbrev pub coordinate_of : ℕ → List ℕ → Result ℤ VertexFault
coordinate_of scale word = map_err BadNumber (signed_read scale 9_000_000_000_000_000 word)

-- a vertex is two words
unfoldable pub vertex_of : ℕ → List (List ℕ) → Result ((ℤ × ℤ) × List (List ℕ)) VertexFault
vertex_of scale [] = Err Missing
vertex_of scale (x ∷ []) = Err Missing
vertex_of scale (x ∷ y ∷ more) = do
  a ← coordinate_of scale x
  b ← coordinate_of scale y
  Ok ((a, b), more)

-- the vertices at the front, so many
unfoldable pub vertices_of : ℕ → ℕ → List (List ℕ) → Result (List (ℤ × ℤ)) VertexFault
vertices_of scale zero places = Ok []
vertices_of scale (suc n) places = do
  first ← vertex_of scale places
  others ← vertices_of scale n first.1
  Ok (first.0 ∷ others)

-- how far the numbers reach
abbrev pub extent : List ℤ → ℕ
extent [] = 0
extent (x ∷ xs) = unsigned_abs (fold int_max x xs -ℤ fold int_min x xs)

-- the sides of the bounding box of the vertices
abbrev pub box_of : List (ℤ × ℤ) → BoxSize
box_of vertices = record { w = extent (map (λ v. v.0) vertices); h = extent (map (λ v. v.1) vertices) }

-- the sides of the box round so many vertices at the front
abbrev pub box_read : ℕ → ℕ → List (List ℕ) → Result BoxSize VertexFault
box_read scale n places = vertices_of scale n places >>= λ vertices. Ok (box_of vertices)

-- The bounding box as the code keeps it, vertex by vertex.
use Rattle.std.specs.Prelude.{ℕ, List, [], ◌∷◌, Result, Ok, ℤ, ◌-ℤ◌, fold, pos, unsigned_abs}
use Rattle.std.specs.Int.{int_min, int_max}
use Rattle.sf_lex.specs.declared.vertices.BoxSize.{BoxSize}
use Rattle.sf_lex.specs.declared.vertices.Corners.{Corners}
use Rattle.sf_lex.specs.declared.vertices.VertexFault.{VertexFault}
use Rattle.sf_lex.specs.Results.{◌>>=◌}
use Rattle.sf_lex.specs.Vertices.{vertices_of}

-- the box of one vertex
abbrev pub corner : ℤ × ℤ → Corners
corner v = record { left = v.0; right = v.0; bottom = v.1; top = v.1 }

-- the box with one more vertex in it
abbrev pub grow : Corners → ℤ × ℤ → Corners
grow c v = record { left = int_min c.left v.0; right = int_max c.right v.0; bottom = int_min c.bottom v.1; top = int_max c.top v.1 }

-- the box of the first vertices, and of those that follow
abbrev pub grown : Corners → Result (List (ℤ × ℤ)) VertexFault → Result Corners VertexFault
grown c read = read >>= λ vertices. Ok (fold grow c vertices)

-- the box of the vertices
abbrev pub corners_of : List (ℤ × ℤ) → Corners
corners_of [] = corner (pos 0, pos 0)
corners_of (v ∷ vertices) = fold grow (corner v) vertices

-- the box of so many vertices at the front
abbrev pub corners_read : ℕ → ℕ → List (List ℕ) → Result Corners VertexFault
corners_read scale n places = vertices_of scale n places >>= λ vertices. Ok (corners_of vertices)

-- how far the box reaches each way
abbrev pub size_of_corners : Corners → BoxSize
size_of_corners c = record { w = unsigned_abs (c.right -ℤ c.left); h = unsigned_abs (c.top -ℤ c.bottom) }

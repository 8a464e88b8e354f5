-- The box that is kept vertex by vertex is the bounding box.
use Rattle.std.proofs.Common.{◌≡◌, List, [], ◌∷◌, Result, Ok, Err, refl, ap, ◌∙◌, ℤ}
use Rattle.sf_lex.proofs.Common.{map, fold, box_of, corner, grow, corners_of, size_of_corners, Corners, VertexFault}
use Rattle.std.specs.Int.{int_min, int_max}
use Rattle.sf_lex.specs.declared.vertices.BoxSize.{BoxSize}
use Rattle.sf_lex.specs.Results.{◌>>=◌}

-- the right side is the greatest of the places across
right_of : (c : Corners) (vs : List (ℤ × ℤ)) → (fold grow c vs).right ≡ fold int_max c.right (map (λ v. v.0) vs)
right_of c [] = refl
right_of c (v ∷ vs) = right_of (grow c v) vs

-- the left side is the least of them
left_of : (c : Corners) (vs : List (ℤ × ℤ)) → (fold grow c vs).left ≡ fold int_min c.left (map (λ v. v.0) vs)
left_of c [] = refl
left_of c (v ∷ vs) = left_of (grow c v) vs

-- the top is the greatest of the places upward
top_of : (c : Corners) (vs : List (ℤ × ℤ)) → (fold grow c vs).top ≡ fold int_max c.top (map (λ v. v.1) vs)
top_of c [] = refl
top_of c (v ∷ vs) = top_of (grow c v) vs

-- the bottom is the least of them
bottom_of : (c : Corners) (vs : List (ℤ × ℤ)) → (fold grow c vs).bottom ≡ fold int_min c.bottom (map (λ v. v.1) vs)
bottom_of c [] = refl
bottom_of c (v ∷ vs) = bottom_of (grow c v) vs

-- the sides of the box that is kept are how far the vertices reach
size_is : (vs : List (ℤ × ℤ)) → size_of_corners (corners_of vs) ≡ box_of vs
size_is [] = refl
size_is (v ∷ vs) = rw (right_of (corner v) vs, left_of (corner v) vs, top_of (corner v) vs, bottom_of (corner v) vs) refl

-- the sides of the vertices that are read are those of the box that was kept
pub box_is : (read : Result (List (ℤ × ℤ)) VertexFault) (c : Corners) → Ok c ≡ (read >>= λ vertices. Ok (corners_of vertices))
    → Ok (size_of_corners c) ≡ (read >>= λ vertices. Ok (box_of vertices))
box_is (Ok vs) c e = let one : c ≡ corners_of vs = cc in ap (λ (s : BoxSize). Ok s) (ap size_of_corners one ∙ size_is vs)
box_is (Err f) c e = absurd cc

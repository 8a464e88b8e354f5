-- Vertices one after another, as the loop takes them.
use Rattle.std.proofs.Common.{◌≡◌, ℕ, suc, ◌-◌, ◌+◌, ◌≤◌, ◌<◌, List, ◌∷◌, Result, Ok, Err, refl, sym, ap, ◌∙◌, arith, ℤ}
use Rattle.sf_lex.specs.Results.{◌>>=◌}
use Rattle.sf_lex.proofs.Common.{vertex_of, vertices_of, corner, grow, grown, corners_of, corners_read, VertexFault, Corners}

-- the box of the first vertex grows by the others
first_of : (v : ℤ × ℤ) (read : Result (List (ℤ × ℤ)) VertexFault) → ((read >>= λ others. Ok (v ∷ others)) >>= λ vertices. Ok (corners_of vertices)) ≡ grown (corner v) read
first_of v (Ok others) = refl
first_of v (Err e) = refl

-- and by the next vertex
next_of : (c : Corners) (v : ℤ × ℤ) (read : Result (List (ℤ × ℤ)) VertexFault) → grown c (read >>= λ others. Ok (v ∷ others)) ≡ grown (grow c v) read
next_of c v (Ok others) = refl
next_of c v (Err e) = refl

-- behind the first vertex the box is grown by the others
pub starts : (scale count : ℕ) (places rest : List (List ℕ)) (v : ℤ × ℤ) → 1 ≤ count → Ok (v, rest) ≡ vertex_of scale places
    → grown (corner v) (vertices_of scale (count - 1) rest) ≡ corners_read scale count places
unfolding vertices_of
starts scale count places rest v le e =
    let k : count ≡ suc (count - 1) = omega arith in
    sym (ap (λ (n : ℕ). corners_read scale n places) k ∙ rw (← e) (first_of v (vertices_of scale (count - 1) rest)))

-- the first vertex's fault is the fault of all
pub fails_first : (scale count : ℕ) (places : List (List ℕ)) (f : VertexFault) → 1 ≤ count → Err f ≡ vertex_of scale places → Err f ≡ corners_read scale count places
unfolding vertices_of
fails_first scale count places f le e =
    let k : count ≡ suc (count - 1) = omega arith in
    sym (ap (λ (n : ℕ). corners_read scale n places) k ∙ rw (← e) refl)

-- behind a further vertex too
pub goes_on : (scale count i : ℕ) (c : Corners) (places after : List (List ℕ)) (v : ℤ × ℤ) (total : Result Corners VertexFault) → i < count → Ok (v, after) ≡ vertex_of scale places
    → grown c (vertices_of scale (count - i) places) ≡ total → grown (grow c v) (vertices_of scale (count - (i + 1)) after) ≡ total
unfolding vertices_of
goes_on scale count i c places after v total lt e so_far =
    let k : count - i ≡ suc (count - (i + 1)) = omega arith in
    let one : grown c (vertices_of scale (count - i) places) ≡ grown (grow c v) (vertices_of scale (count - (i + 1)) after) = rw (k, ← e) (next_of c v (vertices_of scale (count - (i + 1)) after)) in
    sym one ∙ so_far

-- a further vertex's fault is the fault of all
pub fails : (scale count i : ℕ) (c : Corners) (places : List (List ℕ)) (f : VertexFault) (total : Result Corners VertexFault) → i < count → Err f ≡ vertex_of scale places
    → grown c (vertices_of scale (count - i) places) ≡ total → Err f ≡ total
unfolding vertices_of
fails scale count i c places f total lt e so_far =
    let k : count - i ≡ suc (count - (i + 1)) = omega arith in
    let one : grown c (vertices_of scale (count - i) places) ≡ Err f = rw (k, ← e) refl in
    sym one ∙ so_far

-- behind the last vertex the box is the whole one
pub is_done : (scale count i : ℕ) (c : Corners) (places : List (List ℕ)) (total : Result Corners VertexFault) → count ≤ i
    → grown c (vertices_of scale (count - i) places) ≡ total → Ok c ≡ total
unfolding vertices_of
is_done scale count i c places total le so_far =
    let k : count - i ≡ 0 = omega arith in
    let one : grown c (vertices_of scale (count - i) places) ≡ Ok c = rw k refl in
    sym one ∙ so_far

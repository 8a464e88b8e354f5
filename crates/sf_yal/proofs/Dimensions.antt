-- The box of a statement's vertices.
use Rattle.std.proofs.Common.{◌≡◌, ℕ, ◌≤◌, ◌/◌, ◌%◌, false, length, arith, List, Result, refl}
use Rattle.sf_yal.proofs.Common.{nat_tests, BoxSize, vertex_fault, is_no_outline, dimensions_said}
use Rattle.sf_lex.specs.Results.{map_err}
use Rattle.sf_lex.specs.Vertices.{box_read}
use Rattle.sf_lex.specs.declared.vertices.VertexFault.{VertexFault}

-- at least four words, in pairs, are an outline
even_enough : (places : List (List ℕ)) → 4 ≤ length places → length places % 2 ≡ 0 → is_no_outline places ≡ false
even_enough places enough even = grind (arith, nat_tests)

-- so many words say the box of half as many vertices
pub dimensions_are : (scale line : ℕ) (places : List (List ℕ)) (count : ℕ) (read : Result BoxSize VertexFault) → count ≡ length places → 4 ≤ count → count % 2 ≡ 0
    → read ≡ box_read scale (count / 2) places → dimensions_said scale line places ≡ map_err (vertex_fault line) read
unfolding dimensions_said
dimensions_are scale line places count read is enough even box =
    let whole : length places % 2 ≡ 0 = rw (← is) even in
    let here : read ≡ box_read scale (length places / 2) places = rw is at box in
    rw (even_enough places (rw (← is) enough) whole, ← here) refl

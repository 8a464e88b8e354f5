-- A line of a hard block says its box.
use Rattle.std.proofs.Common.{◌≡◌, ◌≢◌, ℕ, ◌*◌, ◌≤◌, length, List, ◌∷◌, Result, Ok, refl}
use Rattle.sf_gsrc.proofs.Common.{le-ltb, ne_eqb, ◌>>=◌, map_err, count_in_word, vertex_fault, box_said, hard_said, box_read, BoxSize}
use Rattle.sf_lex.specs.declared.vertices.VertexFault.{VertexFault}

-- behind a count of enough vertices stands what the box of these says
pub hard_is : (scale : ℕ) (name count : List ℕ) (places all : List (List ℕ)) (k : ℕ) (read : Result BoxSize VertexFault)
    → all ≡ count ∷ places → Ok k ≡ count_in_word count → k ≢ 0 → 2 * k ≤ length places → read ≡ box_read scale k places
    → hard_said scale name all ≡ (map_err vertex_fault read >>= box_said name)
unfolding hard_said
hard_is scale name count places all k read words number some enough box =
    rw (words, ← number, ne_eqb k 0 some, le-ltb (length places) (2 * k) enough, ← box) refl

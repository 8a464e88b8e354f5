-- A text has no more words than bytes.
use Rattle.std.proofs.Common.{ℕ, ◌+◌, ◌≤◌, Bool, List, length, arith}
use Rattle.sf_lex.proofs.Common.{slice_split, length-filter, count_by-le-length, words, is_not_empty}
use Rattle.std.proofs.lemmas.List.Splits.{length-slice_split}

-- a text has at most one word more than bytes
pub length-words : (blank : ℕ → Bool) (bytes : List ℕ) → length (words blank bytes) ≤ length bytes + 1
length-words blank bytes =
    let parts = slice_split blank bytes in
    omega (arith, length-filter is_not_empty parts, count_by-le-length is_not_empty parts, length-slice_split blank bytes, count_by-le-length blank bytes)

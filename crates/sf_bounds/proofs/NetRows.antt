-- The loop that joins two rows.
use Rattle.std.proofs.Common.{◌≡◌, ℕ, ◌+◌, ◌<◌, List, [], ◌∷◌, ◌++◌, length, map, get_or, sym, ap, ◌∙◌, subst, arith, All, append_assoc}
use Rattle.sf_bounds.proofs.Common.{range_with_len, get_or_append_left, get_or_default, map-range_with_len_more, Extent, Direction, Cell, anywhere, cell_of, cell_at, joined_cell, IsFitCell}

-- a cell that was there before
pub read-old : (old made cur : List Cell) (i : ℕ) (x : Cell) → cur ≡ old ++ made → i < length old → x ≡ get_or cur i x → x ≡ cell_at old i
read-old old made cur i x e lt is =
    is ∙ ap (λ v. get_or v i x) e ∙ get_or_append_left old made x i lt ∙ get_or_default old i x (record { reach = anywhere; part = 0; hull = 0 }) lt

-- if all cells fit, the cell at each place does
pub cell-fits : (cells : List Cell) (i : ℕ) → All IsFitCell cells → i < length cells → IsFitCell (cell_at cells i)
cell-fits cells i fit lt = fit i (record { reach = anywhere; part = 0; hull = 0 }) lt

-- such a cell fits, where all that were there do
pub old-fits : (old made cur : List Cell) (i : ℕ) (x : Cell) → All IsFitCell old → cur ≡ old ++ made → i < length old → x ≡ get_or cur i x → IsFitCell x
old-fits old made cur i x fit e lt is = subst IsFitCell (sym (read-old old made cur i x e lt is)) (cell-fits old i fit lt)

-- the cell that was made from three that were there
pub joined-is : (old : List Cell) (d : Direction) (e : Extent) (left right under j : ℕ) (l r u c : Cell) → l ≡ cell_at old (left + j) → r ≡ cell_at old (right + j) → u ≡ cell_at old (under + j) → c ≡ cell_of d e l r u → c ≡ joined_cell old d e left right under j
joined-is old d e left right under j l r u c is_l is_r is_u is_c =
    is_c ∙ ap (λ v. cell_of d e v r u) is_l ∙ ap (λ v. cell_of d e (cell_at old (left + j)) v u) is_r
    ∙ ap (cell_of d e (cell_at old (left + j)) (cell_at old (right + j))) is_u

-- one cell more
pub row-more : (f : ℕ → Cell) (old cur new : List Cell) (j : ℕ) (c : Cell) → cur ≡ old ++ map f (range_with_len 0 j) → new ≡ cur ++ c ∷ [] → c ≡ f j → new ≡ old ++ map f (range_with_len 0 (j + 1))
row-more f old cur new j c is_cur is_new is_c =
    is_new ∙ ap (λ v. cur ++ v ∷ []) is_c ∙ ap (λ v. v ++ f j ∷ []) is_cur ∙ append_assoc old (map f (range_with_len 0 j)) (f j ∷ [])
    ∙ ap (λ v. old ++ v) (sym (map-range_with_len_more f 0 j j (omega arith)))

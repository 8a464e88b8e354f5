-- Items moved from the end of one list to the end of another, which is turned round in the end.
use Rattle.std.proofs.Common.{◌≡◌, ℕ, zero, suc, List, [], ◌∷◌, ◌++◌, length, map, reverse, Some, None, refl, ap, sym, ◌∙◌, append_assoc, append-nil, get_or, ◌<◌, subst, arith, length-append}
use Rattle.sf_parts.proofs.Common.{All, zip, filter_map, cons_option, map-append, reverse-append, design_blocks, placed_pad, Block, Pad, Shape, RawBlock, RawPad, filter_map-append}

-- one item more in each of two lists makes one pair more
pub zip_push : {X Y : Type 0} (xs : List X) (ys : List Y) (x : X) (y : Y) → length xs ≡ length ys → zip (xs ++ x ∷ []) (ys ++ y ∷ []) ≡ zip xs ys ++ (x, y) ∷ []
zip_push [] [] x y same = refl
zip_push [] (z ∷ ys) x y same = absurd (omega arith)
zip_push (z ∷ xs) [] x y same = absurd (omega arith)
zip_push (z ∷ xs) (w ∷ ys) x y same = ap (λ ps. (z, w) ∷ ps) (zip_push xs ys x y (omega arith))

-- an item within the first of two lists is one of the first
front_of : {X : Type 0} (xs ys : List X) (k : ℕ) (d : X) → k < length xs → get_or (xs ++ ys) k d ≡ get_or xs k d
front_of [] ys k d low = absurd (omega arith)
front_of (x ∷ xs) ys zero d low = refl
front_of (x ∷ xs) ys (suc k) d low = front_of xs ys k d (omega arith)

-- one item goes over
pub moved : {Y : Type 0} (whole left out out' all : List Y) (y : Y) → whole ≡ left ++ y ∷ [] → out' ≡ out ++ y ∷ [] → whole ++ reverse out ≡ all → left ++ reverse out' ≡ all
moved whole left out out' all y cut put was =
    let turned : reverse out' ≡ y ∷ reverse out = ap reverse put ∙ reverse-append out (y ∷ []) in
    ap (λ r. left ++ r) turned ∙ sym (append_assoc left (y ∷ []) (reverse out)) ∙ ap (λ l. l ++ reverse out) (sym cut) ∙ was

-- the block with its list of shapes
abbrev block_of_pair : RawBlock × List Shape → Block
block_of_pair p = record { name = p.0.name; shapes = p.1 }

-- the last block and the last list make the last block of the design
pub blocks_cut : (read read' : List RawBlock) (lists lists' : List (List Shape)) (b : RawBlock) (l : List Shape) → read ≡ read' ++ b ∷ [] → lists ≡ lists' ++ l ∷ [] → length read' ≡ length lists' → design_blocks read lists ≡ design_blocks read' lists' ++ record { name = b.name; shapes = l } ∷ []
blocks_cut read read' lists lists' b l cut cut' same =
    ap (λ bs. design_blocks bs lists) cut ∙ ap (λ ls. design_blocks (read' ++ b ∷ []) ls) cut'
    ∙ ap (map (λ (p : RawBlock × List Shape). block_of_pair p)) (zip_push read' lists' b l same)
    ∙ map-append (λ (p : RawBlock × List Shape). block_of_pair p) (zip read' lists') ((b, l) ∷ [])

-- the last pad, where it has a place, makes the last pad of the design
pub pads_cut : (read read' : List RawPad) (p : RawPad) (q : Pad) → read ≡ read' ++ p ∷ [] → placed_pad p ≡ Some q → filter_map placed_pad read ≡ filter_map placed_pad read' ++ q ∷ []
pads_cut read read' p q cut here = ap (filter_map placed_pad) cut ∙ filter_map-append placed_pad read' (p ∷ []) ∙ ap (λ o. filter_map placed_pad read' ++ cons_option o []) here

-- the last pad, where it has no place, makes none
pub pads_skip : (read read' : List RawPad) (p : RawPad) → read ≡ read' ++ p ∷ [] → placed_pad p ≡ None → filter_map placed_pad read ≡ filter_map placed_pad read'
pads_skip read read' p cut here = ap (filter_map placed_pad) cut ∙ filter_map-append placed_pad read' (p ∷ []) ∙ ap (λ o. filter_map placed_pad read' ++ cons_option o []) here ∙ append-nil (filter_map placed_pad read')

-- what holds of each item holds of each but the last
pub all_cut : {X : Type 0} (P : X → Type 0) (read read' : List X) (x : X) → read ≡ read' ++ x ∷ [] → All P read → All P read'
all_cut {X} P read read' x cut all k d low =
    let Q : List X → Type 0 = λ xs. All P xs in
    let whole : All P (read' ++ x ∷ []) = subst Q cut all in
    let within : k < length (read' ++ x ∷ []) = omega (arith, length-append read' (x ∷ [])) in
    subst P (front_of read' (x ∷ []) k d low) (whole k d within)

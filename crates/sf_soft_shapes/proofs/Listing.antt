-- The lists of the blocks, as one more comes.
use Rattle.std.proofs.Common.{◌≡◌, ℕ, zero, suc, ◌<◌, ◌≤◌, Bool, List, [], ◌∷◌, ◌++◌, length, get_or, Some, None, refl, ap, sym, subst, arith}
use Rattle.sf_soft_shapes.proofs.Common.{All, zip, Shape, RawBlock, AreFirstLists, IsListOf, All-append, first_shapeless}

-- the empty list of a type
abbrev none_of : (Y : Type 0) → List Y
none_of Y = []

-- a list paired with none has no pairs
zip_none : {X : Type 0} (Y : Type 0) (xs : List X) → zip xs (none_of Y) ≡ []
zip_none Y [] = refl
zip_none Y (x ∷ xs) = refl

-- one item more in the shorter list makes one pair more
zip_grow : {X Y : Type 0} (xs : List X) (ys : List Y) (y : Y) (d : X) → length ys < length xs → zip xs (ys ++ y ∷ []) ≡ zip xs ys ++ (get_or xs (length ys) d, y) ∷ []
zip_grow [] ys y d low = absurd (omega arith)
zip_grow {Y = Y} (x ∷ xs) [] y d low = ap (λ ps. (x, y) ∷ ps) (zip_none Y xs)
zip_grow (x ∷ xs) (z ∷ ys) y d low = ap (λ ps. (x, z) ∷ ps) (zip_grow xs ys y d (omega arith))

-- what holds of an item holds of the one element of the list of it
one : {X : Type 0} (P : X → Type 0) (x : X) (k : ℕ) (d : X) → k < length (x ∷ []) → P x → P (get_or (x ∷ []) k d)
one P x zero d low here = here
one P x (suc k) d low here = absurd (omega arith)

-- what holds of each item and of one more holds of each of the longer list
pub all_one : {X : Type 0} (P : X → Type 0) (xs : List X) (x : X) → All P xs → P x → All P (xs ++ x ∷ [])
all_one P xs x all here = All-append P xs (x ∷ []) all (λ k d low. one P x k d low here)

-- the lists of the first blocks, and that of the next block, are the lists of the first blocks
pub lists_grow : (k : ℕ) (fixed : Bool) (blocks : List RawBlock) (lists : List (List Shape)) (l : List Shape) (d : RawBlock) → length lists < length blocks → AreFirstLists k fixed blocks lists → IsListOf k fixed (get_or blocks (length lists) d).kind l → AreFirstLists k fixed blocks (lists ++ l ∷ [])
lists_grow k fixed blocks lists l d low were here =
    let P : List (RawBlock × List Shape) → Type 0 = λ ps. All (λ b. IsListOf k fixed b.0.kind b.1) ps in
    subst P (sym (zip_grow blocks lists l d low)) (all_one (λ (b : RawBlock × List Shape). IsListOf k fixed b.0.kind b.1) (zip blocks lists) (get_or blocks (length lists) d, l) were here)

-- before the first block there is no list
pub lists_start : (k : ℕ) (fixed : Bool) (blocks : List RawBlock) → AreFirstLists k fixed blocks []
lists_start k fixed blocks =
    let P : List (RawBlock × List Shape) → Type 0 = λ ps. All (λ b. IsListOf k fixed b.0.kind b.1) ps in
    subst P (sym (zip_none (List Shape) blocks)) (λ j d low. absurd (omega arith))

-- lists that have a shape each
pub all_shaped : (blocks : List RawBlock) (lists : List (List Shape)) → All (λ l. 1 ≤ length l) lists → first_shapeless blocks lists ≡ None
all_shaped [] lists all = refl
all_shaped (b ∷ bs) [] all = refl
all_shaped (b ∷ bs) ([] ∷ ls) all = absurd (let e = all 0 [] (omega arith) in omega arith)
all_shaped (b ∷ bs) ((s ∷ ss) ∷ ls) all = all_shaped bs ls (λ k d low. all (suc k) d (omega arith))

-- a block whose list is empty is the first without a shape, behind blocks that have shapes
pub none_after : (blocks : List RawBlock) (lists : List (List Shape)) (d : RawBlock) → length lists < length blocks → All (λ l. 1 ≤ length l) lists → first_shapeless blocks (lists ++ [] ∷ []) ≡ Some (get_or blocks (length lists) d).name
none_after [] lists d low all = absurd (omega arith)
none_after (b ∷ bs) [] d low all = refl
none_after (b ∷ bs) ([] ∷ ls) d low all = absurd (let e = all 0 [] (omega arith) in omega arith)
none_after (b ∷ bs) ((s ∷ ss) ∷ ls) d low all = none_after bs ls d (omega arith) (λ k e lw. all (suc k) e (omega arith))

-- Facts on the elements of two lists at the same places.
use Rattle.std.proofs.Common.{◌≡◌, ℕ, ◌+◌, ◌<◌, List, [], ◌∷◌, ◌++◌, length, take, get_or, refl, sym, subst, arith}
use Rattle.sf_parts.proofs.Common.{AllZip, take_more}

-- lists that are related at each place are as long as each other
pub zip_length : {X Y : Type 0} (R : X → Y → Type 0) (xs : List X) (ys : List Y) → AllZip R xs ys → length xs ≡ length ys
zip_length R [] [] all = refl
zip_length R [] (y ∷ ys) all = absurd all
zip_length R (x ∷ xs) [] all = absurd all
zip_length R (x ∷ xs) (y ∷ ys) all = omega (arith, zip_length R xs ys all.1)

-- one more related item at the end of both
zip_push : {X Y : Type 0} (R : X → Y → Type 0) (xs : List X) (ys : List Y) (x : X) (y : Y) → AllZip R xs ys → R x y → AllZip R (xs ++ x ∷ []) (ys ++ y ∷ [])
zip_push R [] [] x y all here = (here, tt)
zip_push R [] (z ∷ ys) x y all here = absurd all
zip_push R (z ∷ xs) [] x y all here = absurd all
zip_push R (z ∷ xs) (w ∷ ys) x y all here = (all.0, zip_push R xs ys x y all.1 here)

-- one more item of the first list, and one related to it at the end of the second
pub zip_more : {X Y : Type 0} (R : X → Y → Type 0) (xs : List X) (ys ys' : List Y) (i : ℕ) (x : X) (y : Y) → i < length xs → x ≡ get_or xs i x → ys' ≡ ys ++ y ∷ [] → AllZip R (take i xs) ys → R x y → AllZip R (take (i + 1) xs) ys'
zip_more {X} {Y} R xs ys ys' i x y low item put all here =
    let P : List X → Type 0 = λ zs. AllZip R zs (ys ++ y ∷ []) in
    let Q : List Y → Type 0 = λ zs. AllZip R (take (i + 1) xs) zs in
    let S : X → Type 0 = λ z. R z y in
    subst Q (sym put) (subst P (sym (take_more xs i x low)) (zip_push R (take i xs) ys (get_or xs i x) y all (subst S item here)))

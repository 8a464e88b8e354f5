-- One more line, and the parts of a text put together.
use Rattle.std.proofs.Common.{◌≡◌, ℕ, suc, ◌+◌, ◌<◌, List, [], ◌∷◌, ◌++◌, length, get_or, take, refl, sym, ap, ◌∙◌, arith}
use Rattle.sf_gen.proofs.Common.{map, flat_map, range_with_len, take_more, flat_map_more, length-take, map-range_with_len_more, indexed}

-- the results of two lists together are those of the first, and those of the second with indices that go on
indexed-append : {X Y : Type 0} (f : ℕ → X → Y) (i : ℕ) (xs ys : List X) → indexed f i (xs ++ ys) ≡ indexed f i xs ++ indexed f (i + length xs) ys
indexed-append f i [] ys = let e : i + 0 ≡ i = omega arith in rw e refl
indexed-append f i (x ∷ xs) ys =
    let e : i + 1 + length xs ≡ i + suc (length xs) = omega arith in
    ap (λ l. f i x ∷ l) (indexed-append f (i + 1) xs ys ∙ ap (λ k. indexed f (i + 1) xs ++ indexed f k ys) e)

-- the results of one more element are those so far, and that of the element
indexed_more : {X Y : Type 0} (f : ℕ → X → Y) (xs : List X) (i : ℕ) (d : X) → i < length xs → indexed f 0 (take (i + 1) xs) ≡ indexed f 0 (take i xs) ++ f i (get_or xs i d) ∷ []
indexed_more f xs i d h =
    let e : 0 + length (take i xs) ≡ i = omega (arith, length-take i xs) in
    ap (indexed f 0) (take_more xs i d h) ∙ indexed-append f 0 (take i xs) (get_or xs i d ∷ []) ∙ ap (λ k. indexed f 0 (take i xs) ++ indexed f k (get_or xs i d ∷ [])) e

-- what was drawn so far, and one more
pub one_drawn : {X : Type 0} (f : ℕ → X) (n : ℕ) (old new : List X) (x : X) → old ≡ map f (range_with_len 0 n) → x ≡ f n → new ≡ old ++ x ∷ [] → new ≡ map f (range_with_len 0 (n + 1))
one_drawn f n old new x was e is =
    let at : 0 + n ≡ n = omega arith in
    is ∙ ap (λ v. v ++ x ∷ []) was ∙ ap (λ v. map f (range_with_len 0 n) ++ v ∷ []) e ∙ sym (map-range_with_len_more f 0 n n at)

-- what was written of the first elements, and of one more
pub lines_more : {X Y : Type 0} (g : Y → List ℕ) (f : ℕ → X → Y) (xs : List X) (i : ℕ) (d : X) (old before new : List ℕ) → i < length xs
    → before ≡ old ++ flat_map g (indexed f 0 (take i xs)) → new ≡ before ++ g (f i (get_or xs i d))
    → new ≡ old ++ flat_map g (indexed f 0 (take (i + 1) xs))
lines_more g f xs i d old before new h was is =
    is ∙ ap (λ v. v ++ g (f i (get_or xs i d))) was
    ∙ flat_map_more g old (indexed f 0 (take i xs)) (f i (get_or xs i d))
    ∙ ap (λ v. old ++ flat_map g v) (sym (indexed_more f xs i d h))

-- Sets as numbers: unions, parts, and how the parts of a set are met in falling order.
use Rattle.std.proofs.Common.{◌≡◌, ℕ, zero, suc, ◌+◌, ◌-◌, ◌*◌, ◌/◌, ◌%◌, ◌^◌, ◌<◌, ◌≤◌, inl, inr, min, List, [], ◌∷◌, get_or, arith, refl, ap, sym, subst, ◌∙◌, add-one}
use Rattle.sf_subsets.proofs.Common.{IsPart, IsSplit, bit_and, bit_at, bit_at-zero, cases_lt, total, trailing_zeros, w64, bit_at_lowest, bit_at-suc, same_from_bits, bit_at_above, bit_at_and, bit_at_cat_low, bit_at_cat_high, bit_at-lt, bit_at-trailing_zeros}

-- without their lowest bits too one is the union of the others
split-half : (a b s : ℕ) → IsSplit a b s → IsSplit (a / 2) (b / 2) (s / 2)
split-half a b s h i = omega (arith, h (suc i), bit_at-suc a i, bit_at-suc b i, bit_at-suc s i)

-- their lowest bits
split-low : (a b s : ℕ) → IsSplit a b s → a % 2 + b % 2 ≡ s % 2
split-low a b s h = omega (arith, h 0, bit_at_lowest a, bit_at_lowest b, bit_at_lowest s)

-- the number of a union is the sum
sum-below : (n a b s : ℕ) → a ≤ n → b ≤ n → s ≤ n → IsSplit a b s → a + b ≡ s
sum-below zero a b s la lb ls h = omega arith
sum-below (suc n) a b s la lb ls h =
    omega (arith, split-low a b s h, sum-below n (a / 2) (b / 2) (s / 2) (omega arith) (omega arith) (omega arith) (split-half a b s h))

-- the same without a limit
pub split-sum : (a b s : ℕ) → IsSplit a b s → a + b ≡ s
split-sum a b s h = sum-below (a + b + s) a b s (omega arith) (omega arith) (omega arith) h

-- and so is the sum of the numbers of its blocks
pub split-total : (ns : List ℕ) (a b s : ℕ) → IsSplit a b s → total ns a + total ns b ≡ total ns s
split-total [] a b s h = refl
split-total (n ∷ ns) a b s h =
    omega (arith, ap (λ v. v * n) (split-low a b s h), split-total ns (a / 2) (b / 2) (s / 2) (split-half a b s h))

-- of no block the sum is 0
total-none : (ns : List ℕ) (s : ℕ) → ((i : ℕ) → bit_at s i ≡ 0) → total ns s ≡ 0
total-none [] s h = refl
total-none (n ∷ ns) s h =
    let low : s % 2 ≡ 0 = omega (arith, h 0, bit_at_lowest s) in
    omega (arith, ap (λ v. v * n) low, total-none ns (s / 2) (λ i. omega (arith, h (suc i), bit_at-suc s i)))

-- of one block it is no more than its number
pub total-one : (ns : List ℕ) (b s : ℕ) → ((i : ℕ) → (i ≡ b → ⊥) → bit_at s i ≡ 0) → total ns s ≤ get_or ns b 0
total-one [] b s h = omega arith
total-one (n ∷ ns) zero s h =
    let low : s % 2 < 2 = omega arith in
    let rest : total ns (s / 2) ≡ 0 = total-none ns (s / 2) (λ i. omega (arith, h (suc i) (λ e. omega (arith, e)), bit_at-suc s i)) in
    elim (cases_lt (s % 2) 1) [
      | inl e ↦ (let f : s % 2 ≡ 0 = omega arith in omega (arith, ap (λ v. v * n) f))
      | inr e ↦ (let f : s % 2 ≡ 1 = omega arith in omega (arith, ap (λ v. v * n) f))
    ]
total-one (n ∷ ns) (suc b) s h =
    let low : s % 2 ≡ 0 = omega (arith, h 0 (λ e. omega (arith, e)), bit_at_lowest s) in
    omega (arith, ap (λ v. v * n) low, total-one ns b (s / 2) (λ i ne. omega (arith, h (suc i) (λ e. ne (omega (arith, e))), bit_at-suc s i)))

-- the set of the blocks that are counted once, among the first n
pub gather : ℕ → (ℕ → ℕ) → ℕ
gather zero f = 0
gather (suc n) f = f 0 + 2 * gather n (λ i. f (suc i))

-- its bits
pub gather-bit : (n : ℕ) (f : ℕ → ℕ) → ((i : ℕ) → f i ≤ 1) → ((i : ℕ) → n ≤ i → f i ≡ 0) → (i : ℕ) → bit_at (gather n f) i ≡ f i
unfolding gather
gather-bit zero f one none i = bit_at-zero i ∙ sym (none i (omega arith))
gather-bit (suc n) f one none zero = omega (arith, bit_at_lowest (f 0 + 2 * gather n (λ i. f (suc i))), one 0)
gather-bit (suc n) f one none (suc i) =
    let g = gather n (λ i. f (suc i)) in
    let half : (f 0 + 2 * g) / 2 ≡ g = omega (arith, one 0) in
    bit_at-suc (f 0 + 2 * g) i ∙ ap (λ v. bit_at v i) half ∙ gather-bit n (λ i. f (suc i)) (λ i. one (suc i)) (λ i le. none (suc i) (omega arith)) i

-- a number is below the power of 2 that it is the exponent of
pub below_power : (n : ℕ) → n < 2 ^ n
below_power zero = omega arith
below_power (suc n) = omega (arith, below_power n)

-- a bit is 0 or 1, and 0 at the place of the number's value
pub no_bit : (s i : ℕ) → s ≤ i → bit_at s i ≡ 0
no_bit s i le = bit_at_above s s i (below_power s) le

-- without their lowest bits too one is a part of the other
part-half : (s m : ℕ) → IsPart s m → IsPart (s / 2) (m / 2)
part-half s m h i = omega (arith, h (suc i), bit_at-suc s i, bit_at-suc m i)

-- a part has no greater number
le-below : (n s m : ℕ) → s ≤ n → IsPart s m → s ≤ m
le-below zero s m le h = omega arith
le-below (suc n) s m le h =
    omega (arith, h 0, bit_at_lowest s, bit_at_lowest m, le-below n (s / 2) (m / 2) (omega arith) (part-half s m h))

-- the same without a limit
pub part-le : (s m : ℕ) → IsPart s m → s ≤ m
part-le s m h = le-below s s m (omega arith) h

-- the bits that a set has in common with an odd part of it less 1 are those of the part less 1
odd-bits : (sub r x : ℕ) → 1 ≤ sub % 2 → IsPart sub r → ((i : ℕ) → bit_at x i ≡ min (bit_at (sub - 1) i) (bit_at r i)) → (i : ℕ) → bit_at x i ≡ bit_at (sub - 1) i
odd-bits sub r x odd psub bits zero =
    let low : (sub - 1) % 2 ≡ 0 = omega arith in
    omega (arith, bits 0, bit_at_lowest (sub - 1), low)
odd-bits sub r x odd psub bits (suc i) =
    let half : (sub - 1) / 2 ≡ sub / 2 = omega arith in
    omega (arith, bits (suc i), psub (suc i), bit_at-suc (sub - 1) i, bit_at-suc sub i, ap (λ v. bit_at v i) half)

-- of the parts that stand below one of them none is above what that one less 1 and the set have in common
part-below : (n sub s r x : ℕ) → sub ≤ n → IsPart s r → IsPart sub r → ((i : ℕ) → bit_at x i ≡ min (bit_at (sub - 1) i) (bit_at r i)) → s < sub → s ≤ x
part-below zero sub s r x le ps psub bits lt = absurd (omega arith)
part-below (suc n) sub s r x le ps psub bits lt =
    elim (cases_lt (sub % 2) 1) [
      | inl even ↦ (let half : (sub - 1) / 2 ≡ sub / 2 - 1 = omega arith in
          let odd : (sub - 1) % 2 ≡ 1 = omega arith in
          let below : s / 2 ≤ x / 2 =
          part-below n (sub / 2) (s / 2) (r / 2) (x / 2) (omega arith) (part-half s r ps) (part-half sub r psub)
          (λ i. omega (arith, bits (suc i), bit_at-suc x i, bit_at-suc r i, bit_at-suc (sub - 1) i, ap (λ v. bit_at v i) half)) (omega arith) in
          let low : s % 2 ≤ x % 2 = omega (arith, odd, bits 0, bit_at_lowest x, bit_at_lowest r, bit_at_lowest (sub - 1), ps 0, bit_at_lowest s) in
          omega (arith, below, low))
      | inr odd ↦ (let here : x ≡ sub - 1 = same_from_bits x (sub - 1) (odd-bits sub r x odd psub bits) in
          omega (arith, here))
    ]

-- the next part in falling order: none is passed over
pub next-part : (sub r s : ℕ) → IsPart sub r → IsPart s r → s < sub → s ≤ bit_and (sub - 1) r
next-part sub r s psub ps lt = part-below sub sub s r (bit_and (sub - 1) r) (omega arith) ps psub (λ i. bit_at_and (sub - 1) r i) lt

-- what two sets have in common is a part of the second
pub common-part : (a r : ℕ) → IsPart (bit_and a r) r
common-part a r i = omega (arith, bit_at_and a r i)

-- a block above all others of a set
module _ (k r : ℕ) (lt : r < 2 ^ k) where
  -- the others keep their bits
  pub top-below : (i : ℕ) → i < k → bit_at (2 ^ k + r) i ≡ bit_at r i
  top-below i below = ap (λ v. bit_at v i) (let e : 2 ^ k + r ≡ 1 * 2 ^ k + r = omega arith in e) ∙ bit_at_cat_low 1 k r i below

  -- it is in the set
  pub top-here : bit_at (2 ^ k + r) k ≡ 1
  top-here =
      ap (λ v. bit_at v k) (let e : 2 ^ k + r ≡ 1 * 2 ^ k + r = omega arith in e)
      ∙ bit_at_cat_high 1 k r k lt (omega arith)
      ∙ ap (λ v. bit_at 1 v) (let e : k - k ≡ 0 = omega arith in e)
      ∙ bit_at_lowest 1

  -- nothing is above it
  pub top-above : (i : ℕ) → k < i → bit_at (2 ^ k + r) i ≡ 0
  top-above i above =
      ap (λ v. bit_at v i) (let e : 2 ^ k + r ≡ 1 * 2 ^ k + r = omega arith in e)
      ∙ bit_at_cat_high 1 k r i lt (omega arith)
      ∙ no_bit 1 (i - k) (omega arith)

-- a set is the union of a part and what is left of it
pub rest-split : (part set : ℕ) → IsPart part set → IsSplit (set - part) part set
rest-split part set h =
    let bits = gather-bit set (λ i. bit_at set i - bit_at part i) (λ i. omega (arith, bit_at-lt set i)) (λ i le. omega (arith, no_bit set i le)) in
    let a = gather set (λ i. bit_at set i - bit_at part i) in
    let split : IsSplit a part set = λ i. omega (arith, bits i, h i) in
    let e : a ≡ set - part = omega (arith, split-sum a part set split) in
    subst (λ v. IsSplit v part set) e split

-- a part of the lesser blocks is a part of the set
pub part-of_set : (k r part : ℕ) → r < 2 ^ k → IsPart part r → IsPart part (2 ^ k + r)
part-of_set k r part lt h i =
    elim (cases_lt i k) [
      | inl low ↦ omega (arith, h i, top-below k r lt i low)
      | inr ge ↦ omega (arith, h i, bit_at_above r k i lt ge)
    ]

-- twice a power is the next one
pub power-more : (k : ℕ) → 2 ^ (k + 1) ≡ 2 ^ k + 2 ^ k
power-more k = ap (λ v. 2 ^ v) (add-one k) ∙ omega arith

-- the lowest bit of a power of 2 stands at its exponent
pub lowest-of_power : (set b : ℕ) → set < 2 ^ 64 → set ≡ 2 ^ b → trailing_zeros w64 set ≡ b
lowest-of_power set b lt is =
    let some : 0 < set = omega (arith, is, below_power b) in
    let low = bit_at-trailing_zeros w64 set some lt in
    let e : set ≡ 2 ^ b + 0 = omega (arith, is) in
    let zero' : 0 < 2 ^ b = omega (arith, below_power b) in
    elim (cases_lt (trailing_zeros w64 set) b) [
      | inl below ↦ absurd (omega (arith, low.1, ap (λ v. bit_at v (trailing_zeros w64 set)) e, top-below b 0 zero' (trailing_zeros w64 set) below, bit_at-zero (trailing_zeros w64 set)))
      | inr ge ↦ elim (cases_lt b (trailing_zeros w64 set)) [
        | inl above ↦ absurd (omega (arith, low.2 b above, ap (λ v. bit_at v b) e, top-here b 0 zero'))
        | inr le ↦ omega (arith, ge, le)
      ]
    ]

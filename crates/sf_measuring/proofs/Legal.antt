-- The area of a legal placement, and the lines that tell it.
use Rattle.std.proofs.Common.{◌≡◌, ℕ, ◌*◌, ◌^◌, ◌≤◌, List, [], ◌∷◌, ◌++◌, arith, ap, ◌∙◌, append_assoc, codes}
use Rattle.std.proofs.Math.Nat.{mul-le-mul_left, mul_comm}
use Rattle.sf_measuring.proofs.Common.{AllByRecursion, recursion_from_All, Design, Spot, right_end, upper_end, AreLegal, LiesIn, legal_text, line_of, ints}
use Rattle.sf_model.specs.declared.parts.Outline.{Outline}

-- spots in the outline end at its width at most
right_end_most : (outline : Outline) (ss : List Spot) → AllByRecursion (LiesIn outline) ss → right_end ss ≤ outline.w
right_end_most outline [] a = omega arith
right_end_most outline (s ∷ ss) a = let l = a.0.left in let r = a.0.right in omega (arith, ints, l, r, right_end_most outline ss a.1)

-- and at its height at most
upper_end_most : (outline : Outline) (ss : List Spot) → AllByRecursion (LiesIn outline) ss → upper_end ss ≤ outline.h
upper_end_most outline [] a = omega arith
upper_end_most outline (s ∷ ss) a = let l = a.0.below in let r = a.0.above in omega (arith, ints, l, r, upper_end_most outline ss a.1)

-- a product is at most that of greater factors
product : (a b m n : ℕ) → a ≤ m → b ≤ n → a * b ≤ m * n
product a b m n h k =
    let p : a * b ≤ a * n = mul-le-mul_left a k in
    let q : n * a ≤ n * m = mul-le-mul_left n h in
    omega (arith, p, q, mul_comm a n, mul_comm n m)

-- no side of a legal placement is over 2^20, so its area is at most 2^40
pub area_small : (design : Design) (spots : List Spot) (w h : ℕ) → AreLegal design spots → w ≡ right_end spots → h ≡ upper_end spots → w * h ≤ 2 ^ 20 * 2 ^ 20
area_small design spots w h legal r u =
    let each = recursion_from_All (LiesIn design.outline) spots legal.inside in
    let c : w ≤ 2 ^ 20 = omega (arith, r, right_end_most design.outline spots each, design.limits.width.1) in
    let d : h ≤ 2 ^ 20 = omega (arith, u, upper_end_most design.outline spots each, design.limits.height.1) in
    product w h (2 ^ 20) (2 ^ 20) c d

-- the lines that are printed at once are the lines one after another
pub lines_joined : (c w h a s : List ℕ)
    → codes "status Legal\ncost " ++ (c ++ (codes "\nsize " ++ (w ++ 32 ∷ (h ++ (codes "\narea " ++ (a ++ (codes "\nwire " ++ (s ++ 10 ∷ []))))))))
    ≡ line_of (codes "status" ∷ codes "Legal" ∷ []) ++ (line_of (codes "cost" ∷ c ∷ []) ++ (line_of (codes "size" ∷ w ∷ h ∷ []) ++ (line_of (codes "area" ∷ a ∷ []) ++ line_of (codes "wire" ∷ s ∷ []))))
lines_joined c w h a s = simp append_assoc

-- the text depends on its four numbers alone
pub legal_same : (a b c d p q r s : ℕ) → a ≡ p → b ≡ q → c ≡ r → d ≡ s → legal_text a b c d ≡ legal_text p q r s
legal_same a b c d p q r s x y z t =
    ap (λ (n : ℕ). legal_text n b c d) x ∙ ap (λ (n : ℕ). legal_text p n c d) y ∙ ap (λ (n : ℕ). legal_text p q n d) z ∙ ap (legal_text p q r) t

-- The greatest ends of spots, one spot more, and of spots in an outline.
use Rattle.std.proofs.Common.{◌≡◌, ℕ, ◌+◌, ◌<◌, ◌≤◌, max, List, [], ◌∷◌, length, get_or, take, arith, ap, ◌+ℤ◌}
use Rattle.sf_wire.proofs.Common.{pos, nat_abs, ints, right_end, upper_end, take_more, Spot, LiesIn}
use Rattle.std.specs.List.{AllByRecursion}
use Rattle.sf_model.specs.declared.parts.Outline.{Outline}
use Rattle.sf_model.proofs.Ends.{right_end-append, upper_end-append}

-- with one spot more
pub right_end_more : (ss : List Spot) (i : ℕ) (d : Spot) → i < length ss → right_end (take (i + 1) ss) ≡ max (right_end (take i ss)) (nat_abs ((get_or ss i d).x +ℤ pos (get_or ss i d).w))
right_end_more ss i d h = omega (arith, ap right_end (take_more ss i d h), right_end-append (take i ss) (get_or ss i d ∷ []))

-- one spot more may raise the upper end
pub upper_end_more : (ss : List Spot) (i : ℕ) (d : Spot) → i < length ss → upper_end (take (i + 1) ss) ≡ max (upper_end (take i ss)) (nat_abs ((get_or ss i d).y +ℤ pos (get_or ss i d).h))
upper_end_more ss i d h = omega (arith, ap upper_end (take_more ss i d h), upper_end-append (take i ss) (get_or ss i d ∷ []))

-- spots in an outline end in it
pub right_end_most : (outline : Outline) (ss : List Spot) → AllByRecursion (LiesIn outline) ss → right_end ss ≤ outline.w
right_end_most outline [] a = omega arith
right_end_most outline (s ∷ ss) a = let l = a.0.left in let r = a.0.right in omega (arith, ints, l, r, right_end_most outline ss a.1)

-- spots in the outline have their upper end there
pub upper_end_most : (outline : Outline) (ss : List Spot) → AllByRecursion (LiesIn outline) ss → upper_end ss ≤ outline.h
upper_end_most outline [] a = omega arith
upper_end_most outline (s ∷ ss) a = let l = a.0.below in let r = a.0.above in omega (arith, ints, l, r, upper_end_most outline ss a.1)

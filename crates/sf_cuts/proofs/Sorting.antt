-- Spots in order along an axis: by where they begin, then by side.
use Rattle.std.proofs.Common.{◌≡◌, ℕ, ◌<◌, List, get_or, false, true≢false, refl, arith, Bor, is_lt, nat_cmp, Ordering, Less, Equal, Greater}
use Rattle.std.specs.Cmp.{IsTotalOrder}
use Rattle.std.specs.Fn.{Called, ComputesKey}
use Rattle.std.specs.List.Sorted.{IsSortedByKey}
use Rattle.std.specs.Ordering.{int_cmp, ordering_then, MatchOrdering}
use Rattle.std.proofs.lemmas.Cmp.{ranked, int_ranked, nat_cmp_total, int_cmp_total, on_total, then_total}
use Rattle.std.proofs.lemmas.Fn.{always_returns_same}
use Rattle.std.proofs.lemmas.List.Sorted.{ranks_by, sorted_far}
use Rattle.sf_cuts.proofs.Common.{AllPairs, Axis, IsNoLater, Spot, begin_on, ints, side_on, ℤ, ◌<ℤ◌}
use denote.Param.Members.{Mut}

-- the begin and the side of a spot, as a key to sort by
abbrev pub key_on : Axis → Spot → ℤ × ℕ
key_on axis s = (begin_on axis s, side_on axis s)

-- the order of these keys
abbrev pub key_cmp : ℤ × ℕ → ℤ × ℕ → Ordering
key_cmp x y = ordering_then (int_cmp x.0 y.0) (nat_cmp x.1 y.1)

-- it is a total order
key_cmp_total : IsTotalOrder key_cmp
key_cmp_total = then_total (on_total (λ t. t.0) int_cmp_total) (on_total (λ t. t.1) nat_cmp_total)

-- a spot whose key is not less than another's stands no earlier
not_less : (axis : Axis) (s t : Spot) (begins sides : Ordering)
    → MatchOrdering begins (begin_on axis t <ℤ begin_on axis s) (begin_on axis t ≡ begin_on axis s) (begin_on axis s <ℤ begin_on axis t)
    → MatchOrdering sides (side_on axis t < side_on axis s) (side_on axis t ≡ side_on axis s) (side_on axis s < side_on axis t)
    → is_lt (ordering_then begins sides) ≡ false → IsNoLater axis s t
not_less axis s t Less sides b k e = absurd (true≢false e)
not_less axis s t Equal Less b k e = absurd (true≢false e)
not_less axis s t Equal Equal b k e = (omega (arith, ints, b), λ _. omega (arith, k))
not_less axis s t Equal Greater b k e = (omega (arith, ints, b), λ _. omega (arith, k))
not_less axis s t Greater sides b k e = (omega (arith, ints, b), λ same. absurd (omega (arith, ints, b, same)))

-- what a sort by both gives
pub in_order_from_sort : (axis : Axis) {F : Type 0} {g : Mut F (Bor Spot × Unit {0}) (ℤ × ℕ)} {f : F} (xs : List Spot)
    → ((key : Spot → ℤ × ℕ) → ComputesKey g key f → IsSortedByKey key key_cmp xs)
    → ((a : Bor Spot × Unit {0}) (r : ℤ × ℕ) (f' : F) → Called g f a r f' → (r ≡ key_on axis a.0.now) × (f' ≡ f))
    → AllPairs (IsNoLater axis) xs
in_order_from_sort axis {g = g} {f = f} xs up h i j d lt in_range =
    let s = get_or xs i d in
    let t = get_or xs j d in
    let sorted = up (key_on axis) (always_returns_same g (λ a r. r ≡ key_on axis a.0.now) f h) in
    not_less axis s t _ _ (int_ranked (begin_on axis t) (begin_on axis s) _ refl) (ranked (side_on axis t) (side_on axis s) _ refl)
    (sorted_far (λ x y. is_lt (key_cmp (key_on axis x) (key_on axis y))) (ranks_by key_cmp_total (key_on axis)) xs sorted i j d (omega (arith, lt)) in_range)

-- Shapes in order, by width, then height.
use Rattle.std.proofs.Common.{◌≡◌, ℕ, ◌+◌, ◌<◌, List, length, get_or, take, false, true≢false, refl, sym, subst, arith, Bor, is_lt, nat_cmp, Ordering, Less, Equal, Greater}
use Rattle.sf_curves.proofs.Common.{All, AllPairs, IsSortedByKey, take_more, All-push, All-weaker, all_pairs_push, Shape, IsNoLater, ranks_by, sorted_far}
use Rattle.std.specs.Cmp.{IsTotalOrder}
use Rattle.std.specs.Fn.{Called, ComputesKey}
use Rattle.std.specs.Ordering.{ordering_then, MatchOrdering}
use Rattle.std.proofs.lemmas.Cmp.{ranked, nat_cmp_total, on_total, then_total}
use Rattle.std.proofs.lemmas.Fn.{always_returns_same}
use denote.Param.Members.{Mut}

-- no later than what stands no later is no later
no_later_still : (p q r : Shape) → IsNoLater p q → IsNoLater q r → IsNoLater p r
no_later_still p q r h k = (
  omega (arith, h.0, k.0),
  λ same.
      let first : p.w ≡ q.w = omega (arith, same, h.0, k.0) in
      let second : q.w ≡ r.w = omega (arith, same, h.0, k.0) in
      omega (arith, h.1 first, k.1 second),
)

-- the shapes stand in order, and none of them later than the last
abbrev pub AreInOrderUpTo : Shape → List Shape → Type 0
AreInOrderUpTo last shapes = All (λ p. IsNoLater p last) shapes × AllPairs IsNoLater shapes

-- a shape that stands no later than its next goes on the order
pub in_order_more : (shapes : List Shape) (i : ℕ) (d last : Shape) → i < length shapes → AreInOrderUpTo last (take i shapes) → IsNoLater last (get_or shapes i d) → AreInOrderUpTo (get_or shapes i d) (take (i + 1) shapes)
in_order_more shapes i d last lt m next =
    let x = get_or shapes i d in
    let before : All (λ p. IsNoLater p x) (take i shapes) = All-weaker (λ p. IsNoLater p last) (λ p. IsNoLater p x) (λ p h. no_later_still p last x h next) (take i shapes) m.0 in
    subst (AreInOrderUpTo x) (sym (take_more shapes i d lt)) (
      All-push (λ p. IsNoLater p x) (take i shapes) x before (omega arith, λ _. omega arith),
      all_pairs_push IsNoLater (take i shapes) x m.1 before,
    )

-- both sides of a shape, as a key to sort by
abbrev pub sides : Shape → ℕ × ℕ
sides p = (p.w, p.h)

-- the order of these keys
abbrev pub sides_cmp : ℕ × ℕ → ℕ × ℕ → Ordering
sides_cmp x y = ordering_then (nat_cmp x.0 y.0) (nat_cmp x.1 y.1)

-- it is a total order
sides_cmp_total : IsTotalOrder sides_cmp
sides_cmp_total = then_total (on_total (λ t. t.0) nat_cmp_total) (on_total (λ t. t.1) nat_cmp_total)

-- a shape whose key is not less than another's stands no earlier
not_less : (p q : Shape) (wide high : Ordering) → MatchOrdering wide (q.w < p.w) (q.w ≡ p.w) (p.w < q.w) → MatchOrdering high (q.h < p.h) (q.h ≡ p.h) (p.h < q.h) → is_lt (ordering_then wide high) ≡ false → IsNoLater p q
not_less p q Less high w h e = absurd (true≢false e)
not_less p q Equal Less w h e = absurd (true≢false e)
not_less p q Equal Equal w h e = (omega (arith, w), λ _. omega (arith, h))
not_less p q Equal Greater w h e = (omega (arith, w), λ _. omega (arith, h))
not_less p q Greater high w h e = (omega (arith, w), λ same. absurd (omega (arith, w, same)))

-- what a sort by both sides gives
pub in_order_from_sort : {F : Type 0} {g : Mut F (Bor Shape × Unit {0}) (ℕ × ℕ)} {f : F} (xs : List Shape)
    → ((key : Shape → ℕ × ℕ) → ComputesKey g key f → IsSortedByKey key sides_cmp xs)
    → ((a : Bor Shape × Unit {0}) (r : ℕ × ℕ) (f' : F) → Called g f a r f' → (r ≡ sides a.0.now) × (f' ≡ f))
    → AllPairs IsNoLater xs
in_order_from_sort {g = g} {f = f} xs up h i j d lt in_range =
    let p = get_or xs i d in
    let q = get_or xs j d in
    let sorted = up sides (always_returns_same g (λ a r. r ≡ sides a.0.now) f h) in
    not_less p q _ _ (ranked q.w p.w _ refl) (ranked q.h p.h _ refl)
    (sorted_far (λ x y. is_lt (sides_cmp (sides x) (sides y))) (ranks_by sides_cmp_total sides) xs sorted i j d (omega (arith, lt)) in_range)

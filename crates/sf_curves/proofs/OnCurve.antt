-- Points of a curve: one of two that is no larger is the other, and which are the narrowest and the lowest by a limit.
use Rattle.std.proofs.Common.{◌≡◌, ℕ, ◌<◌, ◌≤◌, inl, inr, List, length, get_or, sym, ap, ◌∙◌, subst, arith}
use Rattle.sf_curves.proofs.Common.{AllPairs, Contains, Contains-get_or, get_or_default, cases_lt, Shape, IsSlimmer, IsNoLarger, IsNarrowest, IsLowest}

-- points of the same sides are one
pub same_point : (p q : Shape) → p.w ≡ q.w → p.h ≡ q.h → p ≡ q
same_point p q a b = ap (λ v. let r : Shape = record { w = v; h = p.h } in r) a ∙ ap (λ v. let r : Shape = record { w = q.w; h = v } in r) b

-- two points of a curve of which one is no larger are one point
pub one_point : (points : List Shape) (p q : Shape) → AllPairs IsSlimmer points → Contains points p → Contains points q → IsNoLarger p q → p ≡ q
one_point points p q falls cp cq le =
    let at_p : get_or points cp.0 q ≡ p = get_or_default points cp.0 q p cp.1 ∙ cp.2 in
    elim (cases_lt cp.0 cq.0) [
      | inl lt ↦ (let b = falls cp.0 cq.0 q lt cq.1 in
          let c : IsSlimmer p q = subst (λ v. IsSlimmer v q) at_p (subst (IsSlimmer (get_or points cp.0 q)) cq.2 b) in absurd (omega (arith, c.1, le.1)))
      | inr ge ↦ elim (cases_lt cq.0 cp.0) [
        | inl lt ↦ (let b = falls cq.0 cp.0 q lt cp.1 in
            let c : IsSlimmer q p = subst (IsSlimmer q) at_p (subst (λ v. IsSlimmer v (get_or points cp.0 q)) cq.2 b) in absurd (omega (arith, c.0, le.0)))
        | inr le' ↦ (let same : cp.0 ≡ cq.0 = omega (arith, ge, le') in sym at_p ∙ ap (λ k. get_or points k q) same ∙ cq.2)
      ]
    ]

-- the first point that is no higher than the limit is the narrowest of these
pub narrowest_at : (limit : ℕ) (points : List Shape) (i : ℕ) (d : Shape) → AllPairs IsSlimmer points → i < length points → ((k : ℕ) (e : Shape) → k < i → limit < (get_or points k e).h) → (get_or points i d).h ≤ limit → IsNarrowest limit points (get_or points i d)
narrowest_at limit points i d falls lt before low = record {
  found = Contains-get_or points i d lt;
  low = low;
  least = λ k e in_list is_low. elim (cases_lt k i) [
    | inl first ↦ absurd (omega (arith, before k e first, is_low))
    | inr ge ↦ elim (cases_lt i k) [
      | inl later ↦ omega (arith, (falls i k e later in_list).0, ap (λ v. v.w) (get_or_default points i d e lt))
      | inr le ↦ (let same : k ≡ i = omega (arith, ge, le) in omega (arith, ap (λ v. v.w) (ap (λ j. get_or points j e) same), ap (λ v. v.w) (get_or_default points i d e lt)))
    ]
  ];
}

-- the last point that is no wider than the limit is the lowest of these
pub lowest_at : (limit : ℕ) (points : List Shape) (i : ℕ) (d : Shape) → AllPairs IsSlimmer points → i < length points → ((k : ℕ) (e : Shape) → i < k → k < length points → limit < (get_or points k e).w) → (get_or points i d).w ≤ limit → IsLowest limit points (get_or points i d)
lowest_at limit points i d falls lt behind narrow = record {
  found = Contains-get_or points i d lt;
  narrow = narrow;
  least = λ k e in_list is_narrow. elim (cases_lt i k) [
    | inl later ↦ absurd (omega (arith, behind k e later in_list, is_narrow))
    | inr le ↦ elim (cases_lt k i) [
      | inl first ↦ omega (arith, (falls k i e first lt).1, ap (λ v. v.h) (get_or_default points i d e lt))
      | inr ge ↦ (let same : k ≡ i = omega (arith, ge, le) in omega (arith, ap (λ v. v.h) (ap (λ j. get_or points j e) same), ap (λ v. v.h) (get_or_default points i d e lt)))
    ]
  ];
}

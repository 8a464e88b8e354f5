-- The curve of a set from what was gathered for it, and the table.
use Rattle.std.proofs.Common.{◌≡◌, ℕ, ◌+◌, ◌-◌, ◌^◌, ◌<◌, ◌≤◌, ◌⊎◌, inl, inr, List, [], ◌∷◌, ◌++◌, length, arith, refl, ap, sym, ◌∙◌, subst, length-append}
use Rattle.sf_subsets.proofs.Common.{AddsSmall, AddsSplits, All-contains, Any, AreLeasts, Contains, Design, IsCovered, IsCoveredWithin, IsCurveOf, IsJoined, IsNoLarger, IsTable, IsWithin, Outline, Shape, cases_lt, curve_at, limit_of, not_in_nil, shapes_of, size_in, get_or_append_left, get_or_push, All-nil, Any-weaker, Contains-head, Budget, Table, HasFloors, IsMade, IsSetCurve, IsSplitJoin}
use Rattle.sf_subsets.proofs.Law.{filled-covers, set-some}
use Rattle.sf_subsets.proofs.Added.{covered-kept}

-- what is covered by sizes is covered by their curve
covered-by_curve : (design : Design) (limit : ℕ) (found points : List Shape) → IsCurveOf design.outline found points → (s : Shape) → IsCoveredWithin design.outline limit found s → IsCoveredWithin design.outline limit points s
covered-by_curve design limit found points curve s h fit le =
    let x : Any (λ p. IsNoLarger p s) found = h fit le in
    Any-weaker (λ p. IsNoLarger p x.1) (λ p. IsNoLarger p s) points (λ p n. (omega (arith, n.0, x.4.0), omega (arith, n.1, x.4.1)))
    (All-contains (IsCovered design.outline points) found x.1 curve.covers (x.0, x.2, x.3) (omega (arith, x.4.0, fit.0), omega (arith, x.4.1, fit.1)))

-- the curve of all that was gathered is that of the set
pub set-filled : (design : Design) (budget : Budget) (table : Table) (k r limit : ℕ) (begun found points : List Shape) → r < 2 ^ k → AreLeasts design budget.leasts.items → limit ≡ limit_of budget (2 ^ k + r) → IsTable design budget (2 ^ k + r) table → ((r ≡ 0) × AddsSmall limit [] (shapes_of design k) begun) ⊎ ((0 < r) × (begun ≡ [])) → AddsSplits design.outline limit table.curves.items (2 ^ k + r) r 0 begun found → IsCurveOf design.outline found points → IsSetCurve design budget table.curves.items (2 ^ k + r) points
set-filled design budget table k r limit begun found points lt floor is t how added curve =
    let curves = table.curves.items in
    let single : r ≡ 0 → (s : Shape) → Contains (shapes_of design k) s → IsCoveredWithin design.outline limit begun s = λ none s c fit le. elim how [
      | inl e ↦ (let h = e.1.small s c le in (h.0, s, h.1, h.2, (omega arith, omega arith)))
      | inr e ↦ absurd (omega (arith, none, e.0))
    ] in
    record {
      covers = filled-covers design budget.leasts.items floor budget.dead k r lt (curve_at curves) (λ s below. (t.each s below).covers) points record {
        pairs = λ b some part p q dir cp cq. subst (λ v. IsCoveredWithin design.outline v points (size_in dir p q)) is
            (covered-by_curve design limit found points curve (size_in dir p q) (added.covers b part some p q dir cp cq));
        singles = λ none s c. subst (λ v. IsCoveredWithin design.outline v points s) is
            (covered-by_curve design limit found points curve s (covered-kept design.outline limit begun found added.kept s (single none s c)));
      };
      within = curve.within;
      made = λ p c. elim (added.from p (All-contains (Contains found) points p curve.traced c)) [
        | inl e ↦ elim how [
          | inl h ↦ elim (h.1.from p e) [
            | inl f ↦ absurd (not_in_nil p f)
            | inr f ↦ inl (k, omega (arith, h.0), f)
          ]
          | inr h ↦ absurd (not_in_nil p (subst (λ v. Contains v p) h.1 e))
        ]
        | inr e ↦ inr e
      ];
    }

-- no point is on the curve of no sizes
pub curve-of_none : (o : Outline) (curve : List Shape) → IsCurveOf o [] curve → curve ≡ []
curve-of_none o [] h = refl
curve-of_none o (p ∷ ps) h =
    absurd (not_in_nil p (All-contains (Contains []) (p ∷ ps) p h.traced (Contains-head p ps)))

-- a table of no set but the empty one, of which there is no plan
pub table-begins : (design : Design) (budget : Budget) (table : Table) → table.curves.items ≡ [] ∷ [] → HasFloors table → IsTable design budget (2 ^ 0) table
table-begins design budget table is floors = record {
  count = ap length is;
  each = λ set lt. let e : set ≡ 0 = omega arith in
      let none : curve_at table.curves.items set ≡ [] = ap (curve_at table.curves.items) e ∙ ap (λ v. curve_at v 0) is in
      subst (IsSetCurve design budget table.curves.items set) (sym none) record {
        covers = λ tree plan. absurd (omega (arith, e, set-some design set tree plan));
        within = All-nil (IsWithin design.outline);
        made = λ p c. absurd (not_in_nil p c);
      };
  floors = floors;
}

-- a split of a set whose lesser sets have a curve is one in a table with one more curve
split-kept : (curves : List (List Shape)) (points : List Shape) (set : ℕ) (p : Shape) → set ≤ length curves → IsSplitJoin curves set p → IsSplitJoin (curves ++ points ∷ []) set p
split-kept curves points set p le h =
    let first : curve_at (curves ++ points ∷ []) (set - h.part) ≡ curve_at curves (set - h.part) =
    get_or_append_left curves (points ∷ []) [] (set - h.part) (omega (arith, h.some, h.less, le)) in
    let second : curve_at (curves ++ points ∷ []) h.part ≡ curve_at curves h.part =
    get_or_append_left curves (points ∷ []) [] h.part (omega (arith, h.less, le)) in
    record {
      part = h.part;
      is_part = h.is_part;
      some = h.some;
      less = h.less;
      joined = subst (λ v. IsJoined v (curve_at (curves ++ points ∷ []) h.part) p) (sym first) (subst (λ v. IsJoined (curve_at curves (set - h.part)) v p) (sym second) h.joined);
    }

-- and so is the curve of such a set
curve-kept : (design : Design) (budget : Budget) (old new : List (List Shape)) (points : List Shape) (set : ℕ) (curve : List Shape) → new ≡ old ++ points ∷ [] → set ≤ length old → IsSetCurve design budget old set curve → IsSetCurve design budget new set curve
curve-kept design budget old new points set curve is le h = record {
  covers = h.covers;
  within = h.within;
  made = λ p c. subst (λ v. IsMade design v set p) (sym is) (elim (h.made p c) [
    | inl e ↦ inl e
    | inr e ↦ inr (split-kept old points set p le e)
  ]);
}

-- one more curve
pub table-push : (design : Design) (budget : Budget) (size : ℕ) (old new : Table) (points : List Shape) → new.curves.items ≡ old.curves.items ++ points ∷ [] → HasFloors new → IsTable design budget size old → IsSetCurve design budget old.curves.items size points → IsTable design budget (size + 1) new
table-push design budget size old new points is floors table h = record {
  count = omega (arith, ap length is, length-append old.curves.items (points ∷ []), table.count);
  each = λ set lt. elim (cases_lt set size) [
    | inl below ↦ subst (IsSetCurve design budget new.curves.items set) (sym (ap (λ v. curve_at v set) is ∙ get_or_append_left old.curves.items (points ∷ []) [] set (omega (arith, below, table.count))))
        (curve-kept design budget old.curves.items new.curves.items points set _ is (omega (arith, below, table.count)) (table.each set below))
    | inr ge ↦ (let e : size ≡ set = omega arith in
        subst (λ v. IsSetCurve design budget new.curves.items v (curve_at new.curves.items v)) e
        (subst (IsSetCurve design budget new.curves.items size) (sym (ap (λ v. curve_at v size) is ∙ get_or_push old.curves.items points [] size table.count))
        (curve-kept design budget old.curves.items new.curves.items points size points is (omega (arith, table.count)) h)))
  ];
  floors = floors;
}

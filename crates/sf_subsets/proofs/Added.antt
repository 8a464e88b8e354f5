-- The sizes that are gathered for a set.
use Rattle.std.proofs.Common.{◌≡◌, ℕ, ◌+◌, ◌-◌, ◌<◌, ◌≤◌, ◌⊎◌, inl, inr, List, [], ◌∷◌, ◌++◌, length, get_or, take, arith, ap, sym, subst}
use Rattle.sf_subsets.proofs.Common.{AddsSmall, AddsSplits, All, All-contains, Any, Contains, Direction, IsCovered, IsCoveredWithin, IsNoLarger, IsPart, Outline, Shape, area_of, bit_and, cases_lt, curve_at, not_in_nil, size_in, take_more, Contains-append_left, Contains-push, Contains-push_cases, IsCombination, IsJoinOf, CoversPair, AddsJoins, AddsPair}
use Rattle.sf_curves.specs.declared.direction.Direction.TheVariants as d
use Rattle.sf_subsets.proofs.Bits.{part-le, next-part}
use Rattle.sf_subsets.proofs.Law.{area-no_larger, area-in}

-- none is passed yet
pub adds-none : (limit : ℕ) (old : List Shape) → AddsSmall limit old [] old
adds-none limit old = record { kept = λ p c. c; small = λ p c le. absurd (not_in_nil p c); from = λ p c. inl c }

-- one that is in the limit
adds-yes : (limit : ℕ) (old done new : List Shape) (x : Shape) → AddsSmall limit old done new → AddsSmall limit old (done ++ x ∷ []) (new ++ x ∷ [])
adds-yes limit old done new x m = record {
  kept = λ p c. Contains-append_left new (x ∷ []) p (m.kept p c);
  small = λ p c le. elim (Contains-push_cases done x p c) [
    | inl e ↦ Contains-append_left new (x ∷ []) p (m.small p e le)
    | inr e ↦ subst (Contains (new ++ x ∷ [])) e (Contains-push new x)
  ];
  from = λ p c. elim (Contains-push_cases new x p c) [
    | inl e ↦ elim (m.from p e) [ inl f ↦ inl f | inr f ↦ inr (Contains-append_left done (x ∷ []) p f) ]
    | inr e ↦ inr (subst (Contains (done ++ x ∷ [])) e (Contains-push done x))
  ];
}

-- one that is not
adds-no : (limit : ℕ) (old done new : List Shape) (x : Shape) → limit < area_of x → AddsSmall limit old done new → AddsSmall limit old (done ++ x ∷ []) new
adds-no limit old done new x big m = record {
  kept = m.kept;
  small = λ p c le. elim (Contains-push_cases done x p c) [
    | inl e ↦ m.small p e le
    | inr e ↦ absurd (omega (arith, big, le, ap area_of e))
  ];
  from = λ p c. elim (m.from p c) [ inl f ↦ inl f | inr f ↦ inr (Contains-append_left done (x ∷ []) p f) ];
}

-- one more of a list
pub adds-at : (limit : ℕ) (old sizes new next : List Shape) (i : ℕ) (d : Shape) → i < length sizes → ((area_of (get_or sizes i d) ≤ limit) × (next ≡ new ++ get_or sizes i d ∷ [])) ⊎ ((limit < area_of (get_or sizes i d)) × (next ≡ new)) → AddsSmall limit old (take i sizes) new → AddsSmall limit old (take (i + 1) sizes) next
adds-at limit old sizes new next i d lt how m =
    subst (λ v. AddsSmall limit old v next) (sym (take_more sizes i d lt))
    (elim how [
      | inl e ↦ subst (λ v. AddsSmall limit old (take i sizes ++ get_or sizes i d ∷ []) v) (sym e.1) (adds-yes limit old (take i sizes) new (get_or sizes i d) m)
      | inr e ↦ subst (λ v. AddsSmall limit old (take i sizes ++ get_or sizes i d ∷ []) v) (sym e.1) (adds-no limit old (take i sizes) new (get_or sizes i d) e.0 m)
    ])

-- what some point covers another list covers that has all its points
pub covered-kept : (o : Outline) (limit : ℕ) (old new : List Shape) → ((p : Shape) → Contains old p → Contains new p) → (s : Shape) → IsCoveredWithin o limit old s → IsCoveredWithin o limit new s
covered-kept o limit old new kept s h fit le =
    let x : Any (λ p. IsNoLarger p s) old = h fit le in
    let c : Contains new x.1 = kept x.1 (x.0, x.2, x.3) in
    (c.0, x.1, c.1, c.2, x.4)

-- of a combination the small sizes are added
pub combination-added : (dir : Direction) (o : Outline) (limit : ℕ) (left right sizes old new : List Shape) → IsCombination (size_in dir) o left right sizes → AddsSmall limit old sizes new → AddsJoins dir o limit left right old new
combination-added dir o limit left right sizes old new comb added = record {
  kept = added.kept;
  covers = λ p q cp cq fit le.
      let rows : All (λ v. IsCovered o sizes (size_in dir p v)) right = All-contains (λ u. All (λ v. IsCovered o sizes (size_in dir u v)) right) left p comb.covers cp in
      let x : Any (λ r. IsNoLarger r (size_in dir p q)) sizes = All-contains (λ v. IsCovered o sizes (size_in dir p v)) right q rows cq fit in
      let c : Contains new x.1 = added.small x.1 (x.0, x.2, x.3) (omega (arith, le, area-no_larger x.1 (size_in dir p q) x.4)) in
      (c.0, x.1, c.1, c.2, x.4);
  from = λ p c. elim (added.from p c) [
    | inl e ↦ inl e
    | inr e ↦ inr (dir, All-contains (IsJoinOf (size_in dir) left right) sizes p comb.traced e)
  ];
}

-- each direction is one of the two
both-covers : (o : Outline) (limit : ℕ) (left right old mid new : List Shape) → AddsJoins d.Beside o limit left right old mid → AddsJoins d.Above o limit left right mid new → (dir : Direction) (p q : Shape) → Contains left p → Contains right q → IsCoveredWithin o limit new (size_in dir p q)
both-covers o limit left right old mid new a b d.Beside p q cp cq = covered-kept o limit mid new b.kept (size_in d.Beside p q) (a.covers p q cp cq)
both-covers o limit left right old mid new a b d.Above p q cp cq = b.covers p q cp cq

-- both directions
pub pair-added : (o : Outline) (limit : ℕ) (left right old mid new : List Shape) → AddsJoins d.Beside o limit left right old mid → AddsJoins d.Above o limit left right mid new → AddsPair o limit left right old new
pair-added o limit left right old mid new a b = record {
  kept = λ p c. b.kept p (a.kept p c);
  covers = λ p q dir. both-covers o limit left right old mid new a b dir p q;
  from = λ p c. elim (b.from p c) [ inl e ↦ a.from p e | inr e ↦ inr e ];
}

-- where the least areas pass the limit together, each join does
pub far-pair : (o : Outline) (limit a b : ℕ) (left right old : List Shape) → All (λ p. a ≤ area_of p) left → All (λ p. b ≤ area_of p) right → limit < a + b → AddsPair o limit left right old old
far-pair o limit a b left right old la lb far = record {
  kept = λ p c. c;
  covers = λ p q dir cp cq fit small.
      absurd (omega (arith, far, small, area-in dir p q, All-contains (λ p. a ≤ area_of p) left p la cp, All-contains (λ p. b ≤ area_of p) right q lb cq));
  from = λ p c. inl c;
}

-- no split is passed yet
pub splits-begin : (o : Outline) (limit : ℕ) (curves : List (List Shape)) (set rest : ℕ) (old : List Shape) → AddsSplits o limit curves set rest rest old old
splits-begin o limit curves set rest old = record {
  kept = λ p c. c;
  covers = λ b part above. absurd (omega (arith, part-le b rest part, above));
  from = λ p c. inl c;
}

-- one more split is passed
pub splits-next : (o : Outline) (limit : ℕ) (curves : List (List Shape)) (set rest part : ℕ) (begun old new : List Shape) → IsPart rest set → rest < set → 0 < part → IsPart part rest → AddsSplits o limit curves set rest part begun old → AddsPair o limit (curve_at curves (set - part)) (curve_at curves part) old new → AddsSplits o limit curves set rest (bit_and (part - 1) rest) begun new
splits-next o limit curves set rest part begun old new inside lt some is_part passed added = record {
  kept = λ p c. added.kept p (passed.kept p c);
  covers = λ b b_part above. elim (cases_lt part b) [
    | inl before ↦ (λ p q dir cp cq. covered-kept o limit old new added.kept (size_in dir p q) (passed.covers b b_part before p q dir cp cq))
    | inr ge ↦ elim (cases_lt b part) [
      | inl later ↦ absurd (omega (arith, next-part part rest b is_part b_part later, above))
      | inr here ↦ (let e : part ≡ b = omega arith in
          subst (λ v. CoversPair o limit (curve_at curves (set - v)) (curve_at curves v) new) e added.covers)
    ]
  ];
  from = λ p c. elim (added.from p c) [
    | inl e ↦ passed.from p e
    | inr e ↦ inr record {
      part = part;
      is_part = λ i. omega (arith, is_part i, inside i);
      some = some;
      less = omega (arith, part-le part rest is_part, lt);
      joined = e;
    }
  ];
}

-- Tokens and spans have one root curve, a curve has one point of least area, and a point leads to one plan.
use Rattle.std.proofs.Common.{◌≡◌, ℕ, ◌<◌, ◌≤◌, ◌⊎◌, inl, inr, length, List, [], ◌∷◌, arith, refl, sym, ap, ◌∙◌, subst}
use Rattle.sf_curves.proofs.Common.{AllPairs, Any, Contains, cases_lt, All-contains, Shape, Tree, Leaf, Beside, Above, Token, postfix, Spells, no_shape, once-of_normal, one-expression, IsSlimmer, IsWithin, IsNoLarger, IsCovered, IsLeastArea, IsNarrowest, IsLowest, area_of, IsChoice, IsRootCurve, IsNarrowestOf, IsLowestOf, IsTraceOf, TakesFrom, size_of, form, Design, Expr, IsNormal}
use Rattle.sf_model.specs.Legal.{block_count}
use Rattle.sf_curves.proofs.Forms.{one-form, form-postfix}
use Rattle.sf_curves.proofs.Members.{AllPairs-head, AllPairs-tail, Contains-cons_cases, Contains-head, Contains-tail, not_in_nil}
use Rattle.sf_curves.proofs.OnCurve.{one_point, same_point}

-- ---- lists of points that fall

-- two falling lists that have each other's first point have the same first point
first-point : (x y : Shape) (xs ys : List Shape) → AllPairs IsSlimmer (x ∷ xs) → AllPairs IsSlimmer (y ∷ ys) → Contains (y ∷ ys) x → Contains (x ∷ xs) y → x ≡ y
first-point x y xs ys falls others cx cy =
    elim (Contains-cons_cases y ys x cx) [
      | inl e ↦ sym e
      | inr later ↦ elim (Contains-cons_cases x xs y cy) [
        | inl e ↦ e
        | inr after ↦ (let a : IsSlimmer y x = AllPairs-head IsSlimmer y ys x others later in
            let b : IsSlimmer x y = AllPairs-head IsSlimmer x xs y falls after in
            absurd (omega (arith, a.0, b.0)))
      ]
    ]

-- a later point of the one is a later point of the other
in-rest : (x y p : Shape) (xs ys : List Shape) → x ≡ y → AllPairs IsSlimmer (x ∷ xs) → Contains xs p → Contains (y ∷ ys) p → Contains ys p
in-rest x y p xs ys e falls here there =
    elim (Contains-cons_cases y ys p there) [
      | inl same ↦ (let a : IsSlimmer x p = AllPairs-head IsSlimmer x xs p falls here in
          let w : x.w ≡ p.w = ap (λ (s : Shape). s.w) (e ∙ same) in
          absurd (omega (arith, a.0, w)))
      | inr later ↦ later
    ]

-- two falling lists of the same points are one
same-points : (xs ys : List Shape) → AllPairs IsSlimmer xs → AllPairs IsSlimmer ys → ((p : Shape) → Contains xs p → Contains ys p) → ((p : Shape) → Contains ys p → Contains xs p) → xs ≡ ys
same-points [] [] falls others to from = refl
same-points [] (y ∷ ys) falls others to from = absurd (not_in_nil y (from y (Contains-head y ys)))
same-points (x ∷ xs) [] falls others to from = absurd (not_in_nil x (to x (Contains-head x xs)))
same-points (x ∷ xs) (y ∷ ys) falls others to from =
    let first = first-point x y xs ys falls others (to x (Contains-head x xs)) (from y (Contains-head y ys)) in
    let more = same-points xs ys (AllPairs-tail IsSlimmer x xs falls) (AllPairs-tail IsSlimmer y ys others)
    (λ p c. in-rest x y p xs ys first falls c (to p (Contains-tail x xs p c)))
    (λ p c. in-rest y x p ys xs (sym first) others c (from p (Contains-tail y ys p c))) in
    ap (λ z. z ∷ xs) first ∙ ap (λ zs. y ∷ zs) more

-- a falling list has one point of a width
same-width : (points : List Shape) (p q : Shape) → AllPairs IsSlimmer points → Contains points p → Contains points q → p.w ≡ q.w → p ≡ q
same-width points p q falls cp cq e =
    elim (cases_lt q.h p.h) [
      | inl higher ↦ sym (one_point points q p falls cq cp (omega arith, omega arith))
      | inr low ↦ one_point points p q falls cp cq (omega arith, omega arith)
    ]

-- and one of a height
same-height : (points : List Shape) (p q : Shape) → AllPairs IsSlimmer points → Contains points p → Contains points q → p.h ≡ q.h → p ≡ q
same-height points p q falls cp cq e =
    elim (cases_lt q.w p.w) [
      | inl wider ↦ sym (one_point points q p falls cq cp (omega arith, omega arith))
      | inr thin ↦ one_point points p q falls cp cq (omega arith, omega arith)
    ]

-- it has one narrowest point that is low enough
one-narrowest : (limit : ℕ) (points : List Shape) (p q : Shape) → AllPairs IsSlimmer points → IsNarrowest limit points p → IsNarrowest limit points q → p ≡ q
one-narrowest limit points p q falls a b =
    let up : p.w ≤ q.w = All-contains (λ r. r.h ≤ limit → p.w ≤ r.w) points q a.least b.found b.low in
    let down : q.w ≤ p.w = All-contains (λ r. r.h ≤ limit → q.w ≤ r.w) points p b.least a.found a.low in
    same-width points p q falls a.found b.found (omega arith)

-- and one lowest point that is narrow enough
one-lowest : (limit : ℕ) (points : List Shape) (p q : Shape) → AllPairs IsSlimmer points → IsLowest limit points p → IsLowest limit points q → p ≡ q
one-lowest limit points p q falls a b =
    let up : p.h ≤ q.h = All-contains (λ r. r.w ≤ limit → p.h ≤ r.h) points q a.least b.found b.narrow in
    let down : q.h ≤ p.h = All-contains (λ r. r.w ≤ limit → q.h ≤ r.h) points p b.least a.found a.narrow in
    same-height points p q falls a.found b.found (omega arith)

-- ---- the root curve

-- a point of one root curve is on each other
on-other : (design : Design) (tokens : List Token) (spans : List (ℕ × ℕ)) (points others : List Shape) (p : Shape) → IsRootCurve design tokens spans points → IsRootCurve design tokens spans others → Contains points p → Contains others p
on-other design tokens spans points others p one two here =
    let Comes : Shape → Type 0 = λ r. (tree : Tree) × IsChoice design tokens spans tree × (size_of tree ≡ r) in
    let from = All-contains Comes points p one.traced here in
    let found : Any (λ q. IsNoLarger q p) others = subst (IsCovered design.outline others) from.2 (two.covers from.0 from.1) (All-contains (IsWithin design.outline) points p one.within here) in
    let q = found.1 in
    let there : Contains others q = (found.0, found.2, found.3) in
    let back = All-contains Comes others q two.traced there in
    let again : Any (λ r. IsNoLarger r q) points = subst (IsCovered design.outline points) back.2 (one.covers back.0 back.1) (All-contains (IsWithin design.outline) others q two.within there) in
    let r = again.1 in
    let less : IsNoLarger q p = found.4 in
    let least : IsNoLarger r q = again.4 in
    let same : r ≡ p = one_point points r p one.falls (again.0, again.2, again.3) here (omega (arith, least.0, less.0), omega (arith, least.1, less.1)) in
    let wide : q.w ≡ p.w = omega (arith, less.0, least.0, ap (λ (s : Shape). s.w) same) in
    let high : q.h ≡ p.h = omega (arith, less.1, least.1, ap (λ (s : Shape). s.h) same) in
    subst (Contains others) (same_point q p wide high) there

-- tokens and spans have one root curve
pub one-curve : (design : Design) (tokens : List Token) (spans : List (ℕ × ℕ)) (points others : List Shape) → IsRootCurve design tokens spans points → IsRootCurve design tokens spans others → points ≡ others
one-curve design tokens spans points others one two =
    same-points points others one.falls two.falls (λ p. on-other design tokens spans points others p one two) (λ p. on-other design tokens spans others points p two one)

-- two points of least area are as wide
least-wide : (points : List Shape) (p q : Shape) → IsLeastArea points p → IsLeastArea points q → p.w ≡ q.w
least-wide points p q a b =
    let there = All-contains (λ r. (area_of p < area_of r) ⊎ ((area_of p ≡ area_of r) × (p.w ≤ r.w))) points q a.least b.found in
    let back = All-contains (λ r. (area_of q < area_of r) ⊎ ((area_of q ≡ area_of r) × (q.w ≤ r.w))) points p b.least a.found in
    elim there [
      | inl less ↦ elim back [ inl more ↦ absurd (omega arith) | inr both ↦ absurd (omega (arith, both.0)) ]
      | inr both ↦ elim back [ inl less ↦ absurd (omega (arith, both.0)) | inr other ↦ omega (arith, both.1, other.1) ]
    ]

-- it has one point of least area
pub one-least : (design : Design) (tokens : List Token) (spans : List (ℕ × ℕ)) (points : List Shape) (p q : Shape) → IsRootCurve design tokens spans points → IsLeastArea points p → IsLeastArea points q → p ≡ q
one-least design tokens spans points p q curve a b =
    same-width points p q curve.falls a.found b.found (least-wide points p q a b)

-- ---- the plan of a point

-- so plans of one form have the same narrowest point
one-left : (design : Design) (spans : List (ℕ × ℕ)) (limit : ℕ) (t u : Tree) (p q : Shape) → form t ≡ form u → IsNarrowestOf design (postfix t) spans limit p → IsNarrowestOf design (postfix u) spans limit q → p ≡ q
one-left design spans limit t u p q e a b =
    let curve = one-curve design (postfix t) spans a.points b.points a.curve (subst (λ z. IsRootCurve design z spans b.points) (sym (form-postfix t u e)) b.curve) in
    one-narrowest limit a.points p q a.curve.falls a.narrowest (subst (λ z. IsNarrowest limit z q) (sym curve) b.narrowest)

-- and the same lowest point
one-lower : (design : Design) (spans : List (ℕ × ℕ)) (limit : ℕ) (t u : Tree) (p q : Shape) → form t ≡ form u → IsLowestOf design (postfix t) spans limit p → IsLowestOf design (postfix u) spans limit q → p ≡ q
one-lower design spans limit t u p q e a b =
    let curve = one-curve design (postfix t) spans a.points b.points a.curve (subst (λ z. IsRootCurve design z spans b.points) (sym (form-postfix t u e)) b.curve) in
    one-lowest limit a.points p q a.curve.falls a.lowest (subst (λ z. IsLowest limit z q) (sym curve) b.lowest)

-- leaves that are one have one block
leaf-block : (b c : ℕ) (s : Shape) → Leaf b s ≡ Leaf c s → b ≡ c
leaf-block b c s e = cc

-- plans side by side that are one have the same parts
beside-parts : (l r x y : Tree) → Beside l r ≡ Beside x y → (l ≡ x) × (r ≡ y)
beside-parts l r x y e = (cc, cc)

-- so have plans one above the other
above-parts : (l r x y : Tree) → Above l r ≡ Above x y → (l ≡ x) × (r ≡ y)
above-parts l r x y e = (cc, cc)

-- plans of one form that take their shapes from one point are one
same-plan : (design : Design) (spans : List (ℕ × ℕ)) (p : Shape) (t u : Tree) → form t ≡ form u → TakesFrom design spans t p → TakesFrom design spans u p → t ≡ u
same-plan design spans p (Leaf b s) (Leaf c r) e h k = ap (λ n. Leaf n s) (leaf-block b c no_shape e) ∙ ap (λ z. Leaf c z) (h ∙ sym k)
same-plan design spans p (Leaf b s) (Beside x y) e h k = absurd cc
same-plan design spans p (Leaf b s) (Above x y) e h k = absurd cc
same-plan design spans p (Beside l r) (Leaf c s) e h k = absurd cc
same-plan design spans p (Beside l r) (Beside x y) e h k =
    let parts = beside-parts (form l) (form r) (form x) (form y) e in
    let left = same-plan design spans h.0 l x parts.0 h.4 (subst (TakesFrom design spans x) (sym (one-left design spans p.h l x h.0 k.0 parts.0 h.2 k.2)) k.4) in
    let right = same-plan design spans h.1 r y parts.1 h.5 (subst (TakesFrom design spans y) (sym (one-left design spans p.h r y h.1 k.1 parts.1 h.3 k.3)) k.5) in
    ap (λ z. Beside z r) left ∙ ap (Beside x) right
same-plan design spans p (Beside l r) (Above x y) e h k = absurd cc
same-plan design spans p (Above l r) (Leaf c s) e h k = absurd cc
same-plan design spans p (Above l r) (Beside x y) e h k = absurd cc
same-plan design spans p (Above l r) (Above x y) e h k =
    let parts = above-parts (form l) (form r) (form x) (form y) e in
    let lower = same-plan design spans h.0 l x parts.0 h.4 (subst (TakesFrom design spans x) (sym (one-lower design spans p.w l x h.0 k.0 parts.0 h.2 k.2)) k.4) in
    let upper = same-plan design spans h.1 r y parts.1 h.5 (subst (TakesFrom design spans y) (sym (one-lower design spans p.w r y h.1 k.1 parts.1 h.3 k.3)) k.5) in
    ap (λ z. Above z r) lower ∙ ap (Above x) upper

-- a point has one trace with a shape for each block
pub one-trace : (design : Design) (tokens : List Token) (spans : List (ℕ × ℕ)) (point : Shape) (e f : Expr) → IsNormal (block_count design) tokens → length e.shapes ≡ block_count design → length f.shapes ≡ block_count design → IsTraceOf design tokens spans point e → IsTraceOf design tokens spans point f → e ≡ f
one-trace design tokens spans point e f normal es fs a b =
    let same : b.tree ≡ a.tree = same-plan design spans point b.tree a.tree (one-form b.tree a.tree (b.choice.tokens ∙ sym a.choice.tokens)) b.takes a.takes in
    one-expression (block_count design) e f a.tree (once-of_normal (block_count design) tokens a.tree normal a.choice.tokens) es fs a.spells (subst (Spells f) same b.spells)

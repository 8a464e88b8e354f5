-- The least values over the curve of an item are those over its plans.
use Rattle.std.proofs.Common.{◌≡◌, ◌≢◌, ℕ, suc, ◌≤◌, List, [], ◌∷◌, length, map, get_or, refl, ap, ◌∙◌, subst, arith, true, false, All}
use Rattle.sf_frames.proofs.Common.{Any, Contains, ne_eqb, All-contains, Design, Shape, Tree, Parts, IsNoLarger, IsWithin, IsCovered, not_in_nil, Item, fitting, least_of, has_none, size_of, IsItemCurve, least_by, Contains-from_map, Contains-map, Contains-get_or}
use Rattle.sf_frames.proofs.Leasts.{least_by-curve}
use Rattle.sf_frames.proofs.Joining.{sizes-within}

-- the least value over the sizes of plans is that over the plans
least-map : (f : Shape → ℕ) (ts : List Tree) → least_by f (map size_of ts) ≡ least_of (λ t. f (size_of t)) ts
least-map f [] = refl
least-map f (t ∷ ts) = let rest = least-map f ts in omega (arith, rest)

-- the size of each fitting plan lies in the outline
all-within : (design : Design) (node : Parts) (i : Item) → All (IsWithin design.outline) (map size_of (fitting design node i))
all-within design node i k d lt =
    let x = get_or (map size_of (fitting design node i)) k d in
    let t = Contains-from_map size_of (fitting design node i) x (Contains-get_or (map size_of (fitting design node i)) k d lt) in
    subst (IsWithin design.outline) t.2 (sizes-within design node i t.0 t.1)

-- the least value over an item's curve is that over its plans
pub least-item : (f : Shape → ℕ) → ((p q : Shape) → IsNoLarger p q → f p ≤ f q) → (design : Design) (node : Parts) (c : List Shape) (i : Item) → IsItemCurve design node c i → least_by f c ≡ least_of (λ t. f (size_of t)) (fitting design node i)
least-item f grows design node c i k = least_by-curve f grows design.outline (map size_of (fitting design node i)) c (all-within design node i) k ∙ least-map f (fitting design node i)

module _ (design : Design) (node : Parts) where
  -- where some point covers each of the plans and there is no point, there is no plan
  empty-plans : (ts : List Tree) (c : List Shape) → c ≡ [] → ((t : Tree) → Contains ts t → Contains ts t → Any (λ p. IsNoLarger p (size_of t)) c) → has_none ts ≡ true
  empty-plans [] c e f = refl
  empty-plans (t ∷ ts) c e f =
      let k = f t (0, omega arith, refl) (0, omega arith, refl) in
      absurd (omega (arith, k.2, ap length e))

  -- where a plan is listed there is one
  some-plans : (ts : List Tree) → (t : Tree) → Contains ts t → has_none ts ≡ false
  some-plans [] t c = absurd (not_in_nil t c)
  some-plans (u ∷ ts) t c = ne_eqb (suc (length ts)) 0 (λ e. absurd (omega (arith, e)))

  -- a curve is empty just where its item has no plan
  pub item-some : (c : List Shape) (i : Item) → IsItemCurve design node c i → c ≢ [] → has_none (fitting design node i) ≡ false
  item-some [] i k ne = absurd (ne refl)
  item-some (p ∷ ps) i k ne =
      let t = Contains-from_map size_of (fitting design node i) p (All-contains (Contains (map size_of (fitting design node i))) (p ∷ ps) p k.traced (0, omega arith, refl)) in
      some-plans (fitting design node i) t.0 t.1

  -- an item whose curve is empty has no plan
  pub item-none : (c : List Shape) (i : Item) → IsItemCurve design node c i → c ≡ [] → has_none (fitting design node i) ≡ true
  item-none c i k e = empty-plans (fitting design node i) c e (λ t ct _.
      All-contains (IsCovered design.outline c) (map size_of (fitting design node i)) (size_of t) k.covers (Contains-map size_of (fitting design node i) t ct) (sizes-within design node i t ct))

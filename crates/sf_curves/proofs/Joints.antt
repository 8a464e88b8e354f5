-- The points of two rooms for a point of their curve.
use Rattle.std.proofs.Common.{◌≡◌, ℕ, ◌≤◌, List, arith, ap, All}
use Rattle.sf_curves.proofs.Common.{Any, Contains, All-contains, Shape, IsNoLarger, IsNarrowest, IsLowest, IsJoinOf, beside_size, above_size, size_in, Direction}
use Rattle.sf_curves.proofs.Members.{Any-from_contains}
use Rattle.sf_curves.specs.declared.direction.Direction.TheVariants as way

-- the side that two joined rooms share
abbrev pub shared : Direction → Shape → ℕ
shared way.Beside p = p.h
shared way.Above p = p.w

-- the point of a curve that a room of this size takes
abbrev pub IsFitting : Direction → Shape → List Shape → Shape → Type 0
IsFitting way.Beside p points q = IsNarrowest p.h points q
IsFitting way.Above p points q = IsLowest p.w points q

-- neither of two joined rooms is longer there than both
pub shared_fit : (d : Direction) (l r p : Shape) → p ≡ size_in d l r → (shared d l ≤ shared d p) × (shared d r ≤ shared d p)
shared_fit way.Beside l r p e = (omega (arith, ap (λ v. v.h) e), omega (arith, ap (λ v. v.h) e))
shared_fit way.Above l r p e = (omega (arith, ap (λ v. v.w) e), omega (arith, ap (λ v. v.w) e))

-- the points below exist
pub rooms_fit : (d : Direction) (ls rs points : List Shape) (p : Shape) → All (IsJoinOf (size_in d) ls rs) points → Contains points p → Any (λ q. shared d q ≤ shared d p) ls × Any (λ q. shared d q ≤ shared d p) rs
rooms_fit d ls rs points p traced c =
    let j = All-contains (IsJoinOf (size_in d) ls rs) points p traced c in
    let fit = shared_fit d j.0 j.1 p j.4 in
    (Any-from_contains (λ q. shared d q ≤ shared d p) ls j.0 j.2 fit.0, Any-from_contains (λ q. shared d q ≤ shared d p) rs j.1 j.3 fit.1)

-- what is chosen below is no larger than the point
pub rooms_small : (d : Direction) (ls rs points : List Shape) (p l r x y : Shape) → All (IsJoinOf (size_in d) ls rs) points → Contains points p → IsFitting d p ls l → IsFitting d p rs r → IsNoLarger x l → IsNoLarger y r → IsNoLarger (size_in d x y) p
rooms_small way.Beside ls rs points p l r x y traced c fl fr xl yr =
    let j = All-contains (IsJoinOf beside_size ls rs) points p traced c in
    let h = ap (λ v. v.h) j.4 in
    let wl = All-contains (λ q. q.h ≤ p.h → l.w ≤ q.w) ls j.0 fl.least j.2 (omega (arith, h)) in
    let wr = All-contains (λ q. q.h ≤ p.h → r.w ≤ q.w) rs j.1 fr.least j.3 (omega (arith, h)) in
    (omega (arith, ap (λ v. v.w) j.4, wl, wr, xl.0, yr.0), omega (arith, fl.low, fr.low, xl.1, yr.1))
rooms_small way.Above ls rs points p l r x y traced c fl fr xl yr =
    let j = All-contains (IsJoinOf above_size ls rs) points p traced c in
    let w = ap (λ v. v.w) j.4 in
    let hl = All-contains (λ q. q.w ≤ p.w → l.h ≤ q.h) ls j.0 fl.least j.2 (omega (arith, w)) in
    let hr = All-contains (λ q. q.w ≤ p.w → r.h ≤ q.h) rs j.1 fr.least j.3 (omega (arith, w)) in
    (omega (arith, fl.narrow, fr.narrow, xl.0, yr.0), omega (arith, ap (λ v. v.h) j.4, hl, hr, xl.1, yr.1))

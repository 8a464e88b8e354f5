-- No side of the shapes of a design is above 2^20.
use Rattle.std.proofs.Common.{ℕ, ◌≤◌, min, max, List, [], ◌∷◌, length, ap, arith, inl, inr}
use Rattle.sf_standard.proofs.Common.{Contains, fold, AllByRecursion, cases_lt, get_or_past, All-contains, Design, Shape, shapes_of, IsSide, Parts, span_of, Extent, shapes_in, extent_of, extent_in}
use Rattle.sf_node.proofs.Halves.{in_span}
use Rattle.sf_standard.proofs.Listed.{each-from}

-- no side of the extent is above m
pub record IsSmallExtent (m : ℕ) (e : Extent) : Type 0 where
  pub least_w : e.least_w ≤ m
  pub most_w : e.most_w ≤ m
  pub least_h : e.least_h ≤ m
  pub most_h : e.most_h ≤ m

-- the least side is at most what bounds the first
least-in : (key : Shape → ℕ) (a m : ℕ) (ss : List Shape) → a ≤ m → fold (λ n t. min n (key t)) a ss ≤ m
least-in key a m [] h = h
least-in key a m (s ∷ ss) h = least-in key (min a (key s)) m ss (omega (arith, h))

-- the greatest side is at most what bounds all
most-in : (key : Shape → ℕ) (a m : ℕ) (ss : List Shape) → a ≤ m → AllByRecursion (λ s. key s ≤ m) ss → fold (λ n t. max n (key t)) a ss ≤ m
most-in key a m [] h e = h
most-in key a m (s ∷ ss) h e = most-in key (max a (key s)) m ss (omega (arith, h, e.0)) e.1

-- the extent of shapes whose sides are at most m is as small
extent-small : (m : ℕ) (ss : List Shape) → AllByRecursion (λ s. s.w ≤ m) ss → AllByRecursion (λ s. s.h ≤ m) ss → IsSmallExtent m (extent_of ss)
extent-small m [] w h = record { least_w = omega arith; most_w = omega arith; least_h = omega arith; most_h = omega arith }
extent-small m (s ∷ ss) w h = record {
  least_w = least-in (λ t. t.w) s.w m ss w.0;
  most_w = most-in (λ t. t.w) s.w m ss w.0 w.1;
  least_h = least-in (λ t. t.h) s.h m ss h.0;
  most_h = most-in (λ t. t.h) s.h m ss h.0 h.1;
}

-- a shape of a span has sides of at most 2^20
side-in : (design : Design) (node : Parts) (b : ℕ) (s : Shape) → Contains (shapes_in design node.spans b) s → (s.w ≤ 1048576) × (s.h ≤ 1048576)
side-in design node b s c =
    let i = in_span (shapes_of design b) (span_of node b).0 (span_of node b).1 s c in
    elim (cases_lt b (length design.blocks)) [
      | inl lt ↦ (let k = All-contains (λ s. IsSide s.w × IsSide s.h) (shapes_of design b) s (design.limits.shapes b (record { name = []; shapes = [] }) lt).choice.sides (i.at, i.within, i.is) in
          (omega (arith, k.0.1), omega (arith, k.1.1)))
      | inr le ↦ absurd (omega (arith, i.within, ap (λ v. length v.shapes) (get_or_past design.blocks b (record { name = []; shapes = [] }) le)))
    ]

-- no side of a span's shapes is above 2^20
pub span-small : (design : Design) (node : Parts) (b : ℕ) → IsSmallExtent 1048576 (extent_in design node b)
span-small design node b =
    extent-small 1048576 (shapes_in design node.spans b)
    (each-from (λ s. s.w ≤ 1048576) (shapes_in design node.spans b) (λ s c. (side-in design node b s c).0))
    (each-from (λ s. s.h ≤ 1048576) (shapes_in design node.spans b) (λ s c. (side-in design node b s c).1))

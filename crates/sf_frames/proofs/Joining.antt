-- The curves of joined items, and the operands of tokens.
use Rattle.std.proofs.Common.{◌≡◌, ℕ, ◌-◌, List, [], map, get_or, refl, sym, ap, ◌∙◌, subst, arith, All}
use Rattle.sf_frames.proofs.Common.{Contains, All-contains, Contains-get_or, Design, Shape, Tree, Leaf, Beside, Above, Parts, IsWithin, IsNoLarger, IsCovered, IsCurveOf, IsCombination, beside_size, above_size, shapes_in, Item, plans, pairs, fits, fitting, size_of, IsItemCurve, Contains-map, Contains-from_map, Contains-filter, Contains-from_filter, Contains-pairs, Contains-from_pairs, fits-true, fits-from}
use Rattle.sf_polish.specs.declared.expr.Token.TheVariants as token
use Rattle.sf_standard.specs.Items as item

-- a curve of a block
pub curve-block : (design : Design) (node : Parts) (b : ℕ) (c : List Shape) → IsCurveOf design.outline (shapes_in design node.spans b) c → IsItemCurve design node c (item.Block b)
curve-block design node b c k = record {
  within = k.within;
  traced = λ i d lt.
      let s = get_or c i d in
      let w = k.within i d lt in
      Contains-map size_of (fitting design node (item.Block b)) (Leaf b s) (Contains-filter (fits design.outline) (plans (shapes_in design node.spans) (item.Block b)) (Leaf b s) (Contains-map (λ v. Leaf b v) (shapes_in design node.spans b) s (k.traced i d lt)) (fits-true design.outline (Leaf b s) w.0 w.1));
  covers = λ i d lt.
      let x = get_or (map size_of (fitting design node (item.Block b))) i d in
      let t = Contains-from_map size_of (fitting design node (item.Block b)) x (Contains-get_or (map size_of (fitting design node (item.Block b))) i d lt) in
      let s = Contains-from_map (λ v. Leaf b v) (shapes_in design node.spans b) t.0 (Contains-from_filter (fits design.outline) (plans (shapes_in design node.spans) (item.Block b)) t.0 t.1).0 in
      subst (IsCovered design.outline c) (ap size_of s.2 ∙ t.2) (All-contains (IsCovered design.outline c) (shapes_in design node.spans b) s.0 k.covers s.1);
}

-- the sizes of the fitting plans lie in the outline
pub sizes-within : (design : Design) (node : Parts) (i : Item) (t : Tree) → Contains (fitting design node i) t → IsWithin design.outline (size_of t)
sizes-within design node i t c = fits-from design.outline t (Contains-from_filter (fits design.outline) (plans (shapes_in design node.spans) i) t c).1

-- a way to join two rooms, on plans and on sizes
pub record IsWay (over : Item → Item → Item) (plan : Tree → Tree → Tree) (join : Shape → Shape → Shape) : Type 0 where
  pub sized : (p q : Tree) → size_of (plan p q) ≡ join (size_of p) (size_of q)
  pub grows : (p q r s : Shape) → IsNoLarger p r → IsNoLarger q s → IsNoLarger (join p q) (join r s)
  pub left : (p q : Shape) → IsNoLarger p (join p q)
  pub right : (p q : Shape) → IsNoLarger q (join p q)
  pub listed : (shapes : ℕ → List Shape) (l r : Item) → plans shapes (over l r) ≡ pairs plan (plans shapes l) (plans shapes r)

-- side by side: the widths are added, and the higher room counts
pub beside-way : IsWay (λ l r. item.Beside l r) (λ p q. Beside p q) beside_size
beside-way = record { sized = λ p q. refl; grows = λ p q r s h k. (omega (arith, h.0, k.0), omega (arith, h.1, k.1)); left = λ p q. (omega arith, omega arith); right = λ p q. (omega arith, omega arith); listed = λ shapes l r. refl }

-- one above the other: the heights are added, and the wider room counts
pub above-way : IsWay (λ l r. item.Above l r) (λ p q. Above p q) above_size
above-way = record { sized = λ p q. refl; grows = λ p q r s h k. (omega (arith, h.0, k.0), omega (arith, h.1, k.1)); left = λ p q. (omega arith, omega arith); right = λ p q. (omega arith, omega arith); listed = λ shapes l r. refl }

-- the curve of two joined items
pub curve-joined : (over : Item → Item → Item) (plan : Tree → Tree → Tree) (join : Shape → Shape → Shape) → IsWay over plan join → (design : Design) (node : Parts) (l r : Item) (ls rs c : List Shape) → IsItemCurve design node ls l → IsItemCurve design node rs r → IsCombination join design.outline ls rs c → IsItemCurve design node c (over l r)
curve-joined over plan join way design node l r ls rs c cl cr k =
    let shapes = shapes_in design node.spans in
    let o = design.outline in
    record {
      within = k.within;
      traced = λ i d lt.
          let j = k.traced i d lt in
          let p = Contains-from_map size_of (fitting design node l) j.0 (All-contains (Contains (map size_of (fitting design node l))) ls j.0 cl.traced j.2) in
          let q = Contains-from_map size_of (fitting design node r) j.1 (All-contains (Contains (map size_of (fitting design node r))) rs j.1 cr.traced j.3) in
          let pl = (Contains-from_filter (fits o) (plans shapes l) p.0 p.1).0 in
          let qr = (Contains-from_filter (fits o) (plans shapes r) q.0 q.1).0 in
          let both : Contains (plans shapes (over l r)) (plan p.0 q.0) = subst (λ v. Contains v (plan p.0 q.0)) (sym (way.listed shapes l r)) (Contains-pairs plan (plans shapes l) (plans shapes r) p.0 q.0 pl qr) in
          let size : size_of (plan p.0 q.0) ≡ get_or c i d = way.sized p.0 q.0 ∙ ap (λ v. join v (size_of q.0)) p.2 ∙ ap (join j.0) q.2 ∙ sym j.4 in
          let w : IsWithin o (size_of (plan p.0 q.0)) = subst (IsWithin o) (sym size) (k.within i d lt) in
          subst (Contains (map size_of (fitting design node (over l r)))) size
          (Contains-map size_of (fitting design node (over l r)) (plan p.0 q.0) (Contains-filter (fits o) (plans shapes (over l r)) (plan p.0 q.0) both (fits-true o (plan p.0 q.0) w.0 w.1)));
      covers = λ i d lt fit.
          let x = get_or (map size_of (fitting design node (over l r))) i d in
          let t = Contains-from_map size_of (fitting design node (over l r)) x (Contains-get_or (map size_of (fitting design node (over l r))) i d lt) in
          let f = Contains-from_filter (fits o) (plans shapes (over l r)) t.0 t.1 in
          let j = Contains-from_pairs plan (plans shapes l) (plans shapes r) t.0 (subst (λ v. Contains v t.0) (way.listed shapes l r) f.0) in
          let size : join (size_of j.0) (size_of j.1) ≡ x = sym (way.sized j.0 j.1) ∙ ap size_of j.4 ∙ t.2 in
          let whole : IsWithin o (join (size_of j.0) (size_of j.1)) = subst (IsWithin o) (sym size) fit in
          let le_l = way.left (size_of j.0) (size_of j.1) in
          let le_r = way.right (size_of j.0) (size_of j.1) in
          let wl : IsWithin o (size_of j.0) = (omega (arith, le_l.0, whole.0), omega (arith, le_l.1, whole.1)) in
          let wr : IsWithin o (size_of j.1) = (omega (arith, le_r.0, whole.0), omega (arith, le_r.1, whole.1)) in
          let a = All-contains (IsCovered o ls) (map size_of (fitting design node l)) (size_of j.0) cl.covers (Contains-map size_of (fitting design node l) j.0 (Contains-filter (fits o) (plans shapes l) j.0 j.2 (fits-true o j.0 wl.0 wl.1))) wl in
          let b = All-contains (IsCovered o rs) (map size_of (fitting design node r)) (size_of j.1) cr.covers (Contains-map size_of (fitting design node r) j.1 (Contains-filter (fits o) (plans shapes r) j.1 j.3 (fits-true o j.1 wr.0 wr.1))) wr in
          let le : IsNoLarger (join a.1 b.1) x = subst (IsNoLarger (join a.1 b.1)) size (way.grows a.1 b.1 (size_of j.0) (size_of j.1) a.4 b.4) in
          let first = All-contains (λ p. All (λ q. IsCovered o c (join p q)) rs) ls a.1 k.covers (a.0, a.2, a.3) in
          let found = All-contains (λ q. IsCovered o c (join a.1 q)) rs b.1 first (b.0, b.2, b.3) (omega (arith, le.0, fit.0), omega (arith, le.1, fit.1)) in
          (found.0, found.1, found.2, found.3, (omega (arith, found.4.0, le.0), omega (arith, found.4.1, le.1)));
    }

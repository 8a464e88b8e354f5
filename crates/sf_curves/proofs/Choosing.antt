-- The curve of a tree of curves is the root curve of its tokens.
use Rattle.std.proofs.Common.{◌≡◌, ℕ, List, arith, refl, ap, sym, subst, ◌∙◌, All, AllPairs}
use Rattle.sf_curves.proofs.Common.{Contains, All-contains, All-from_recursion, recursion_from_All, Contains-get_or, Outline, Shape, Tree, Leaf, Beside, Above, leaves, Token, postfix, no_shape, IsChoice, IsRootCurve, TakesFrom, size_of, form, curve_of, form_of, IsCurveTree, IsTraced, IsChosen, IsSized, IsSlimmer, IsWithin, IsNoLarger, IsCovered, CoversJoins, IsJoinOf, beside_size, above_size, size_in, Design, each-append, each-left, each-right, CurveTree, Direction}
use Rattle.std.specs.List.{AllByRecursion}
use Rattle.sf_curves.specs.declared.curve_tree.CurveTree.TheVariants as tree
use Rattle.sf_curves.specs.declared.direction.Direction.TheVariants as way
use Rattle.sf_model.specs.Spans.{shapes_in}
use Rattle.sf_curves.proofs.Forms.{same-form, form-tokens}
use Rattle.sf_curves.proofs.OnCurve.{same_point, one_point}

-- each leaf has a shape from the span of its block
abbrev pub IsListed : Design → List (ℕ × ℕ) → Tree → Type 0
IsListed design spans t = AllByRecursion (λ leaf. Contains (shapes_in design spans leaf.0) leaf.1) (leaves t)

-- a way to join two rooms that grows with both
pub record Grows (join : Shape → Shape → Shape) : Type 0 where
  pub both : (p q r s : Shape) → IsNoLarger p r → IsNoLarger q s → IsNoLarger (join p q) (join r s)
  pub left : (p q : Shape) → IsNoLarger p (join p q)
  pub right : (p q : Shape) → IsNoLarger q (join p q)

-- a joined room grows with both
pub grows : (d : Direction) → Grows (size_in d)
grows way.Beside = record { both = λ p q r s h k. (omega (arith, h.0, k.0), omega (arith, h.1, k.1)); left = λ p q. (omega arith, omega arith); right = λ p q. (omega arith, omega arith) }
grows way.Above = record { both = λ p q r s h k. (omega (arith, h.0, k.0), omega (arith, h.1, k.1)); left = λ p q. (omega arith, omega arith); right = λ p q. (omega arith, omega arith) }

-- what is no larger than a size in the outline lies in it
pub smaller-within : (o : Outline) (p q : Shape) → IsNoLarger p q → IsWithin o q → IsWithin o p
smaller-within o p q le fits = (omega (arith, le.0, fits.0), omega (arith, le.1, fits.1))

-- no larger than what is no larger is no larger
no-larger-still : (p q r : Shape) → IsNoLarger p q → IsNoLarger q r → IsNoLarger p r
no-larger-still p q r le lf = (omega (arith, le.0, lf.0), omega (arith, le.1, lf.1))

-- a size between two equal ones
between : (p q r : Shape) → p ≡ r → IsNoLarger p q → IsNoLarger q r → q ≡ r
between p q r same le lf =
    let w : p.w ≡ r.w = ap (λ v. v.w) same in
    let h : p.h ≡ r.h = ap (λ v. v.h) same in
    same_point q r (omega (arith, le.0, lf.0, w)) (omega (arith, le.1, lf.1, h))

-- the combination of two covered sizes is covered
pub covers-joined : (join : Shape → Shape → Shape) → Grows join → (o : Outline) (ls rs c : List Shape) (x y : Shape) → CoversJoins join o ls rs c → IsCovered o ls x → IsCovered o rs y → IsCovered o c (join x y)
covers-joined join more o ls rs c x y joined left right fits =
    let a = left (smaller-within o x (join x y) (more.left x y) fits) in
    let b = right (smaller-within o y (join x y) (more.right x y) fits) in
    let small = more.both a.1 b.1 x y a.4 b.4 in
    let first = All-contains (λ p. All (λ q. IsCovered o c (join p q)) rs) ls a.1 joined (a.0, a.2, a.3) in
    let found = All-contains (λ q. IsCovered o c (join a.1 q)) rs b.1 first (b.0, b.2, b.3) (smaller-within o (join a.1 b.1) (join x y) small fits) in
    (found.0, found.1, found.2, found.3, no-larger-still found.1 (join a.1 b.1) (join x y) found.4 small)

module _ (design : Design) (spans : List (ℕ × ℕ)) where
  -- the curve of a tree covers each plan of its form with shapes from the spans
  covers-tree : (c : CurveTree) (t : Tree) → IsCurveTree design spans c → form t ≡ form_of c → IsListed design spans t → IsCovered design.outline (curve_of c) (size_of t)
  covers-tree (tree.Leaf b c) (Leaf k s) h e l =
      let same : k ≡ b = cc in
      All-contains (IsCovered design.outline c) (shapes_in design spans b) s h.covers (subst (λ n. Contains (shapes_in design spans n) s) same l.0)
  covers-tree (tree.Leaf b c) (Beside x y) h e l = absurd (cc)
  covers-tree (tree.Leaf b c) (Above x y) h e l = absurd (cc)
  covers-tree (tree.Beside' c p l q r) (Leaf k s) h e all = absurd (cc)
  covers-tree (tree.Beside' c p l q r) (Beside x y) h e all =
      let el : form x ≡ form_of l = cc in
      let er : form y ≡ form_of r = cc in
      covers-joined beside_size (grows way.Beside) design.outline (curve_of l) (curve_of r) c (size_of x) (size_of y) h.0.covers
      (covers-tree l x h.1 el (each-left _ (leaves x) (leaves y) all)) (covers-tree r y h.2 er (each-right _ (leaves x) (leaves y) all))
  covers-tree (tree.Beside' c p l q r) (Above x y) h e all = absurd (cc)
  covers-tree (tree.Above' c p l q r) (Leaf k s) h e all = absurd (cc)
  covers-tree (tree.Above' c p l q r) (Beside x y) h e all = absurd (cc)
  covers-tree (tree.Above' c p l q r) (Above x y) h e all =
      let el : form x ≡ form_of l = cc in
      let er : form y ≡ form_of r = cc in
      covers-joined above_size (grows way.Above) design.outline (curve_of l) (curve_of r) c (size_of x) (size_of y) h.0.covers
      (covers-tree l x h.1 el (each-left _ (leaves x) (leaves y) all)) (covers-tree r y h.2 er (each-right _ (leaves x) (leaves y) all))

  -- some plan of the form of the tree, with shapes from the spans, has this size
  record HasSize (c : CurveTree) (p : Shape) : Type 0 where
    plan : Tree
    formed : form plan ≡ form_of c
    listed : IsListed design spans plan
    size : size_of plan ≡ p

  -- each point of the curve of a tree is such a size
  traced-tree : (c : CurveTree) (p : Shape) → IsCurveTree design spans c → Contains (curve_of c) p → HasSize c p
  traced-tree (tree.Leaf b c) p h k = record { plan = Leaf b p; formed = refl; listed = (All-contains (Contains (shapes_in design spans b)) c p h.traced k, tt); size = refl }
  traced-tree (tree.Beside' c i l j r) p h k =
      let s = All-contains (IsJoinOf beside_size (curve_of l) (curve_of r)) c p h.0.traced k in
      let x = traced-tree l s.0 h.1 s.2 in
      let y = traced-tree r s.1 h.2 s.3 in
      record {
        plan = Beside x.plan y.plan;
        formed = ap (λ v. Beside v (form y.plan)) x.formed ∙ ap (Beside (form_of l)) y.formed;
        listed = each-append _ (leaves x.plan) (leaves y.plan) x.listed y.listed;
        size = ap (λ v. beside_size v (size_of y.plan)) x.size ∙ ap (beside_size s.0) y.size ∙ sym s.4;
      }
  traced-tree (tree.Above' c i l j r) p h k =
      let s = All-contains (IsJoinOf above_size (curve_of l) (curve_of r)) c p h.0.traced k in
      let x = traced-tree l s.0 h.1 s.2 in
      let y = traced-tree r s.1 h.2 s.3 in
      record {
        plan = Above x.plan y.plan;
        formed = ap (λ v. Above v (form y.plan)) x.formed ∙ ap (Above (form_of l)) y.formed;
        listed = each-append _ (leaves x.plan) (leaves y.plan) x.listed y.listed;
        size = ap (λ v. above_size v (size_of y.plan)) x.size ∙ ap (above_size s.0) y.size ∙ sym s.4;
      }

  -- the points of its curve lie in the outline
  within-tree : (c : CurveTree) → IsCurveTree design spans c → All (IsWithin design.outline) (curve_of c)
  within-tree (tree.Leaf b c) h = h.within
  within-tree (tree.Beside' c p l q r) h = h.0.within
  within-tree (tree.Above' c p l q r) h = h.0.within

  -- each point of a joined tree comes from two points below
  pub tree-traced : (c : CurveTree) → IsCurveTree design spans c → IsTraced c
  tree-traced (tree.Leaf b c) h = tt
  tree-traced (tree.Beside' c p l q r) h = (h.0.traced, tree-traced l h.1, tree-traced r h.2)
  tree-traced (tree.Above' c p l q r) h = (h.0.traced, tree-traced l h.1, tree-traced r h.2)

  -- some choice has this size
  abbrev pub HasChoice : List Token → Shape → Type 0
  HasChoice tokens p = (t : Tree) × IsChoice design tokens spans t × (size_of t ≡ p)

  -- each point of the curve of a tree with these tokens is the size of a choice
  pub curve-traced : (tokens : List Token) (c : CurveTree) → IsCurveTree design spans c → postfix (form_of c) ≡ tokens → All (HasChoice tokens) (curve_of c)
  curve-traced tokens c h is k d lt =
      let x = traced-tree c _ h (Contains-get_or (curve_of c) k d lt) in
      (x.plan, record { tokens = form-tokens x.plan c x.formed ∙ is; shapes = All-from_recursion _ (leaves x.plan) x.listed }, x.size)

  -- and it covers each choice
  pub curve-covers : (tokens : List Token) (c : CurveTree) → IsCurveTree design spans c → postfix (form_of c) ≡ tokens → (t : Tree) → IsChoice design tokens spans t → IsCovered design.outline (curve_of c) (size_of t)
  curve-covers tokens c h is t choice = covers-tree c t h (same-form t c (choice.tokens ∙ sym is)) (recursion_from_All _ (leaves t) choice.shapes)

  -- so it is the root curve of the tokens
  pub tree-curve : (tokens : List Token) (c : CurveTree) → IsCurveTree design spans c → postfix (form_of c) ≡ tokens → AllPairs IsSlimmer (curve_of c) → IsRootCurve design tokens spans (curve_of c)
  tree-curve tokens c h is falls = record { falls = falls; within = within-tree c h; traced = curve-traced tokens c h is; covers = curve-covers tokens c h is }

  -- what the curves of the tree say holds of the root curves of the parts
  pub sized-takes : (c : CurveTree) (t : Tree) (p : Shape) → IsCurveTree design spans c → form t ≡ form_of c → IsSized c t p → TakesFrom design spans t p
  sized-takes (tree.Leaf b c) (Leaf k s) p h e z = z
  sized-takes (tree.Leaf b c) (Beside x y) p h e z = absurd z
  sized-takes (tree.Leaf b c) (Above x y) p h e z = absurd z
  sized-takes (tree.Beside' c i l j r) (Leaf k s) p h e z = absurd z
  sized-takes (tree.Beside' c i l j r) (Beside x y) p h e z =
      let el : form x ≡ form_of l = cc in
      let er : form y ≡ form_of r = cc in (
        z.0,
        z.1,
        record { points = curve_of l; curve = tree-curve (postfix x) l h.1 (sym (form-tokens x l el)) z.2.falls; narrowest = z.2.narrowest },
        record { points = curve_of r; curve = tree-curve (postfix y) r h.2 (sym (form-tokens y r er)) z.3.falls; narrowest = z.3.narrowest },
        sized-takes l x z.0 h.1 el z.4,
        sized-takes r y z.1 h.2 er z.5,
      )
  sized-takes (tree.Beside' c i l j r) (Above x y) p h e z = absurd z
  sized-takes (tree.Above' c i l j r) (Leaf k s) p h e z = absurd z
  sized-takes (tree.Above' c i l j r) (Beside x y) p h e z = absurd z
  sized-takes (tree.Above' c i l j r) (Above x y) p h e z =
      let el : form x ≡ form_of l = cc in
      let er : form y ≡ form_of r = cc in (
        z.0,
        z.1,
        record { points = curve_of l; curve = tree-curve (postfix x) l h.1 (sym (form-tokens x l el)) z.2.falls; lowest = z.2.lowest },
        record { points = curve_of r; curve = tree-curve (postfix y) r h.2 (sym (form-tokens y r er)) z.3.falls; lowest = z.3.lowest },
        sized-takes l x z.0 h.1 el z.4,
        sized-takes r y z.1 h.2 er z.5,
      )

  -- a chosen plan is a choice
  pub chosen-form : (c : CurveTree) (t : Tree) → IsCurveTree design spans c → IsChosen c t → (form t ≡ form_of c) × IsListed design spans t
  chosen-form (tree.Leaf b c) (Leaf k s) h e =
      (ap (λ n. Leaf n no_shape) e.0, (subst (λ n. Contains (shapes_in design spans n) s) (sym e.0) (All-contains (Contains (shapes_in design spans b)) c s h.traced e.1), tt))
  chosen-form (tree.Leaf b c) (Beside x y) h e = absurd e
  chosen-form (tree.Leaf b c) (Above x y) h e = absurd e
  chosen-form (tree.Beside' c p l q r) (Leaf k s) h e = absurd e
  chosen-form (tree.Beside' c p l q r) (Beside x y) h e =
      let a = chosen-form l x h.1 e.0 in
      let b = chosen-form r y h.2 e.1 in
      (ap (λ v. Beside v (form y)) a.0 ∙ ap (Beside (form_of l)) b.0, each-append _ (leaves x) (leaves y) a.1 b.1)
  chosen-form (tree.Beside' c p l q r) (Above x y) h e = absurd e
  chosen-form (tree.Above' c p l q r) (Leaf k s) h e = absurd e
  chosen-form (tree.Above' c p l q r) (Beside x y) h e = absurd e
  chosen-form (tree.Above' c p l q r) (Above x y) h e =
      let a = chosen-form l x h.1 e.0 in
      let b = chosen-form r y h.2 e.1 in
      (ap (λ v. Above v (form y)) a.0 ∙ ap (Above (form_of l)) b.0, each-append _ (leaves x) (leaves y) a.1 b.1)

  -- a plan that is chosen on the curves of the leaves is a choice
  pub chosen-choice : (tokens : List Token) (c : CurveTree) (t : Tree) → IsCurveTree design spans c → postfix (form_of c) ≡ tokens → IsChosen c t → IsChoice design tokens spans t
  chosen-choice tokens c t h is chosen =
      let k = chosen-form c t h chosen in
      record { tokens = form-tokens t c k.0 ∙ is; shapes = All-from_recursion _ (leaves t) k.1 }

module _ (design : Design) (tokens : List Token) (spans : List (ℕ × ℕ)) where
  -- the points of a root curve are on each list that covers all choices by choices
  pub same-points : (ps qs : List Shape) (p : Shape) → IsRootCurve design tokens spans ps → All (HasChoice design spans tokens) qs → ((t : Tree) → IsChoice design tokens spans t → IsCovered design.outline qs (size_of t)) → Contains ps p → Contains qs p
  same-points ps qs p a traced covers c =
      let o = design.outline in
      let fits = All-contains (IsWithin o) ps p a.within c in
      let t = All-contains (HasChoice design spans tokens) ps p a.traced c in
      let q = covers t.0 t.1 (subst (IsWithin o) (sym t.2) fits) in
      let le : IsNoLarger q.1 p = subst (IsNoLarger q.1) t.2 q.4 in
      let u = All-contains (HasChoice design spans tokens) qs q.1 traced (q.0, q.2, q.3) in
      let r = a.covers u.0 u.1 (subst (IsWithin o) (sym u.2) (smaller-within o q.1 p le fits)) in
      let lf : IsNoLarger r.1 q.1 = subst (IsNoLarger r.1) u.2 r.4 in
      let same : r.1 ≡ p = one_point ps r.1 p a.falls (r.0, r.2, r.3) c (no-larger-still r.1 q.1 p lf le) in
      let here : q.1 ≡ p = between r.1 q.1 p same lf le in
      subst (Contains qs) here (q.0, q.2, q.3)

  -- a choice that is no larger than a point of the root curve has just its size
  pub just-sized : (points : List Shape) (p : Shape) (t : Tree) → IsRootCurve design tokens spans points → Contains points p → IsChoice design tokens spans t → IsNoLarger (size_of t) p → size_of t ≡ p
  just-sized points p t a c choice le =
      let o = design.outline in
      let q = a.covers t choice (smaller-within o (size_of t) p le (All-contains (IsWithin o) points p a.within c)) in
      let same : q.1 ≡ p = one_point points q.1 p a.falls (q.0, q.2, q.3) c (no-larger-still q.1 (size_of t) p q.4 le) in
      between q.1 (size_of t) p same q.4 le

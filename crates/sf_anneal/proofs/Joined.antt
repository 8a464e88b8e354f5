-- Root curves and traces of a block, and of two expressions that are joined.
use Rattle.std.proofs.Common.{◌≡◌, ℕ, get_or, ◌<◌, ◌≤◌, List, [], ◌∷◌, ◌++◌, All, AllPairs, arith, refl, ap, sym, subst, ◌∙◌, inl, inr, ◌⊎◌, Contains}
use Rattle.sf_anneal.proofs.Common.{AllByRecursion, cases_lt, All-contains, All-from_recursion, Contains-get_or, recursion_from_All, each-append, each-left, each-right, each-weaker, Design, Shape, shapes_in, Tree, Leaf, Beside, Above, leaves, Token, postfix, no_shape, one-form, form-postfix, rooms_small, shared, IsFitting, Contains-head, Contains-tail, IsChoice, IsRootCurve, TakesFrom, size_of, plan_in, size_in, token_in, IsCombination, IsCovered, IsNoLarger, IsSlimmer, Direction, whole_spans, IsBlockCurve, IsTaken}
use Rattle.sf_polish.specs.declared.expr.Token.TheVariants as token
use Rattle.sf_curves.proofs.Choosing.{covers-joined, grows, just-sized}
use Rattle.sf_curves.specs.Forms.{form}
use Rattle.sf_curves.specs.declared.direction.Direction.TheVariants as way

-- a plan with the tokens of two joined ones is joined from plans with their tokens
record IsJoinedFrom (d : Direction) (l r t : Tree) : Type 0 where
  first : Tree
  second : Tree
  is : t ≡ plan_in d first second
  left : postfix first ≡ postfix l
  right : postfix second ≡ postfix r

joined-from : (d : Direction) (l r t : Tree) → postfix t ≡ postfix (plan_in d l r) → IsJoinedFrom d l r t
joined-from way.Beside l r (Leaf b s) e = let f : form (Leaf b s) ≡ form (Beside l r) = one-form (Leaf b s) (Beside l r) e in absurd (cc)
joined-from way.Beside l r (Beside x y) e =
    let f : form (Beside x y) ≡ form (Beside l r) = one-form (Beside x y) (Beside l r) e in
    let a : form x ≡ form l = cc in
    let b : form y ≡ form r = cc in
    record { first = x; second = y; is = refl; left = form-postfix x l a; right = form-postfix y r b }
joined-from way.Beside l r (Above x y) e = let f : form (Above x y) ≡ form (Beside l r) = one-form (Above x y) (Beside l r) e in absurd (cc)
joined-from way.Above l r (Leaf b s) e = let f : form (Leaf b s) ≡ form (Above l r) = one-form (Leaf b s) (Above l r) e in absurd (cc)
joined-from way.Above l r (Beside x y) e = let f : form (Beside x y) ≡ form (Above l r) = one-form (Beside x y) (Above l r) e in absurd (cc)
joined-from way.Above l r (Above x y) e =
    let f : form (Above x y) ≡ form (Above l r) = one-form (Above x y) (Above l r) e in
    let a : form x ≡ form l = cc in
    let b : form y ≡ form r = cc in
    record { first = x; second = y; is = refl; left = form-postfix x l a; right = form-postfix y r b }

-- the tokens of two expressions and the operator that joins them
abbrev pub joined_tokens : Direction → List Token → List Token → List Token
joined_tokens d ls rs = ls ++ rs ++ token_in d ∷ []

joined-postfix : (d : Direction) (l r : Tree) → postfix (plan_in d l r) ≡ joined_tokens d (postfix l) (postfix r)
joined-postfix way.Beside l r = refl
joined-postfix way.Above l r = refl

joined-leaves : (d : Direction) (l r : Tree) → leaves (plan_in d l r) ≡ leaves l ++ leaves r
joined-leaves way.Beside l r = refl
joined-leaves way.Above l r = refl

joined-size : (d : Direction) (l r : Tree) → size_of (plan_in d l r) ≡ size_in d (size_of l) (size_of r)
joined-size way.Beside l r = refl
joined-size way.Above l r = refl

module _ (design : Design) where
  -- the leaf has a shape of its block
  abbrev HasListed : ℕ × Shape → Type 0
  HasListed leaf = Contains (shapes_in design (whole_spans design) leaf.0) leaf.1

  -- the points are the root curve of these tokens, which some plan has
  pub record IsRight (tokens : List Token) (points : List Shape) : Type 0 where
    pub plan : Tree
    pub spelled : postfix plan ≡ tokens
    pub root : IsRootCurve design tokens (whole_spans design) points

  -- choices of two expressions make a choice of both
  choice-joined : (d : Direction) (ls rs : List Token) (x y : Tree) → IsChoice design ls (whole_spans design) x → IsChoice design rs (whole_spans design) y → IsChoice design (joined_tokens d ls rs) (whole_spans design) (plan_in d x y)
  choice-joined d ls rs x y a b = record {
    tokens = joined-postfix d x y ∙ ap (λ v. joined_tokens d v (postfix y)) a.tokens ∙ ap (joined_tokens d ls) b.tokens;
    shapes = subst (All HasListed) (sym (joined-leaves d x y)) (All-from_recursion HasListed (leaves x ++ leaves y) (each-append HasListed (leaves x) (leaves y) (recursion_from_All HasListed (leaves x) a.shapes) (recursion_from_All HasListed (leaves y) b.shapes)));
  }

  -- a choice of both is joined from choices of each
  record IsParted (d : Direction) (ls rs : List Token) (t : Tree) : Type 0 where
    first : Tree
    second : Tree
    is : t ≡ plan_in d first second
    left : IsChoice design ls (whole_spans design) first
    right : IsChoice design rs (whole_spans design) second

  choice-parted : (d : Direction) (ls rs : List Token) (l r t : Tree) → postfix l ≡ ls → postfix r ≡ rs → IsChoice design (joined_tokens d ls rs) (whole_spans design) t → IsParted d ls rs t
  choice-parted d ls rs l r t a b choice =
      let j = joined-from d l r t (choice.tokens ∙ sym (joined-postfix d l r ∙ ap (λ v. joined_tokens d v (postfix r)) a ∙ ap (joined_tokens d ls) b)) in
      let all : AllByRecursion HasListed (leaves j.first ++ leaves j.second) =
      subst (AllByRecursion HasListed) (ap leaves j.is ∙ joined-leaves d j.first j.second) (recursion_from_All HasListed (leaves t) choice.shapes) in
      record {
        first = j.first;
        second = j.second;
        is = j.is;
        left = record { tokens = j.left ∙ a; shapes = All-from_recursion HasListed (leaves j.first) (each-left HasListed (leaves j.first) (leaves j.second) all) };
        right = record { tokens = j.right ∙ b; shapes = All-from_recursion HasListed (leaves j.second) (each-right HasListed (leaves j.first) (leaves j.second) all) };
      }

  -- some choice has this size
  abbrev HasChoice : List Token → Shape → Type 0
  HasChoice tokens p = (t : Tree) × IsChoice design tokens (whole_spans design) t × (size_of t ≡ p)

  -- the combination of two root curves is that of both together
  pub right-joined : (d : Direction) (ls rs : List Token) (ps qs points : List Shape) → IsRight ls ps → IsRight rs qs → IsCombination (size_in d) design.outline ps qs points → AllPairs IsSlimmer points → IsRight (joined_tokens d ls rs) points
  right-joined d ls rs ps qs points a b comb falls = record {
    plan = plan_in d a.plan b.plan;
    spelled = joined-postfix d a.plan b.plan ∙ ap (λ v. joined_tokens d v (postfix b.plan)) a.spelled ∙ ap (joined_tokens d ls) b.spelled;
    root = record {
      falls = falls;
      within = comb.within;
      traced = λ k e lt.
          let j = comb.traced k e lt in
          let x = All-contains (HasChoice ls) ps j.0 a.root.traced j.2 in
          let y = All-contains (HasChoice rs) qs j.1 b.root.traced j.3 in
          (plan_in d x.0 y.0, choice-joined d ls rs x.0 y.0 x.1 y.1, joined-size d x.0 y.0 ∙ ap (λ v. size_in d v (size_of y.0)) x.2 ∙ ap (size_in d j.0) y.2 ∙ sym j.4);
      covers = λ t choice.
          let p = choice-parted d ls rs a.plan b.plan t a.spelled b.spelled choice in
          subst (IsCovered design.outline points) (sym (ap size_of p.is ∙ joined-size d p.first p.second))
          (covers-joined (size_in d) (grows d) design.outline ps qs points (size_of p.first) (size_of p.second) comb.covers (a.root.covers p.first p.left) (b.root.covers p.second p.right));
    };
  }

  -- a plan of a block alone
  block-leaf : (b : ℕ) (t : Tree) → postfix t ≡ token.Block b ∷ [] → (s : Shape) × (t ≡ Leaf b s)
  block-leaf b (Leaf k s) e = let same : k ≡ b = cc in (s, ap (λ n. Leaf n s) same)
  block-leaf b (Beside x y) e = let f : form (Beside x y) ≡ form (Leaf b no_shape) = one-form (Beside x y) (Leaf b no_shape) e in absurd (cc)
  block-leaf b (Above x y) e = let f : form (Above x y) ≡ form (Leaf b no_shape) = one-form (Above x y) (Leaf b no_shape) e in absurd (cc)

  -- a shape on the curve of a block is a choice
  leaf-choice : (b : ℕ) (points : List Shape) (p : Shape) → IsBlockCurve design b points → Contains points p → IsChoice design (token.Block b ∷ []) (whole_spans design) (Leaf b p)
  leaf-choice b points p h c = record { tokens = refl; shapes = All-from_recursion HasListed ((b, p) ∷ []) (All-contains (Contains (shapes_in design (whole_spans design) b)) points p h.sizes.traced c, tt) }

  -- the curve of a block is its root curve
  pub right-block : (b : ℕ) (points : List Shape) → IsBlockCurve design b points → IsRight (token.Block b ∷ []) points
  right-block b points h = record {
    plan = Leaf b no_shape;
    spelled = refl;
    root = record {
      falls = h.falls;
      within = h.sizes.within;
      traced = All-from-contains (λ p c. (Leaf b p, leaf-choice b points p h c, refl));
      covers = λ t choice.
          let leaf = block-leaf b t choice.tokens in
          let listed = recursion_from_All HasListed (leaves (Leaf b leaf.0)) (subst (λ v. All HasListed (leaves v)) leaf.1 choice.shapes) in
          subst (λ v. IsCovered design.outline points (size_of v)) (sym leaf.1) (All-contains (IsCovered design.outline points) (shapes_in design (whole_spans design) b) leaf.0 h.sizes.covers listed.0);
    };
  }
    where
      All-from-contains : ((p : Shape) → Contains points p → HasChoice (token.Block b ∷ []) p) → All (HasChoice (token.Block b ∷ [])) points
      All-from-contains f k d lt = f (get_or points k d) (Contains-get_or points k d lt)

  -- a block takes a point of its curve
  pub taken-block : (b : ℕ) (points : List Shape) (p : Shape) → IsBlockCurve design b points → Contains points p → IsTaken design (token.Block b ∷ []) p (Leaf b p)
  taken-block b points p h c = record { choice = leaf-choice b points p h c; sized = refl; takes = refl }

  -- joined plans take points that fit
  takes-joined : (d : Direction) (ps qs : List Shape) (p q t : Shape) (x y : Tree) → IsRootCurve design (postfix x) (whole_spans design) ps → IsRootCurve design (postfix y) (whole_spans design) qs → IsFitting d p ps q → IsFitting d p qs t
      → TakesFrom design (whole_spans design) x q → TakesFrom design (whole_spans design) y t → TakesFrom design (whole_spans design) (plan_in d x y) p
  takes-joined way.Beside ps qs p q t x y a b fl fr l r = (q, t, record { points = ps; curve = a; narrowest = fl }, record { points = qs; curve = b; narrowest = fr }, l, r)
  takes-joined way.Above ps qs p q t x y a b fl fr l r = (q, t, record { points = ps; curve = a; lowest = fl }, record { points = qs; curve = b; lowest = fr }, l, r)

  -- two joined rooms take such points
  pub taken-joined : (d : Direction) (ls rs : List Token) (ps qs points : List Shape) (p q t : Shape) (x y : Tree) → IsRight ls ps → IsRight rs qs → IsCombination (size_in d) design.outline ps qs points → AllPairs IsSlimmer points → Contains points p
      → IsFitting d p ps q → IsFitting d p qs t → IsTaken design ls q x → IsTaken design rs t y → IsTaken design (joined_tokens d ls rs) p (plan_in d x y)
  taken-joined d ls rs ps qs points p q t x y a b comb falls c fl fr l r =
      let spans = whole_spans design in
      let choice = choice-joined d ls rs x y l.choice r.choice in
      let root = (right-joined d ls rs ps qs points a b comb falls).root in
      let first : IsNoLarger (size_of x) q = subst (λ v. IsNoLarger v q) (sym l.sized) (omega arith, omega arith) in
      let second : IsNoLarger (size_of y) t = subst (λ v. IsNoLarger v t) (sym r.sized) (omega arith, omega arith) in
      record {
        choice = choice;
        sized = just-sized design (joined_tokens d ls rs) spans points p (plan_in d x y) root c choice
            (subst (λ v. IsNoLarger v p) (sym (joined-size d x y)) (rooms_small d ps qs points p q t (size_of x) (size_of y) comb.traced c fl fr first second));
        takes = takes-joined d ps qs p q t x y (subst (λ ts. IsRootCurve design ts spans ps) (sym l.choice.tokens) a.root) (subst (λ ts. IsRootCurve design ts spans qs) (sym r.choice.tokens) b.root) fl fr l.takes r.takes;
      }

-- the point that fits is on the curve
pub fitting-found : (d : Direction) (p : Shape) (points : List Shape) (q : Shape) → IsFitting d p points q → Contains points q
fitting-found way.Beside p points q fit = fit.found
fitting-found way.Above p points q fit = fit.found

-- all points are longer on one side than the limit, or one of the others is the least on the other side
least-below : (side other : Shape → ℕ) (limit : ℕ) (points : List Shape) → AllByRecursion (λ q. limit < side q) points ⊎ ((p : Shape) × Contains points p × (side p ≤ limit) × AllByRecursion (λ q. side q ≤ limit → other p ≤ other q) points)
least-below side other limit [] = inl tt
least-below side other limit (x ∷ xs) = elim (least-below side other limit xs) [
  | inl none ↦ elim (cases_lt limit (side x)) [
    | inl long ↦ inl (long, none)
    | inr fits ↦ inr (x, Contains-head x xs, fits, (λ h. omega arith, each-weaker (λ q. limit < side q) (λ q. side q ≤ limit → other x ≤ other q) (λ q long h. absurd (omega (arith, long, h))) xs none))
  ]
  | inr r ↦ elim (cases_lt limit (side x)) [
    | inl long ↦ inr (r.0, Contains-tail x xs r.0 r.1, r.2, (λ h. absurd (omega (arith, long, h)), r.3))
    | inr fits ↦ elim (cases_lt (other r.0) (other x)) [
      | inl less ↦ inr (r.0, Contains-tail x xs r.0 r.1, r.2, (λ h. omega (arith, less), r.3))
      | inr more ↦ inr (x, Contains-head x xs, fits, (λ h. omega arith, each-weaker (λ q. side q ≤ limit → other r.0 ≤ other q) (λ q. side q ≤ limit → other x ≤ other q) (λ q f h. let le = f h in omega (arith, le, more)) xs r.3))
    ]
  ]
]

-- where a point is within the limit, so is the least one
some-least : (side other : Shape → ℕ) (limit : ℕ) (points : List Shape) (l : Shape) → Contains points l → side l ≤ limit → (p : Shape) × Contains points p × (side p ≤ limit) × All (λ q. side q ≤ limit → other p ≤ other q) points
some-least side other limit points l c low = elim (least-below side other limit points) [
  | inl none ↦ (let long = All-contains (λ q. limit < side q) points l (All-from_recursion (λ q. limit < side q) points none) c in absurd (omega (arith, long, low)))
  | inr r ↦ (r.0, r.1, r.2, All-from_recursion (λ q. side q ≤ limit → other r.0 ≤ other q) points r.3)
]

-- a curve with a point that is short enough for a room has one that fits it
pub some-fitting : (d : Direction) (p : Shape) (points : List Shape) (l : Shape) → Contains points l → shared d l ≤ shared d p → (q : Shape) × IsFitting d p points q
some-fitting way.Beside p points l c low = let r = some-least (λ v. v.h) (λ v. v.w) p.h points l c low in (r.0, record { found = r.1; low = r.2; least = r.3 })
some-fitting way.Above p points l c low = let r = some-least (λ v. v.w) (λ v. v.h) p.w points l c low in (r.0, record { found = r.1; narrow = r.2; least = r.3 })

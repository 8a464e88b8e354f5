-- Where each span has one place, one plan belongs to a complete subproblem.
use Rattle.std.proofs.Common.{◌≡◌, ℕ, suc, ◌+◌, ◌*◌, ◌<◌, ◌≤◌, List, [], ◌∷◌, length, length-append, get_or, arith, refl, ap, sym, subst, ◌∙◌, Bool, true, false, not}
use Rattle.sf_bound.proofs.Common.{Contains, slice_index_or, nat_lt, AllByRecursion, list_all, and_parts, eqb-true, ltb-false, take_all, get_or_default, All-from_recursion, recursion_from_All, All-contains, zero, Design, Shape, block_count, shapes_of, IsLegal, IsSide, Tree, Leaf, Beside, Above, leaves, leaf_count, HasSides, length-leaves, each-left, each-right, Expr, Parts, Belongs, is_complete, is_wide, span_of, IsSubproblem, subproblem-spans, shapes_in, Tells, first_shape, postfix, IsSkewed, Spells, shape_at, length-postfix, in_span, from_in_span, are-spans}
use Rattle.sf_bound.proofs.Whole.{listed-belongs, spelled-inside}
use Rattle.sf_polish.proofs.Spelling.{spells-one}

-- what follows from two properties holds of all elements of which both hold
each-both : {X : Type 0} (P Q R : X → Type 0) → ((x : X) → P x → Q x → R x) → (xs : List X) → AllByRecursion P xs → AllByRecursion Q xs → AllByRecursion R xs
each-both P Q R f [] p q = tt
each-both P Q R f (x ∷ xs) p q = (f x p.0 q.0, each-both P Q R f xs p.1 q.1)

-- this plan belongs to the subproblem, and no other does
pub record IsAlone (design : Design) (node : Parts) (tree : Tree) : Type 0 where
  pub belongs : Belongs design node tree
  pub only : (t : Tree) → Belongs design node t → t ≡ tree

-- the postfix of a plan that belongs to a complete subproblem is its tokens
pub whole-postfix : (design : Design) (node : Parts) (t : Tree) → IsSubproblem design node → is_complete node ≡ true → Belongs design node t → postfix t ≡ node.tokens
whole-postfix design node t sub complete belongs =
    let spans = subproblem-spans design node sub in
    let full : length node.tokens + 1 ≡ 2 * length node.spans = eqb-true (length node.tokens + 1) (2 * length node.spans) complete in
    let long : length (postfix t) ≤ length node.tokens = omega (arith, full, spans, length-postfix t, length-leaves design t belongs.legal) in
    sym (take_all (length node.tokens) (postfix t) long) ∙ belongs.begins

-- a span that is not wide
single-span : (spans : List (ℕ × ℕ)) (b : ℕ) (d : ℕ × ℕ) → list_all (λ span. not (is_wide span)) spans ≡ true → b < length spans → (slice_index_or spans b d).1 ≤ (slice_index_or spans b d).0 + 1
single-span [] b d all lt = absurd (omega arith)
single-span (s ∷ spans) zero d all lt = ltb-false (s.0 + 1) s.1 (not-true (nat_lt (s.0 + 1) s.1) (and_parts (not (nat_lt (s.0 + 1) s.1)) (list_all (λ span. not (is_wide span)) spans) all).0)
  where
    not-true : (b : Bool) → not b ≡ true → b ≡ false
    not-true true h = absurd (cc)
    not-true false h = refl
single-span (s ∷ spans) (suc b) d all lt = single-span spans b d (and_parts (not (is_wide s)) (list_all (λ span. not (is_wide span)) spans) all).1 (omega arith)

module _ (design : Design) (node : Parts) (expr : Expr) (tree : Tree) (sub : IsSubproblem design node) (complete : is_complete node ≡ true) (tokens : expr.tokens ≡ node.tokens) (shapes : Tells (first_shape design node) (block_count design) expr.shapes) (spells : Spells expr tree) where
  -- a shape that stands for none
  abbrev none : Shape
  none = record { w = 0; h = 0 }

  -- the first shape in the span of a block is in the span
  first-listed : (b : ℕ) → b < block_count design → Contains (shapes_in design node.spans b) (first_shape design node b)
  first-listed b lt =
      let k = (are-spans design node sub).each b lt in
      from_in_span (shapes_of design b) (span_of node b).0 (span_of node b).1 (first_shape design node b)
      record { at = (span_of node b).0; low = omega arith; high = k.0; within = omega (arith, k.0, k.1); is = get_or_default (shapes_of design b) (span_of node b).0 (first_shape design node b) none (omega (arith, k.0, k.1)) }

  -- the plan that the first shapes of the spans spell belongs to the subproblem
  first-belongs : IsSkewed tree → Belongs design node tree
  first-belongs skewed =
      let spelled : postfix tree ≡ node.tokens = spells.tokens ∙ tokens in
      listed-belongs design node tree sub complete spelled skewed
      (each-both (λ leaf. leaf.0 < block_count design) (λ leaf. leaf.1 ≡ shape_at expr.shapes leaf.0) (λ leaf. Contains (shapes_in design node.spans leaf.0) leaf.1)
      (λ leaf lt e. subst (Contains (shapes_in design node.spans leaf.0)) (sym (e ∙ shapes.each leaf.0 none lt)) (first-listed leaf.0 lt)) (leaves tree)
      (spelled-inside design node tree sub complete spelled) (recursion_from_All (λ leaf. leaf.1 ≡ shape_at expr.shapes leaf.0) (leaves tree) spells.shapes))

  -- and is the only one where the spans are single
  pub alone : list_all (λ span. not (is_wide span)) node.spans ≡ true → IsSkewed tree → IsAlone design node tree
  alone single skewed =
      let n = block_count design in
      let spans = subproblem-spans design node sub in
      record {
        belongs = first-belongs skewed;
        only = λ t belongs. spells-one expr t tree record {
          tokens = whole-postfix design node t sub complete belongs ∙ sym tokens;
          shapes = All-from_recursion (λ leaf. leaf.1 ≡ shape_at expr.shapes leaf.0) (leaves t)
              (each-both (λ leaf. leaf.0 < n) (λ leaf. Contains (shapes_in design node.spans leaf.0) leaf.1) (λ leaf. leaf.1 ≡ shape_at expr.shapes leaf.0)
              (λ leaf lt c.
              let i = in_span (shapes_of design leaf.0) (span_of node leaf.0).0 (span_of node leaf.0).1 leaf.1 c in
              let at : i.at ≡ (span_of node leaf.0).0 = omega (arith, i.low, i.high, single-span node.spans leaf.0 (0, 0) single (omega (arith, lt, spans))) in
              sym i.is ∙ ap (λ k. get_or (shapes_of design leaf.0) k leaf.1) at
              ∙ get_or_default (shapes_of design leaf.0) (span_of node leaf.0).0 leaf.1 none (omega (arith, at, i.within)) ∙ sym (shapes.each leaf.0 none lt))
              (leaves t) (recursion_from_All (λ leaf. leaf.0 < n) (leaves t) belongs.legal.blocks.no_other) (recursion_from_All (λ leaf. Contains (shapes_in design node.spans leaf.0) leaf.1) (leaves t) belongs.chosen));
        } spells;
      }

-- a legal plan has few leaves, of which no side is too long
pub few-leaves : (design : Design) (tree : Tree) → IsLegal design tree → leaf_count tree ≤ 320
few-leaves design tree legal = omega (arith, counted tree, length-leaves design tree legal, design.limits.few_blocks)
  where
    counted : (t : Tree) → leaf_count t ≡ length (leaves t)
    counted (Leaf b s) = refl
    counted (Beside l r) = omega (arith, counted l, counted r, length-append (leaves l) (leaves r))
    counted (Above l r) = omega (arith, counted l, counted r, length-append (leaves l) (leaves r))

-- each leaf of a legal plan has sides within the limits
pub has-sides : (design : Design) (tree : Tree) → IsLegal design tree → HasSides tree
has-sides design tree legal = sided tree (each-both (λ leaf. leaf.0 < block_count design) (λ leaf. Contains (shapes_of design leaf.0) leaf.1) (λ leaf. IsSide leaf.1.w × IsSide leaf.1.h)
    (λ leaf lt c. All-contains (λ s. IsSide s.w × IsSide s.h) (shapes_of design leaf.0) leaf.1 (design.limits.shapes leaf.0 (record { name = []; shapes = [] }) lt).choice.sides c)
    (leaves tree) (recursion_from_All (λ leaf. leaf.0 < block_count design) (leaves tree) legal.blocks.no_other) (recursion_from_All (λ leaf. Contains (shapes_of design leaf.0) leaf.1) (leaves tree) legal.listed))
  where
    sided : (t : Tree) → AllByRecursion (λ leaf. IsSide leaf.1.w × IsSide leaf.1.h) (leaves t) → HasSides t
    sided (Leaf b s) h = h.0
    sided (Beside l r) h = (sided l (each-left (λ leaf. IsSide leaf.1.w × IsSide leaf.1.h) (leaves l) (leaves r) h), sided r (each-right (λ leaf. IsSide leaf.1.w × IsSide leaf.1.h) (leaves l) (leaves r) h))
    sided (Above l r) h = (sided l (each-left (λ leaf. IsSide leaf.1.w × IsSide leaf.1.h) (leaves l) (leaves r) h), sided r (each-right (λ leaf. IsSide leaf.1.w × IsSide leaf.1.h) (leaves l) (leaves r) h))

-- What a trace says of the plan that it spells.
use Rattle.std.proofs.Common.{◌≡◌, ℕ, ◌<◌, List, [], ◌∷◌, subst, sym, Contains}
use Rattle.sf_anneal.proofs.Common.{AllByRecursion, IsNormal, Token, All-contains, All-from_recursion, recursion_from_All, Design, Shape, IsLegal, Fits, block_count, shapes_of, shapes_in, Tree, leaves, Expr, once-of_normal, IsChoice, IsRootCurve, size_of, IsWithin, skewed-of_normal, whole_spans, IsFloorplan, IsTraced}
use Rattle.sf_anneal.proofs.Spans.{whole-shapes}

-- what follows from two properties holds of all elements of which both hold
each-both : {X : Type 0} (P Q R : X → Type 0) → ((x : X) → P x → Q x → R x) → (xs : List X) → AllByRecursion P xs → AllByRecursion Q xs → AllByRecursion R xs
each-both P Q R f [] p q = tt
each-both P Q R f (x ∷ xs) p q = (f x p.0 q.0, each-both P Q R f xs p.1 q.1)

-- a choice from whole lists is legal
pub choice-legal : (design : Design) (ts : List Token) (tree : Tree) → IsNormal (block_count design) ts → IsChoice design ts (whole_spans design) tree → IsLegal design tree
choice-legal design ts tree normal choice =
    let once = once-of_normal (block_count design) ts tree normal choice.tokens in
    record {
      blocks = once;
      listed = All-from_recursion (λ leaf. Contains (shapes_of design leaf.0) leaf.1) (leaves tree)
          (each-both (λ leaf. leaf.0 < block_count design) (λ leaf. Contains (shapes_in design (whole_spans design) leaf.0) leaf.1) (λ leaf. Contains (shapes_of design leaf.0) leaf.1)
          (λ leaf lt c. subst (λ (l : List Shape). Contains l leaf.1) (whole-shapes design leaf.0 lt) c) (leaves tree)
          (recursion_from_All (λ leaf. leaf.0 < block_count design) (leaves tree) once.no_other)
          (recursion_from_All (λ leaf. Contains (shapes_in design (whole_spans design) leaf.0) leaf.1) (leaves tree) choice.shapes));
    }

-- a choice of a size on the root curve fits
pub choice-fits : (design : Design) (ts : List Token) (points : List Shape) (p : Shape) (tree : Tree) → IsRootCurve design ts (whole_spans design) points → Contains points p → size_of tree ≡ p → Fits design.outline tree
choice-fits design ts points p tree root here e = subst (IsWithin design.outline) (sym e) (All-contains (IsWithin design.outline) points p root.within here)

-- what is traced is a floorplan that fits
pub traced-floorplan : (design : Design) (ts : List Token) (expr : Expr) (z : ℕ) → IsNormal (block_count design) ts → IsTraced design ts expr z → IsFloorplan design expr z
traced-floorplan design ts expr z normal t = record {
  tree = t.trace.tree;
  spells = t.trace.spells;
  one_each = t.one_each;
  legal = choice-legal design ts t.trace.tree normal t.trace.choice;
  skewed = skewed-of_normal (block_count design) ts t.trace.tree normal t.trace.choice.tokens;
  fits = choice-fits design ts t.points t.point t.trace.tree t.curve t.least.found t.trace.size;
  costs = t.costs;
}

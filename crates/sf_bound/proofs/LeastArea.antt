-- Where only areas count, the least area on the root curve of a complete subproblem is the least cost.
use Rattle.std.proofs.Common.{◌≡◌, ℕ, ◌∙◌, ◌*◌, ◌<◌, ◌≤◌, List, [], length, arith, ap, sym, subst, inl, inr, ◌⊎◌, true}
use Rattle.sf_bound.proofs.Common.{mul-le-mul, mul-le-mul_left, All-contains, recursion_from_All, Contains, Design, Shape, block_count, Tree, width, height, leaves, spots_of, Expr, IsNormal, Parts, Belongs, is_complete, IsSubproblem, complete-normal, subproblem-spans, shapes_in, IsChoice, IsRootCurve, IsTraceOf, size_of, IsWithin, IsLeastArea, area_of, IsCheapest, NoneOfNode}
use Rattle.sf_bound.proofs.Whole.{listed-belongs}
use Rattle.sf_model.specs.Wire.{wire}
use Rattle.sf_curves.proofs.Forms.{skewed-of_normal}
use Rattle.sf_bound.proofs.OnlyPlan.{whole-postfix}

-- a product of lesser numbers is not greater
times : (a b m n : ℕ) → a ≤ m → b ≤ n → a * b ≤ m * n
times a b m n h k = mul-le-mul h k

-- 0 times a number is 0
zero_times : (b : ℕ) → 0 * b ≡ 0
zero_times b = omega arith

-- a number that is 0, times another, is 0
zero-times : (a b : ℕ) → a ≡ 0 → a * b ≡ 0
zero-times a b e = ap (λ v. v * b) e ∙ zero_times b

module _ (design : Design) (node : Parts) (sub : IsSubproblem design node) (complete : is_complete node ≡ true) where
  -- the tokens of a complete subproblem are a normal expression of all blocks
  pub normal : IsNormal (block_count design) node.tokens
  normal = complete-normal design node sub (subproblem-spans design node sub) complete

  -- the plans that belong to the subproblem are its choices
  choice-belongs : (t : Tree) → IsChoice design node.tokens node.spans t → Belongs design node t
  choice-belongs t choice =
      listed-belongs design node t sub complete choice.tokens (skewed-of_normal (block_count design) node.tokens t normal choice.tokens)
      (recursion_from_All (λ leaf. Contains (shapes_in design node.spans leaf.0) leaf.1) (leaves t) choice.shapes)

  -- a plan that belongs to the subproblem is one of its choices
  belongs-choice : (t : Tree) → Belongs design node t → IsChoice design node.tokens node.spans t
  belongs-choice t belongs = record { tokens = whole-postfix design node t sub complete belongs; shapes = belongs.chosen }

  module _ (points : List Shape) (root : IsRootCurve design node.tokens node.spans points) where
    -- where the root curve is empty no plan of the subproblem fits
    pub none-fits : points ≡ [] → NoneOfNode design node
    none-fits e t belongs fits =
        let k = root.covers t (belongs-choice t belongs) fits in
        absurd (omega (arith, k.2, ap length e))

    -- the least area, as often as its weight says, is not too great
    pub least-small : (p : Shape) → IsLeastArea points p → design.weights.area * area_of p ≤ 65535 * 1099511627776
    least-small p least =
        let within = All-contains (IsWithin design.outline) points p root.within least.found in
        let small : area_of p ≤ 1048576 * 1048576 = times p.w p.h 1048576 1048576 (omega (arith, within.0, design.limits.width.1)) (omega (arith, within.1, design.limits.height.1)) in
        times design.weights.area (area_of p) 65535 1099511627776 (omega (arith, design.limits.area_weight)) (omega (arith, small))

    -- the trace of the least area on the root curve is a cheapest plan, where wires count nothing
    pub cheapest : (p : Shape) (expr : Expr) → design.weights.wire ≡ 0 → IsLeastArea points p → length expr.shapes ≡ block_count design → IsTraceOf design node.tokens node.spans p expr → IsCheapest design node expr (design.weights.area * area_of p)
    cheapest p expr flat least one_each t =
        let here : width t.tree * height t.tree ≡ area_of p = ap area_of t.size in
        record {
          plan = record {
            tree = t.tree;
            spells = t.spells;
            one_each = one_each;
            belongs = choice-belongs t.tree t.choice;
            fits = subst (IsWithin design.outline) (sym t.size) (All-contains (IsWithin design.outline) points p root.within least.found);
            costs = omega (arith, ap (λ v. design.weights.area * v) here, zero-times design.weights.wire (wire design (spots_of t.tree)) flat);
          };
          below = λ v belongs fits.
              let k = root.covers v (belongs-choice v belongs) fits in
              let first : area_of p ≤ area_of k.1 = elim (All-contains (λ q. (area_of p < area_of q) ⊎ ((area_of p ≡ area_of q) × (p.w ≤ q.w))) points k.1 least.least (k.0, k.2, k.3)) [ inl e ↦ omega (arith, e) | inr e ↦ omega (arith, e.0) ] in
              let then : area_of k.1 ≤ area_of (size_of v) = mul-le-mul k.4.0 k.4.1 in
              let whole : area_of p ≤ area_of (size_of v) = omega (arith, first, then) in
              omega (arith, mul-le-mul_left design.weights.area whole);
        }

-- The least area of all floorplans, from the curve of all blocks.
use Rattle.std.proofs.Common.{◌≡◌, ℕ, ◌+◌, ◌*◌, ◌-◌, ◌^◌, ◌<◌, ◌≤◌, inl, inr, min, List, arith, ap, sym, subst, ◌∙◌, Option, Some, None}
use Rattle.sf_subsets.proofs.Common.{All, All-contains, Any, AreLeasts, AreMade, Contains, Design, IsAreaFloor, IsLeastArea, IsNoLarger, IsPlanOfSize, IsTable, IsWithin, MatchOption, Shape, area_of, block_count, cases_lt, curve_at, limit_of, mul-le-mul, size_of, total, tree_of, NoneFits, IsSide, Budget, LeastPlan, Table, IsLeastPlan, IsFoundBelow}
use Rattle.sf_subsets.specs.declared.found.Found.{Found}
use Rattle.sf_subsets.proofs.Bits.{below_power}
use Rattle.sf_subsets.proofs.Plans.{total-le-area}
use Rattle.sf_subsets.proofs.Law.{legal-plan, area-no_larger}
use Rattle.sf_subsets.proofs.Blocks.{least-le, plan-legal}
use Rattle.sf_subsets.proofs.Splits.{made-plan}

-- two sides have a small product
pub sides_small : (w h : ℕ) → IsSide w → IsSide h → w * h ≤ 2 ^ 40
sides_small w h wide high =
    let a : w ≤ 1048576 = omega (arith, wide.1) in
    let b : h ≤ 1048576 = omega (arith, high.1) in
    omega (arith, mul-le-mul a b)

-- blocks that need the limit leave no floorplan below it
pub floor-by_total : (design : Design) (leasts : List ℕ) (limit : ℕ) → AreLeasts design leasts → limit ≤ total leasts (2 ^ block_count design - 1) → IsAreaFloor design limit
floor-by_total design leasts limit floor le tree legal fit =
    omega (arith, le, total-le-area design leasts floor (2 ^ block_count design - 1) tree (legal-plan design tree legal) fit)

-- a limit that is cut to one more than the outline's area is as good a floor
pub floor-whole : (design : Design) (limit cut : ℕ) → cut ≡ min limit (design.outline.w * design.outline.h + 1) → IsAreaFloor design cut → IsAreaFloor design limit
floor-whole design limit cut is floor tree legal fit =
    omega (arith, floor tree legal fit, is, mul-le-mul fit.0 fit.1)

-- where no floorplan has an area of the outline's or less, none fits
pub none-fits : (design : Design) → IsAreaFloor design (design.outline.w * design.outline.h + 1) → NoneFits design
none-fits design floor tree legal fit =
    omega (arith, floor tree legal fit, mul-le-mul fit.0 fit.1)

module _ (design : Design) (budget : Budget) (cut limit : ℕ) (table : Table) (t : IsTable design budget (2 ^ block_count design) table) (is : cut ≡ limit_of budget (2 ^ block_count design - 1) + 1) where
  -- the curve of all blocks
  whole : List Shape
  whole = curve_at table.curves.items (2 ^ block_count design - 1)

  -- where each of its points has such an area, each floorplan has
  floor-by_points : (z : ℕ) → z ≤ cut → ((q : Shape) → Contains whole q → z ≤ area_of q) → IsAreaFloor design z
  unfolding whole
  floor-by_points z le all tree legal fit =
      let all_set = 2 ^ block_count design - 1 in
      let curve = t.each all_set (omega (arith, below_power (block_count design))) in
      elim (cases_lt (limit_of budget all_set) (area_of (size_of tree))) [
        | inl big ↦ omega (arith, big, is, le)
        | inr small ↦ (let x : Any (λ q. IsNoLarger q (size_of tree)) whole = curve.covers tree (legal-plan design tree legal) fit small in
            omega (arith, all x.1 (x.0, x.2, x.3), area-no_larger x.1 (size_of tree) x.4))
      ]

  -- what its point of least area says
  pub least-found : (cut ≡ min limit (design.outline.w * design.outline.h + 1)) → (size : Option Shape) → MatchOption size (All (λ p. cut ≤ area_of p) (curve_at table.curves.items (2 ^ block_count design - 1))) (λ p. (area_of p < cut) × IsLeastArea (curve_at table.curves.items (2 ^ block_count design - 1)) p) → MatchOption size (IsAreaFloor design limit) (λ p. IsFoundBelow design limit record { table = table; size = p })
  unfolding whole
  least-found cut_is None h =
      floor-whole design limit cut cut_is (floor-by_points cut (omega arith) (λ q c. All-contains (λ p. cut ≤ area_of p) whole q h c))
  least-found cut_is (Some p) h =
      let all_set = 2 ^ block_count design - 1 in
      let lt : all_set < 2 ^ block_count design = omega (arith, below_power (block_count design)) in
      let made : AreMade design table.curves.items = λ set below. (t.each set (omega (arith, below, t.count))).made in
      let plan = made-plan design table.curves.items made all_set all_set (omega arith) (omega (arith, lt, t.count)) p h.1.found in
      record {
        small = omega (arith, h.0, cut_is);
        least = record {
          tree = plan.0;
          plan = record {
            legal = plan-legal design plan.0 plan.1.plan;
            fits = subst (IsWithin design.outline) (sym plan.1.is) (All-contains (IsWithin design.outline) whole p (t.each all_set lt).within h.1.found);
            area_is = ap area_of plan.1.is;
            least = floor-by_points (area_of p) (omega (arith, h.0)) (λ q c. least-le whole p q h.1 c);
          };
          is = plan.1.is;
        };
        count = t.count;
        made = made;
        on = h.1.found;
      }

-- a plan of all blocks of the size that was found is a floorplan of least area
pub least-plan : (design : Design) (limit : ℕ) (found : Found) (least : LeastPlan) → IsFoundBelow design limit found → IsPlanOfSize design (2 ^ block_count design - 1) found.size (tree_of least.plan) → least.area ≡ area_of found.size → (least.area < limit) × IsLeastPlan design (tree_of least.plan) least.area
least-plan design limit found least h plan is = (
  omega (arith, h.small, is),
  record {
    legal = plan-legal design (tree_of least.plan) plan.plan;
    fits = subst (IsWithin design.outline) (h.least.is ∙ sym plan.is) h.least.plan.fits;
    area_is = ap area_of plan.is ∙ sym is;
    least = subst (IsAreaFloor design) (sym is) h.least.plan.least;
  },
)

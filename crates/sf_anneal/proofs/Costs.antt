-- What the root curve tells of the cost of an expression.
use Rattle.std.proofs.Common.{◌≡◌, ℕ, ◌+◌, ◌-◌, ◌*◌, ◌^◌, ◌≤◌, List, [], length, take, mul-le-mul, arith, refl, ap, sym, subst, ◌∙◌, Contains, Some, None, replicate}
use Rattle.sf_model.specs.Wire.{wire}
use Rattle.sf_place.proofs.ByNumber.{plan-legal, plan-placed, plan-wire}
use Rattle.sf_place.specs.Verdict.{AreLegal}
use Rattle.sf_anneal.proofs.Common.{IsNormal, take-length, All-contains, length-replicate, MAX, Design, Shape, Spot, cost, block_count, Tree, spots_of, Expr, Token, no_shape, with_leaves, length-with_leaves, once-of_normal, spelled-by, IsRootCurve, IsLeastArea, IsWithin, area_of, IsCost, IsTraced, whole_spans, AreParts, IsLaid, IsTaken, stretch}
use Rattle.sf_anneal.proofs.Joined.{IsRight}
use Rattle.sf_anneal.proofs.Rooted.{part-right, part-taken}
use Rattle.sf_anneal.proofs.Tracing.{choice-fits, choice-legal}

module _ (design : Design) (tokens : List Token) (normal : IsNormal (block_count design) tokens) (points : List Shape) (right : IsRight design tokens points) where
  -- an expression without points costs MAX
  pub costs-none : points ≡ [] → IsCost design tokens MAX
  costs-none e = (None, subst (λ ps. IsRootCurve design tokens (whole_spans design) ps) e right.root, refl)

  -- otherwise it costs what a plan of the least area does that takes its shapes as a trace does
  pub costs-plan : (p : Shape) (t : Tree) → IsLeastArea points p → IsTaken design tokens p t → IsCost design tokens (cost design t)
  costs-plan p t least taken =
      let n = block_count design in
      let once = once-of_normal n tokens t normal taken.choice.tokens in
      let expr : Expr = record { tokens = tokens; shapes = with_leaves (replicate n no_shape) t } in
      let traced : IsTraced design tokens expr (cost design t) = record {
        points = points;
        point = p;
        curve = right.root;
        least = least;
        trace = record {
          tree = t;
          spells = spelled-by n t expr (replicate n no_shape) once (length-replicate n no_shape) (sym taken.choice.tokens) refl;
          choice = taken.choice;
          size = taken.sized;
          takes = taken.takes;
        };
        one_each = length-with_leaves t (replicate n no_shape) ∙ length-replicate n no_shape;
        costs = refl;
      } in
      (Some (expr, cost design t), traced, refl)

-- what a plan of this size costs
pub plan-costs : (design : Design) (p : Shape) (t : Tree) (tokens : List Token) → IsTaken design tokens p t → cost design t ≡ design.weights.area * area_of p + design.weights.wire * wire design (spots_of t)
plan-costs design p t tokens taken = ap (λ s. design.weights.area * (s.w * s.h) + design.weights.wire * wire design (spots_of t)) taken.sized

-- the stretch of all tokens
stretch-all : (ts : List Token) (from : ℕ) → from ≡ 0 → stretch ts from (length ts) ≡ ts
stretch-all ts from e = let all : length ts - 0 ≡ length ts = omega arith in ap (λ v. stretch ts v (length ts)) e ∙ ap (λ n. take n ts) all ∙ take-length ts

module _ (design : Design) (tokens : List Token) (before : ℕ → ℕ) (curve : ℕ → List Shape) (parts : AreParts design tokens (length tokens) before curve) (normal : IsNormal (block_count design) tokens) (whole : before (length tokens) ≡ 0) where
  -- there is a token
  some-token : 1 ≤ length tokens
  some-token = omega (arith, normal.whole, design.limits.some_block)

  -- the curve of the last part is the root curve
  root-right : IsRight design tokens (curve (length tokens))
  root-right = subst (λ ts. IsRight design ts (curve (length tokens))) (stretch-all tokens (before (length tokens)) whole) (part-right design tokens (length tokens) before curve parts (omega arith) (length tokens) some-token (omega arith))

  -- what the area of a point weighs, within the limits
  pub rooms-most : (w a : ℕ) (p : Shape) → w ≡ design.weights.area → a ≡ area_of p → Contains (curve (length tokens)) p → w * a ≤ 2 ^ 16 * (2 ^ 20 * 2 ^ 20)
  rooms-most w a p weight area here =
      let fits = All-contains (IsWithin design.outline) (curve (length tokens)) p root-right.root.within here in
      let wide : p.w ≤ 2 ^ 20 = omega (arith, fits.0, design.limits.width.1) in
      let high : p.h ≤ 2 ^ 20 = omega (arith, fits.1, design.limits.height.1) in
      let few : p.w * p.h ≤ 2 ^ 20 * 2 ^ 20 = mul-le-mul wide high in
      let light : w ≤ 2 ^ 16 = omega (arith, weight, design.limits.area_weight) in
      let small : a ≤ 2 ^ 20 * 2 ^ 20 = omega (arith, area, few) in
      mul-le-mul light small

  -- without points
  pub root-none : curve (length tokens) ≡ [] → IsCost design tokens MAX
  root-none e = costs-none design tokens normal (curve (length tokens)) root-right e

  -- where wires don't count
  pub root-flat : (p : Shape) → IsLeastArea (curve (length tokens)) p → design.weights.wire ≡ 0 → IsCost design tokens (design.weights.area * area_of p)
  root-flat p least none =
      let t = part-taken design tokens (length tokens) before curve parts (omega arith) (length tokens) p some-token (omega arith) least.found in
      let taken = subst (λ ts. IsTaken design ts p t.0) (stretch-all tokens (before (length tokens)) whole) t.1 in
      let free : design.weights.area * area_of p + design.weights.wire * wire design (spots_of t.0) ≡ design.weights.area * area_of p =
      ap (λ w. design.weights.area * area_of p + w * wire design (spots_of t.0)) none ∙ omega arith in
      subst (IsCost design tokens) (plan-costs design p t.0 tokens taken ∙ free) (costs-plan design tokens normal (curve (length tokens)) root-right p t.0 least taken)

  -- what is laid is legal, and its wires tell the cost
  pub record IsPriced (p : Shape) (spots : List Spot) : Type 0 where
    pub legal : AreLegal design spots
    pub costs : (w : ℕ) → w ≡ wire design spots → IsCost design tokens (design.weights.area * area_of p + design.weights.wire * w)

  pub root-priced : (p : Shape) (old new : List Spot) → IsLeastArea (curve (length tokens)) p → length old ≡ block_count design → IsLaid design (stretch tokens (before (length tokens)) (length tokens)) p 0 0 old new → IsPriced p new
  root-priced p old new least room laid =
      let n = block_count design in
      let taken = subst (λ ts. IsTaken design ts p laid.plan) (stretch-all tokens (before (length tokens)) whole) laid.taken in
      let once = once-of_normal n tokens laid.plan normal taken.choice.tokens in
      let legal = choice-legal design tokens laid.plan normal taken.choice in
      let fits = choice-fits design tokens (curve (length tokens)) p laid.plan root-right.root least.found taken.sized in
      let placed = laid.placed ∙ plan-placed n laid.plan once old room in
      record {
        legal = subst (AreLegal design) (sym placed) (plan-legal design laid.plan legal fits);
        costs = λ w e.
            let wires : w ≡ wire design (spots_of laid.plan) = e ∙ ap (wire design) placed ∙ plan-wire n laid.plan once design in
            subst (IsCost design tokens) (plan-costs design p laid.plan tokens taken ∙ ap (λ v. design.weights.area * area_of p + design.weights.wire * v) (sym wires))
            (costs-plan design tokens normal (curve (length tokens)) root-right p laid.plan least taken);
      }

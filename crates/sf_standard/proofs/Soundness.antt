-- The standard bound is sound.
use Rattle.std.proofs.Common.{◌≡◌, ◌+◌, ◌*◌, ◌≤◌, [], ◌∷◌, map, length, arith, ap, sym, subst, ◌∙◌, true, if◌then◌else◌}
use Rattle.sf_standard.proofs.Common.{nat_lt, list_any, mul-le-mul, mul-le-mul_left, cond_both, ltb-true, true≢false, Design, MAX, cost, Fits, block_count, Tree, Parts, Belongs, is_solved, subproblem-spans, items_of, fitting, item_of, area, least_cost, has_none, area_part, full_part, plans_of, open_value, standard, own_floor, IsSound, solved-complete}
use Rattle.sf_standard.proofs.Grown.{part-self}
use Rattle.sf_standard.proofs.Cutting.{cut, part-fitting, least_of-le, needed-area, none-empty}
use Rattle.sf_standard.proofs.PathWires.{full-le}

-- the value from area and wires is no more than what a plan of the subproblem costs
pub bounded-le : (design : Design) (node : Parts) (tree : Tree) → length node.spans ≡ block_count design → Belongs design node tree → Fits design.outline tree → open_value design node ≤ cost design tree
bounded-le design node tree spans belongs fit =
    let plans = plans_of design node in
    let part : area_part design plans ≤ area tree = omega (arith, needed-area design node tree spans belongs fit, own_floor design tree belongs.legal fit) in
    let total : design.weights.area * area_part design plans + design.weights.wire * full_part design node ≤ cost design tree =
    omega (arith, mul-le-mul_left design.weights.area part, mul-le-mul_left design.weights.wire (full-le design node tree spans belongs fit)) in
    cond_both (list_any has_none plans) MAX (if nat_lt (design.outline.w * design.outline.h) (area_part design plans) then MAX else (design.weights.area * area_part design plans + design.weights.wire * full_part design node)) (λ v. v ≤ cost design tree)
    (λ e. absurd (true≢false (sym e ∙ none-empty design node tree spans belongs fit)))
    (λ _. cond_both (nat_lt (design.outline.w * design.outline.h) (area_part design plans)) MAX (design.weights.area * area_part design plans + design.weights.wire * full_part design node) (λ v. v ≤ cost design tree)
    (λ e. absurd (omega (arith, ltb-true (design.outline.w * design.outline.h) (area_part design plans) e, part, mul-le-mul fit.0 fit.1)))
    (λ _. total))

-- its one item is that of each plan that belongs to it
pub solved-items : (design : Design) (node : Parts) (tree : Tree) → length node.spans ≡ block_count design → Belongs design node tree → is_solved design node ≡ true → items_of node ≡ item_of tree ∷ []
solved-items design node tree spans belongs solved =
    let k = cut design node tree spans belongs in
    k.items ∙ ap (map item_of) (k.whole (solved-complete design node solved))

-- the least cost of a solved subproblem is no more than that of each such plan
least_cost-le : (design : Design) (node : Parts) (tree : Tree) → length node.spans ≡ block_count design → Belongs design node tree → Fits design.outline tree → is_solved design node ≡ true → least_cost design node (items_of node) ≤ cost design tree
least_cost-le design node tree spans belongs fit solved =
    subst (λ v. least_cost design node v ≤ cost design tree) (sym (solved-items design node tree spans belongs solved))
    (least_of-le (cost design) (fitting design node (item_of tree)) tree (part-fitting design node tree belongs fit tree (part-self tree)))

-- no plan that belongs to a subproblem and fits costs less than its bound
pub standard_is_sound : (design : Design) → IsSound design (standard design)
standard_is_sound design node sub tree belongs fit =
    let spans = subproblem-spans design node sub in
    cond_both (is_solved design node) (least_cost design node (items_of node)) (open_value design node) (λ v. v ≤ cost design tree)
    (λ solved. least_cost-le design node tree spans belongs fit solved)
    (λ _. bounded-le design node tree spans belongs fit)

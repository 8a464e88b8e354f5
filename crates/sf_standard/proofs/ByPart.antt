-- The standard bound is its value from area and wires; no part of it is above it, and where wires cost nothing each part is the bound.
use Rattle.std.proofs.Common.{◌≡◌, ℕ, ◌+◌, ◌*◌, ◌^◌, ◌<◌, ◌≤◌, max, List, [], ◌∷◌, length, arith, refl, ap, sym, subst, ◌∙◌, inl, inr, Bool, true, false, if◌then◌else◌}
use Rattle.sf_standard.proofs.Common.{Contains, sum_by, nat_lt, list_any, mul-le-mul, mul-le-mul_left, cases_lt, cond_both, cond-true, cond-false, ltb-false, sum_by-cons, Design, Net, Pin, MAX, cost, Tree, width, height, spots_of, wire, IsSubproblem, Parts, is_complete, is_solved, subproblem-spans, Contains-head, Item, items_of, fitting, range_part, pair_part, hull_part, extent_in, area, least_of, least_cost, has_none, area_part, pins_part, weighed_part, wire_part, full_part, pins_by, nets_by, wires_by, plans_of, bounded, open_value, standard, part_value, AllHavePlans, cost-below, no_paths, path_wires, solved-complete, solved_single}
use Rattle.sf_node.specs.declared.part.Part.{Part}
use Rattle.sf_node.specs.declared.part.Part.TheVariants as by
use Rattle.sf_node.specs.ByPart.{ArePartsOf}
use Rattle.sf_standard.proofs.Cutting.{least_of-le}
use Rattle.sf_standard.proofs.Exact.{IsWholeItem, whole-item, fitting-belongs, least_of-reached, standard_is_exact}
use Rattle.sf_standard.proofs.Listed.{each-from, sum_by-le_each}
use Rattle.sf_standard.proofs.Shortness.{full-short}
use Rattle.sf_standard.proofs.Singles.{no-plan, first-needed, single_spans_are_open}
use Rattle.sf_standard.proofs.PathWires.{no-pull}
use Rattle.sf_standard.proofs.Soundness.{bounded-le}

-- what stands in the other branch is no more
branch-le : (t : Bool) (x y z : ℕ) → y ≤ z → (if t then x else y) ≤ (if t then x else z)
branch-le true x y z le = omega arith
branch-le false x y z le = le

-- more wires cost no less
bounded-more : (design : Design) (plans : List (List Tree)) (v w : ℕ) → v ≤ w → bounded design v plans ≤ bounded design w plans
bounded-more design plans v w le =
    let a = design.weights.area * area_part design plans in
    let x = design.weights.wire * v in
    let y = design.weights.wire * w in
    let lt = nat_lt (design.outline.w * design.outline.h) (area_part design plans) in
    branch-le (list_any has_none plans) MAX (if lt then MAX else (a + x)) (if lt then MAX else (a + y))
    (branch-le lt MAX (a + x) (a + y) (omega (arith, mul-le-mul_left design.weights.wire le)))

-- where wires cost nothing, any cost the same
no-wires : (design : Design) (w : ℕ) → design.weights.wire ≡ 0 → design.weights.wire * w ≡ 0
no-wires design w free = omega (arith, ap (λ n. n * w) free)

-- where wires cost nothing, their length does not matter
bounded-free : (design : Design) (plans : List (List Tree)) (v w : ℕ) → design.weights.wire ≡ 0 → bounded design v plans ≡ bounded design w plans
bounded-free design plans v w free =
    ap (λ n. if list_any has_none plans then MAX else (if nat_lt (design.outline.w * design.outline.h) (area_part design plans) then MAX else (design.weights.area * area_part design plans + n)))
    (no-wires design v free ∙ sym (no-wires design w free))

-- the greatest of the three parts of the wire of a net
abbrev pins_most : Design → Parts → List Pin → ℕ
pins_most design node pins =
    let extent = extent_in design node in
    max (range_part design extent pins) (max (pair_part extent pins) (hull_part design extent (is_complete node) (items_of node) pins))

-- no part of the wire of a net is above all of it
pins-le : (design : Design) (node : Parts) (pins : List Pin) (part : Part) → pins_by design node pins part ≤ pins_part design node pins
pins-le design node pins by.Area = omega arith
pins-le design node pins by.Range = branch-le (nat_lt (length pins) 2) 0 (range_part design (extent_in design node) pins) (pins_most design node pins) (omega arith)
pins-le design node pins by.Pair = branch-le (nat_lt (length pins) 2) 0 (pair_part (extent_in design node) pins) (pins_most design node pins) (omega arith)
pins-le design node pins by.Hull = branch-le (nat_lt (length pins) 2) 0 (hull_part design (extent_in design node) (is_complete node) (items_of node) pins) (pins_most design node pins) (omega arith)
pins-le design node pins by.Full = omega arith

-- no part of the wires of all nets is above all of them
nets-most : (design : Design) (node : Parts) (part : Part) → nets_by design node part ≤ wire_part design node
nets-most design node part =
    sum_by-le_each (λ net. net.weight * pins_by design node net.pins part) (weighed_part design node) design.nets
    (each-from (λ net. net.weight * pins_by design node net.pins part ≤ weighed_part design node net) design.nets (λ net _. mul-le-mul_left net.weight (pins-le design node net.pins part)))

-- nor above what the wires are at least, paths or not
pub wires-le : (design : Design) (node : Parts) (part : Part) → wires_by design node part ≤ full_part design node
wires-le design node by.Area = omega (arith, nets-most design node by.Area)
wires-le design node by.Range = omega (arith, nets-most design node by.Range)
wires-le design node by.Pair = omega (arith, nets-most design node by.Pair)
wires-le design node by.Hull = omega (arith, nets-most design node by.Hull)
wires-le design node by.Full = omega arith

-- where each group has a plan, no part of the wires reaches 2^47
pub wires-small : (design : Design) (node : Parts) (part : Part) → AllHavePlans design node → wires_by design node part < 2 ^ 47
wires-small design node part have = omega (arith, wires-le design node part, full-short design node have)

-- areas know no wires
no-areas : (design : Design) (node : Parts) (nets : List Net) → sum_by (λ net. net.weight * pins_by design node net.pins by.Area) nets ≡ 0
no-areas design node [] = refl
no-areas design node (net ∷ nets) = omega (arith, sum_by-cons (λ net. net.weight * pins_by design node net.pins by.Area) net nets, no-areas design node nets)

-- the part by areas has no wire at all
pub areas-free : (design : Design) (node : Parts) → wires_by design node by.Area ≡ 0
areas-free design node = no-areas design node design.nets

-- the value from area and wires is no more than the mark of no cost
open-most : (design : Design) (node : Parts) → open_value design node ≤ MAX
open-most design node =
    let plans = plans_of design node in
    let a = area_part design plans in
    let total = design.weights.area * a + design.weights.wire * full_part design node in
    let lt = nat_lt (design.outline.w * design.outline.h) a in
    cond_both (list_any has_none plans) MAX (if lt then MAX else total) (λ v. v ≤ MAX)
    (λ _. omega arith)
    (λ some. cond_both lt MAX total (λ v. v ≤ MAX)
    (λ _. omega arith)
    (λ has_room. (let room : design.outline.w * design.outline.h ≤ 2 ^ 20 * 2 ^ 20 = mul-le-mul design.limits.width.1 design.limits.height.1 in
    let small : a ≤ 2 ^ 40 = omega (arith, room, ltb-false (design.outline.w * design.outline.h) a has_room) in
    let area_weight : design.weights.area ≤ 65535 = omega (arith, design.limits.area_weight) in
    let wire_weight : design.weights.wire ≤ 65535 = omega (arith, design.limits.wire_weight) in
    let short : full_part design node ≤ 2 ^ 47 = omega (arith, full-short design node some) in
    let areas : design.weights.area * a ≤ 65535 * 2 ^ 40 = mul-le-mul area_weight small in
    let wires : design.weights.wire * full_part design node ≤ 65535 * 2 ^ 47 = mul-le-mul wire_weight short in
    omega (arith, areas, wires))))

-- the value from area and wires is no more than the bound
open-below : (design : Design) (node : Parts) → IsSubproblem design node → open_value design node ≤ standard design node
open-below design node sub = by-end (is_solved design node) refl
  where
    by-end : (t : Bool) → is_solved design node ≡ t → open_value design node ≤ standard design node
    by-end true e =
        elim (standard_is_exact design node sub e).reached [
          | inl none ↦ omega (arith, none, open-most design node)
          | inr k ↦ omega (arith, k.costs, bounded-le design node k.tree (subproblem-spans design node sub) k.belongs k.fits)
        ]
    by-end false e = omega (arith, cond-false (is_solved design node) (least_cost design node (items_of node)) (open_value design node) e)

-- the value with one part of the wires is no more than the bound
below : (design : Design) (node : Parts) (part : Part) → IsSubproblem design node → bounded design (wires_by design node part) (plans_of design node) ≤ standard design node
below design node part sub = omega (arith, bounded-more design (plans_of design node) (wires_by design node part) (full_part design node) (wires-le design node part), open-below design node sub)

-- no part of the bound is above it
part-below : (design : Design) (node : Parts) (part : Part) → IsSubproblem design node → part_value design node part ≤ standard design node
part-below design node by.Area sub = below design node by.Area sub
part-below design node by.Range sub = below design node by.Range sub
part-below design node by.Pair sub = below design node by.Pair sub
part-below design node by.Hull sub = below design node by.Hull sub
part-below design node by.Full sub = omega arith

-- so the parts are those of the bound: none is above it, and the full one is it
pub parts_are_below : (design : Design) → ArePartsOf design (standard design) (part_value design)
parts_are_below design = record { below = part-below design; full = λ node. refl }

module _ (design : Design) (node : Parts) (free : design.weights.wire ≡ 0) (sub : IsSubproblem design node) where
  module _ (solved : is_solved design node ≡ true) where
    -- the one item of a complete subproblem
    whole : (i : Item) × IsWholeItem node i
    whole = whole-item design node sub (solved-complete design node solved)

    -- a plan of the least area is no dearer than the area that is needed
    least-le : (t : Tree) → Contains (fitting design node whole.0) t → least_of (cost design) (fitting design node whole.0) ≤ design.weights.area * area_part design (plans_of design node) + design.weights.wire * full_part design node
    least-le t here =
        elim (least_of-reached area (fitting design node whole.0)) [
          | inl none ↦ (let fit = (fitting-belongs design node whole.0 t sub (solved-complete design node solved) whole.1 here).1 in
              let w : width t ≤ 2 ^ 20 = omega (arith, fit.0, design.limits.width.1) in
              let h : height t ≤ 2 ^ 20 = omega (arith, fit.1, design.limits.height.1) in
              let room : area t ≤ 2 ^ 20 * 2 ^ 20 = mul-le-mul w h in
              absurd (omega (arith, none, room, least_of-le area (fitting design node whole.0) t here)))
          | inr k ↦ (let areas : design.weights.area * area k.0 ≤ design.weights.area * area_part design (plans_of design node) = mul-le-mul_left design.weights.area (omega (arith, k.2, first-needed design node whole.0 whole.1.items)) in
              let wires : design.weights.wire * wire design (spots_of k.0) ≡ 0 = no-wires design (wire design (spots_of k.0)) free in
              omega (arith, areas, wires, least_of-le (cost design) (fitting design node whole.0) k.0 k.1))
        ]

    -- the least cost of its plans is at most the value of an open subproblem, whether one fits or not
    by-plans : (ts : List Tree) → fitting design node whole.0 ≡ ts → least_of (cost design) (fitting design node whole.0) ≤ open_value design node
    by-plans [] e = omega (arith, no-plan design node whole.0 whole.1.items e, ap (least_of (cost design)) e)
    by-plans (t ∷ ts) e =
        let plans = plans_of design node in
        let total = design.weights.area * area_part design plans + design.weights.wire * full_part design node in
        let lt = nat_lt (design.outline.w * design.outline.h) (area_part design plans) in
        let here : Contains (fitting design node whole.0) t = subst (λ v. Contains v t) (sym e) (Contains-head t ts) in
        let fit = (fitting-belongs design node whole.0 t sub (solved-complete design node solved) whole.1 here).1 in
        let most : least_of (cost design) (fitting design node whole.0) ≤ MAX = omega (arith, cost-below design t fit, least_of-le (cost design) (fitting design node whole.0) t here) in
        cond_both (list_any has_none plans) MAX (if lt then MAX else total) (λ v. least_of (cost design) (fitting design node whole.0) ≤ v)
        (λ _. most)
        (λ _. cond_both lt MAX total (λ v. least_of (cost design) (fitting design node whole.0) ≤ v) (λ _. most) (λ _. least-le t here))

  -- the bound is no more than the value from the area
  standard-le : standard design node ≤ open_value design node
  standard-le = by-end (is_solved design node) refl
    where
      by-end : (t : Bool) → is_solved design node ≡ t → standard design node ≤ open_value design node
      by-end true e =
          omega (
            arith,
            cond-true (is_solved design node) (least_cost design node (items_of node)) (open_value design node) e,
            ap (least_cost design node) (whole e).1.items,
            by-plans e (fitting design node (whole e).0) refl,
          )
      by-end false e = omega (arith, cond-false (is_solved design node) (least_cost design node (items_of node)) (open_value design node) e)

  -- where wires cost nothing, the value with any part of the wires is the bound
  all-same : (part : Part) → bounded design (wires_by design node part) (plans_of design node) ≡ standard design node
  all-same part =
      bounded-free design (plans_of design node) (wires_by design node part) (full_part design node) free
      ∙ omega (arith, standard-le, open-below design node sub)

-- then each part of the bound is the bound
pub areas_are_all : (design : Design) (node : Parts) (part : Part) → design.weights.wire ≡ 0 → IsSubproblem design node → part_value design node part ≡ standard design node
areas_are_all design node by.Area free sub = all-same design node free sub by.Area
areas_are_all design node by.Range free sub = all-same design node free sub by.Range
areas_are_all design node by.Pair free sub = all-same design node free sub by.Pair
areas_are_all design node by.Hull free sub = all-same design node free sub by.Hull
areas_are_all design node by.Full free sub = refl

-- the bound is the value from area and wires
pub standard_is_open : (design : Design) (node : Parts) → IsSubproblem design node → standard design node ≡ open_value design node
standard_is_open design node sub =
    elim (cases_lt 0 design.weights.wire) [
      | inl wires ↦ cond_both (is_solved design node) (least_cost design node (items_of node)) (open_value design node) (λ v. v ≡ open_value design node)
          (λ solved. sym (cond-true (is_solved design node) (least_cost design node (items_of node)) (open_value design node) solved)
          ∙ single_spans_are_open design node sub (solved-complete design node solved) (solved_single design node solved wires))
          (λ _. refl)
      | inr free ↦ (let none : design.weights.wire ≡ 0 = omega (arith, free) in
          omega (arith, standard-le design node none sub, open-below design node sub))
    ]

-- it is nowhere below its value from the nets alone
pub nets-below : (design : Design) (node : Parts) → IsSubproblem design node → bounded design (wire_part design node) (plans_of design node) ≤ standard design node
nets-below design node sub = omega (arith, bounded-more design (plans_of design node) (wire_part design node) (full_part design node) (omega arith), open-below design node sub)

-- and without paths it is that value
pub without-paths : (design : Design) (node : Parts) → IsSubproblem design node → design.routes.paths ≡ no_paths → standard design node ≡ bounded design (wire_part design node) (plans_of design node)
without-paths design node sub none =
    let no_wires : design.routes.wires ≡ 0 = design.routed.wires_are ∙ ap (path_wires design.pads) none in
    standard_is_open design node sub ∙ ap (λ w. bounded design w (plans_of design node)) (no-pull design node no_wires)

-- The ends of paths, with what the paths leave of the nets, are no further apart than the wires of a plan are long.
use Rattle.std.proofs.Common.{◌≡◌, ℕ, ◌+◌, ◌-◌, ◌*◌, ◌≤◌, max, List, [], ◌∷◌, map, length, arith, refl, ap, ◌∙◌, IsTrue, ◌-ℤ◌, ◌≤ℤ◌}
use Rattle.sf_standard.proofs.Common.{sum_by, zip, ℤ, pos, mul-le-mul_left, mul-le-mul_right, AllByRecursion, ints, recursion_from_All, sum_by-append, sum_by-cons, Design, Net, Pin, Spot, Fits, block_count, IsPinSet, Tree, spots_of, spread, pin_x, pin_y, net_wire, weighed_wire, wire, each-weaker, Parts, Belongs, net_part, wire_part, rest_part, full_part, mul-add, add-mul, Walks, Spare, axis-spare, by_number, exchange, has_pin-Contains, paths-nets, steps_of, to_nat-le, ArePathsOfAxis, IsHop, IsPath, end_of, hops, is_pad, last_of, left_from, net_in, pad_x, pad_y, pull, uses, Pad, Path, Paths}
use Rattle.sf_model.specs.declared.parts.Pin.TheVariants as pin
use Rattle.sf_model.specs.declared.paths.Step.{Step}
use Rattle.sf_standard.proofs.Gaps.{apart-le-spread}
use Rattle.sf_standard.proofs.Listed.{Contains-map}
use Rattle.sf_standard.proofs.NetWires.{nets-le, net_part-le}

-- how far the pins of a net are apart on an axis
abbrev extent : (Pin → ℤ) → Net → ℕ
extent at net = spread (map at net.pins)

-- the extents of the nets that steps use, step by step
abbrev walked : (Pin → ℤ) → List Net → List Step → ℕ
walked at nets ss = sum_by (λ (s : Step). extent at (net_in nets s.net)) ss

-- along a walk the extents are together at least as long as its ends are apart
walk-le : (at : Pin → ℤ) (nets : List Net) (p : Pin) (ss : List Step) → Walks nets p ss → (at (last_of p ss) -ℤ at p) ≤ℤ pos (walked at nets ss)
walk-le at nets p [] w = omega (arith, ints)
walk-le at nets p (s ∷ ss) w =
    let pins = (net_in nets s.net).pins in
    let before = Contains-map at pins p (has_pin-Contains pins p w.0.before) in
    let behind = Contains-map at pins s.to (has_pin-Contains pins s.to w.0.behind) in
    omega (arith, ints, apart-le-spread (map at pins) (at s.to) (at p) behind before, walk-le at nets s.to ss w.1, sum_by-cons (λ (t : Step). extent at (net_in nets t.net)) s ss)

module _ (pads : List Pad) (nets : List Net) (at place : Pin → ℤ) (same : (p : Pin) → IsTrue (is_pad pads p) → place p ≡ at p) where
  -- a path pulls no more than the nets that it uses are wide
  path-le : (path : Path) → IsPath place pads nets path → pull place path ≤ walked at nets path.steps
  path-le path h =
      to_nat-le (place (end_of path) -ℤ place path.first) (walked at nets path.steps)
      (omega (arith, ints, walk-le at nets path.first path.steps (recursion_from_All (IsHop nets) (hops path) h.walked), same path.first h.first, same (end_of path) h.last))

  -- nor do all paths together
  walks-le : (paths : List Path) → AllByRecursion (IsPath place pads nets) paths → sum_by (pull place) paths ≤ walked at nets (steps_of paths)
  walks-le [] h = omega arith
  walks-le (path ∷ paths) h =
      omega (arith, path-le path h.0, walks-le paths h.1, sum_by-cons (pull place) path paths, sum_by-append (λ (s : Step). extent at (net_in nets s.net)) path.steps (steps_of paths))

  -- net by net
  paths-le : (paths : List Path) → ArePathsOfAxis place pads nets paths → sum_by (pull place) paths ≤ by_number (λ i net. uses i paths * extent at net) 0 nets
  paths-le paths h =
      let each = recursion_from_All (IsPath place pads nets) paths h.each in
      omega (arith, walks-le paths each, exchange (extent at) nets (steps_of paths) (paths-nets place pads nets paths each))

-- a net's wire is what paths use of it and what is left
net-le : (w a b x y part : ℕ) → a ≤ w → b ≤ w → part ≤ x + y → a * x + b * y + (w - max a b) * part ≤ w * (x + y)
net-le w a b x y part ha hb hp =
    let u = w - max a b in
    let p = max a b - a in
    let q = max a b - b in
    let wx : w ≡ a + p + u = omega arith in
    let wy : w ≡ b + q + u = omega arith in
    let ex : w * x ≡ a * x + p * x + u * x = ap (λ v. v * x) wx ∙ add-mul (a + p) u x ∙ ap (λ v. v + u * x) (add-mul a p x) in
    let ey : w * y ≡ b * y + q * y + u * y = ap (λ v. v * y) wy ∙ add-mul (b + q) u y ∙ ap (λ v. v + u * y) (add-mul b q y) in
    omega (arith, ex, ey, mul-add w x y, mul-add u x y, mul-le-mul_left u hp)

-- what each axis uses of each net, and what is left of it, is no more than the wires
nets-use : (design : Design) (spots : List Spot) (part : Net → ℕ) (paths : Paths) (i : ℕ) (nets : List Net) → Spare paths.across i nets → Spare paths.upward i nets → AllByRecursion (λ net. part net ≤ net_wire design spots net) nets
    → by_number (λ j net. uses j paths.across * extent (pin_x design spots) net) i nets + by_number (λ j net. uses j paths.upward * extent (pin_y design spots) net) i nets
    + sum_by (λ n. n.0 * part n.1) (zip (left_from i paths nets) nets) ≤ sum_by (weighed_wire design spots) nets
nets-use design spots part paths i [] a u h = omega arith
nets-use design spots part paths i (net ∷ nets) a u h =
    let left = net.weight - max (uses i paths.across) (uses i paths.upward) in
    omega (
      arith,
      net-le net.weight (uses i paths.across) (uses i paths.upward) (extent (pin_x design spots) net) (extent (pin_y design spots) net) (part net) a.0 u.0 h.0,
      nets-use design spots part paths (i + 1) nets a.1 u.1 h.1,
      sum_by-cons (weighed_wire design spots) net nets,
      sum_by-cons (λ (n : ℕ × Net). n.0 * part n.1) (left, net) (zip (left_from (i + 1) paths nets) nets),
    )

-- a pad's pin is its point
at-pad_x : (design : Design) (spots : List Spot) (p : Pin) → IsTrue (is_pad design.pads p) → pad_x design.pads p ≡ pin_x design spots p
at-pad_x design spots (pin.Block b) h = cc
at-pad_x design spots (pin.Pad p) h = refl

-- upward too
at-pad_y : (design : Design) (spots : List Spot) (p : Pin) → IsTrue (is_pad design.pads p) → pad_y design.pads p ≡ pin_y design spots p
at-pad_y design spots (pin.Block b) h = cc
at-pad_y design spots (pin.Pad p) h = refl

module _ (design : Design) (node : Parts) (tree : Tree) (spans : length node.spans ≡ block_count design) (belongs : Belongs design node tree) (fit : Fits design.outline tree) where
  -- the ends of the paths and what is left of the nets
  routes-le : design.routes.wires + rest_part design node ≤ wire design (spots_of tree)
  routes-le =
      let spots = spots_of tree in
      let paths = design.routes.paths in
      let legal = design.routed.legal in
      let left : rest_part design node ≡ sum_by (λ n. n.0 * net_part design node n.1) (zip (left_from 0 paths design.nets) design.nets) =
      ap (λ l. sum_by (λ n. n.0 * net_part design node n.1) (zip l design.nets)) design.routed.left_is in
      omega (
        arith,
        left,
        design.routed.wires_are,
        paths-le design.pads design.nets (pin_x design spots) (pad_x design.pads) (at-pad_x design spots) paths.across legal.across,
        paths-le design.pads design.nets (pin_y design spots) (pad_y design.pads) (at-pad_y design spots) paths.upward legal.upward,
        nets-use design spots (net_part design node) paths 0 design.nets (axis-spare (pad_x design.pads) design.pads design.nets paths.across legal.across) (axis-spare (pad_y design.pads) design.pads design.nets paths.upward legal.upward)
            (each-weaker (λ net. IsPinSet (block_count design) (length design.pads) net.pins) (λ net. net_part design node net ≤ net_wire design spots net) (net_part-le design node tree spans belongs fit) design.nets
            (recursion_from_All (λ net. IsPinSet (block_count design) (length design.pads) net.pins) design.nets design.limits.pins)),
      )

  -- what the wires are taken to be at least, by nets or by paths, is no more than the wire of the plan
  pub full-le : full_part design node ≤ wire design (spots_of tree)
  full-le = omega (arith, routes-le, nets-le design node tree spans belongs fit)

-- Without paths.

-- what paths leave is no more than the nets have
rests-le : (part : Net → ℕ) (paths : Paths) (i : ℕ) (nets : List Net) → sum_by (λ n. n.0 * part n.1) (zip (left_from i paths nets) nets) ≤ sum_by (λ net. net.weight * part net) nets
rests-le part paths i [] = omega arith
rests-le part paths i (net ∷ nets) =
    let left = net.weight - max (uses i paths.across) (uses i paths.upward) in
    omega (
      arith,
      mul-le-mul_right (part net) (fewer net.weight (max (uses i paths.across) (uses i paths.upward))),
      rests-le part paths (i + 1) nets,
      sum_by-cons (λ (n : ℕ × Net). n.0 * part n.1) (left, net) (zip (left_from (i + 1) paths nets) nets),
      sum_by-cons (λ (n : Net). n.weight * part n) net nets,
    )
  where
    fewer : (w m : ℕ) → w - m ≤ w
    fewer w m = omega arith

-- so where the ends of paths lie nowhere apart, the nets alone count
pub no-pull : (design : Design) (node : Parts) → design.routes.wires ≡ 0 → full_part design node ≡ wire_part design node
no-pull design node none =
    let left : rest_part design node ≡ sum_by (λ n. n.0 * net_part design node n.1) (zip (left_from 0 design.routes.paths design.nets) design.nets) =
    ap (λ l. sum_by (λ n. n.0 * net_part design node n.1) (zip l design.nets)) design.routed.left_is in
    omega (arith, none, left, rests-le (net_part design node) design.routes.paths 0 design.nets)

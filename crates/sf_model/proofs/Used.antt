-- Paths: what they use of the nets, and how far their ends are apart.
use Rattle.std.proofs.Common.{◌≡◌, ℕ, suc, ◌+◌, ◌-◌, ◌*◌, ◌<◌, ◌≤◌, ◌^◌, max, min, Bool, true, false, List, [], ◌∷◌, ◌++◌, map, length, take, drop, get_or, arith, refl, ap, sym, subst, inl, inr, ◌∙◌, cond, ◌↔◌, ◌==◌, ◌&&◌, not, IsTrue, ◌-ℤ◌, ◌≤ℤ◌, zip, ◌||◌, neg_ℤ, negsuc}
use Rattle.sf_model.proofs.Common.{zero, All, AllByRecursion, Contains, recursion_from_All, All-push, nat_tests, ints, cond-true, sum_by, sum_by-cons, count_by, flat_map, take_more, take_all, ℤ, pos, ⊤, Design, Net, Pad, Pin, IsCoordinate, list_all, add-mul, and_from, cases_lt, eq-eqb, eqb-true, ext_get_or, get_or-map, get_or-take, length-take-le, sum_by-append, flat_map-append, AreLegal, ArePathsOfAxis, AreRoutes, IsFirstWrong, IsHop, IsPath, all_lead, end_of, has_pin, hops, is_pad, is_pin, last_of, leads, left_from, names_pad, net_in, no_paths, pad_x, pad_y, pull, reach_pad, to_nat, uses, place_on, IsFirstWrongOfAxis, Path, Paths, Routes, Step}
use Rattle.sf_model.proofs.Each.{each-append}
use Rattle.sf_model.proofs.Walks.{drop_step}
use Rattle.sf_model.specs.declared.parts.Pin.TheVariants as pin
use Rattle.sf_model.specs.declared.paths.PathFault.{PathFault}
use Rattle.sf_model.specs.declared.paths.PathFault.TheVariants.{BadPath, NoMemory}
use Rattle.sf_model.specs.declared.routing.Axis.{Axis}
use Rattle.sf_model.specs.declared.routing.Axis.TheVariants.{Across, Upward}

-- Pins.

-- a pin that passes the test is the same
is_pin-is : (p q : Pin) → is_pin p q ≡ true → p ≡ q
is_pin-is (pin.Block b) (pin.Block c) e = ap pin.Block (eqb-true b c e)
is_pin-is (pin.Pad b) (pin.Pad c) e = ap pin.Pad (eqb-true b c e)
is_pin-is (pin.Block b) (pin.Pad c) e = cc
is_pin-is (pin.Pad b) (pin.Block c) e = cc

-- a pin that is among some pins is one of them
pub has_pin-Contains : (pins : List Pin) (p : Pin) → IsTrue (has_pin pins p) → Contains pins p
has_pin-Contains [] p h = cc
has_pin-Contains (q ∷ qs) p h = cases (has_pin-Contains qs p) (is_pin p q) refl
  where
    cases : (IsTrue (has_pin qs p) → Contains qs p) → (t : Bool) → is_pin p q ≡ t → Contains (q ∷ qs) p
    cases later true e = (0, omega arith, sym (is_pin-is p q e))
    cases later false e =
        let c = later (subst (λ t. IsTrue (t || has_pin qs p)) e h) in
        (suc c.0, omega (arith, c.1), c.2)

-- Walks.

-- each step goes by a net that has the pin before it and the pin behind it
abbrev pub Walks : List Net → Pin → List Step → Type 0
Walks nets p ss = AllByRecursion (IsHop nets) (zip (p ∷ map (λ s. s.to) ss) ss)

-- Sums net by net.

-- a number of each net and its place, from the number i on, added up
abbrev pub by_number : (ℕ → Net → ℕ) → ℕ → List Net → ℕ
by_number f i [] = 0
by_number f i (net ∷ nets) = f i net + by_number f (i + 1) nets

-- sums over nets are added net by net
by_number-add : (f g h : ℕ → Net → ℕ) → ((i : ℕ) (net : Net) → f i net + g i net ≤ h i net) → (i : ℕ) (nets : List Net) → by_number f i nets + by_number g i nets ≤ by_number h i nets
by_number-add f g h le i [] = omega arith
by_number-add f g h le i (net ∷ nets) = omega (arith, le i net, by_number-add f g h le (i + 1) nets)

-- one net's number is no more than the sum
by_number-one : (f : ℕ → Net → ℕ) (i : ℕ) (nets : List Net) (k : ℕ) → k < length nets → f (i + k) (net_in nets k) ≤ by_number f i nets
by_number-one f i [] k lt = absurd (omega arith)
by_number-one f i (net ∷ nets) zero lt =
    let e : i + 0 ≡ i = omega arith in
    let v : f (i + 0) net ≤ f i net = subst (λ j. f j net ≤ f i net) (sym e) (omega arith) in
    omega (arith, v)
by_number-one f i (net ∷ nets) (suc k) lt =
    let e : i + suc k ≡ i + 1 + k = omega arith in
    let v : f (i + suc k) (net_in nets k) ≤ by_number f (i + 1) nets = subst (λ j. f j (net_in nets k) ≤ by_number f (i + 1) nets) (sym e) (by_number-one f (i + 1) nets k (omega arith)) in
    omega (arith, v)

-- all steps of the paths
abbrev pub steps_of : List Path → List Step
steps_of paths = flat_map (λ (path : Path). path.steps) paths

-- each step's net is one of these
abbrev pub AreNets : List Net → List Step → Type 0
AreNets nets ss = AllByRecursion (λ s. s.net < length nets) ss

-- the nets of a walk are there
walk-nets : (nets : List Net) (p : Pin) (ss : List Step) → Walks nets p ss → AreNets nets ss
walk-nets nets p [] w = tt
walk-nets nets p (s ∷ ss) w = (w.0.there, walk-nets nets s.to ss w.1)

-- those of a path's steps
pub path-nets : (at : Pin → ℤ) (pads : List Pad) (nets : List Net) (path : Path) → IsPath at pads nets path → AreNets nets path.steps
path-nets at pads nets path h = walk-nets nets path.first path.steps (recursion_from_All (IsHop nets) (hops path) h.walked)

-- and those of all paths
pub paths-nets : (at : Pin → ℤ) (pads : List Pad) (nets : List Net) (paths : List Path) → AllByRecursion (IsPath at pads nets) paths → AreNets nets (steps_of paths)
paths-nets at pads nets [] h = tt
paths-nets at pads nets (path ∷ paths) h = each-append (λ s. s.net < length nets) path.steps (steps_of paths) (path-nets at pads nets path h.0) (paths-nets at pads nets paths h.1)

-- what steps use, counted step by step, is what they use counted net by net
pub exchange : (e : Net → ℕ) (nets : List Net) (ss : List Step) → AreNets nets ss → sum_by (λ s. e (net_in nets s.net)) ss ≤ by_number (λ i net. count_by (λ s. s.net == i) ss * e net) 0 nets
exchange e nets [] h = omega arith
exchange e nets (s ∷ ss) h =
    let hit : ℕ → Net → ℕ = λ i net. cond (s.net == i) 1 0 * e net in
    let one : hit (0 + s.net) (net_in nets s.net) ≤ by_number hit 0 nets = by_number-one hit 0 nets s.net h.0 in
    let here : e (net_in nets s.net) ≤ by_number hit 0 nets = omega (arith, one, hits s.net (e (net_in nets s.net))) in
    let more = by_number-add hit (λ i net. count_by (λ s. s.net == i) ss * e net) (λ i net. count_by (λ s. s.net == i) (s ∷ ss) * e net)
    (λ i net. joined (cond (s.net == i) 1 0) (count_by (λ s. s.net == i) ss) (count_by (λ s. s.net == i) (s ∷ ss)) (e net) (sum_by-cons (λ (t : Step). cond (t.net == i) 1 0) s ss)) 0 nets in
    omega (arith, here, more, exchange e nets ss h.1, sum_by-cons (λ (t : Step). e (net_in nets t.net)) s ss)
  where
    hits : (k v : ℕ) → v ≤ cond (k == (0 + k)) 1 0 * v
    hits k v =
        let e : k ≡ 0 + k = omega arith in
        let one : ◌≡◌ {A = ℕ} (cond (k == (0 + k)) 1 0) 1 = cond-true (k == (0 + k)) 1 0 (eq-eqb k (0 + k) e) in
        let same : cond (k == (0 + k)) 1 0 * v ≡ 1 * v = ap (λ x. x * v) one in
        omega (arith, same)

    joined : (a b c v : ℕ) → c ≡ a + b → a * v + b * v ≤ c * v
    joined a b c v p = omega (arith, add-mul a b v, ap (λ x. x * v) p)

-- from the number i on no net is used more often than its weight
abbrev pub Spare : List Path → ℕ → List Net → Type 0
Spare paths i [] = ⊤
Spare paths i (net ∷ nets) = (uses i paths ≤ net.weight) × Spare paths (i + 1) nets

-- what is said of each number holds net by net
pub spare-from : (paths : List Path) (i : ℕ) (nets : List Net) → ((k : ℕ) → k < length nets → uses (i + k) paths ≤ (net_in nets k).weight) → Spare paths i nets
spare-from paths i [] h = tt
spare-from paths i (net ∷ nets) h =
    let e : i + 0 ≡ i = omega arith in (
      subst (λ j. uses j paths ≤ net.weight) e (h 0 (omega arith)),
      spare-from paths (i + 1) nets (λ k lt. subst (λ j. uses j paths ≤ (net_in nets k).weight) (next i k) (h (suc k) (omega arith))),
    )
  where
    next : (i k : ℕ) → i + suc k ≡ i + 1 + k
    next i k = omega arith

-- so legal paths do
pub axis-spare : (at : Pin → ℤ) (pads : List Pad) (nets : List Net) (paths : List Path) → ArePathsOfAxis at pads nets paths → Spare paths 0 nets
axis-spare at pads nets paths h = spare-from paths 0 nets (λ k lt. subst (λ j. uses j paths ≤ (net_in nets k).weight) (none k) (h.spare k lt))
  where
    none : (k : ℕ) → k ≡ 0 + k
    none k = omega arith

-- How many steps there are.

-- where weights are no more than 255 the nets are used at most so often together
few-uses : (paths : List Path) (i : ℕ) (nets : List Net) → Spare paths i nets → AllByRecursion (λ n. n.weight < 2 ^ 8) nets → by_number (λ j net. count_by (λ (s : Step). s.net == j) (steps_of paths) * 1) i nets ≤ 255 * length nets
few-uses paths i [] s w = omega arith
few-uses paths i (net ∷ nets) s w = omega (arith, s.0, w.0, few-uses paths (i + 1) nets s.1 w.1)

-- so legal paths have few steps
pub few-steps : (at : Pin → ℤ) (pads : List Pad) (nets : List Net) (paths : List Path) → ArePathsOfAxis at pads nets paths → All (λ n. n.weight < 2 ^ 8) nets → sum_by (λ (s : Step). 1) (steps_of paths) ≤ 255 * length nets
few-steps at pads nets paths h w =
    omega (
      arith,
      exchange (λ net. 1) nets (steps_of paths) (paths-nets at pads nets paths (recursion_from_All (IsPath at pads nets) paths h.each)),
      few-uses paths 0 nets (axis-spare at pads nets paths h) (recursion_from_All (λ (n : Net). n.weight < 2 ^ 8) nets w),
    )

-- Distances.

-- an integer of at most 0 counts as 0
pub to_nat_none : (z : ℤ) → z ≤ℤ pos 0 → to_nat z ≡ 0
to_nat_none (pos n) h = omega (arith, ints, h)
to_nat_none (negsuc n) h = refl

-- and no integer as more than a bound of it
pub to_nat-le : (z : ℤ) (n : ℕ) → z ≤ℤ pos n → to_nat z ≤ n
to_nat-le (pos m) n h = omega (arith, ints, h)
to_nat-le (negsuc m) n h = omega arith

-- the place lies within the limit of doubled coordinates
abbrev pub IsNear : ℤ → Type 0
IsNear z = (neg_ℤ (pos (2 ^ 21)) ≤ℤ z) × (z ≤ℤ pos (2 ^ 21))

-- a pad that is there does
pad-near : (axis : Axis) (pads : List Pad) (p : Pin) → All (λ p. IsCoordinate p.x × IsCoordinate p.y) pads → IsTrue (is_pad pads p) → IsNear (place_on axis pads p)
pad-near axis pads (pin.Block b) places h = cc
pad-near Across pads (pin.Pad p) places h =
    let k = (places p (record { name = []; x = pos 0; y = pos 0 }) (grind (arith, nat_tests, h))).0 in
    (omega (arith, ints, k.0), omega (arith, ints, k.1))
pad-near Upward pads (pin.Pad p) places h =
    let k = (places p (record { name = []; x = pos 0; y = pos 0 }) (grind (arith, nat_tests, h))).1 in
    (omega (arith, ints, k.0), omega (arith, ints, k.1))

-- a path pulls no more than this for each of its steps
pull-small : (at : Pin → ℤ) (path : Path) → IsNear (at path.first) → IsNear (at (end_of path)) → pull at path ≤ 2 ^ 22 * sum_by (λ (s : Step). 1) path.steps
pull-small at path first last = cases path.steps refl
  where
    cases : (ss : List Step) → path.steps ≡ ss → pull at path ≤ 2 ^ 22 * sum_by (λ (s : Step). 1) path.steps
    cases [] e =
        let same : end_of path ≡ path.first = ap (last_of path.first) e in
        let none = to_nat_none (at (end_of path) -ℤ at path.first) (subst (λ (p : Pin). (at p -ℤ at path.first) ≤ℤ pos 0) (sym same) (omega (arith, ints))) in
        omega (arith, none)
    cases (s ∷ ss) e =
        let some : 1 ≤ sum_by (λ (t : Step). 1) path.steps = subst (λ ts. 1 ≤ sum_by (λ (t : Step). 1) ts) (sym e) (omega (arith, sum_by-cons (λ (t : Step). 1) s ss)) in
        omega (arith, some, to_nat-le (at (end_of path) -ℤ at path.first) (2 ^ 22) (omega (arith, ints, first.0, last.1)))

-- nor do all paths together
pub pulls-small : (axis : Axis) (pads : List Pad) (nets : List Net) (paths : List Path) → All (λ p. IsCoordinate p.x × IsCoordinate p.y) pads → AllByRecursion (IsPath (place_on axis pads) pads nets) paths → sum_by (pull (place_on axis pads)) paths ≤ 2 ^ 22 * sum_by (λ (s : Step). 1) (steps_of paths)
pulls-small axis pads nets [] places h = omega arith
pulls-small axis pads nets (path ∷ paths) places h =
    let at = place_on axis pads in
    omega (
      arith,
      pull-small at path (pad-near axis pads path.first places h.0.first) (pad-near axis pads (end_of path) places h.0.last),
      pulls-small axis pads nets paths places h.1,
      sum_by-cons (pull at) path paths,
      sum_by-append (λ (s : Step). 1) path.steps (steps_of paths),
    )

-- the ends of an axis' paths are apart by this at most
pub pulled-small : (axis : Axis) (pads : List Pad) (nets : List Net) (paths : List Path) → ArePathsOfAxis (place_on axis pads) pads nets paths → All (λ p. IsCoordinate p.x × IsCoordinate p.y) pads → All (λ n. n.weight < 2 ^ 8) nets → length nets ≤ 65536 → sum_by (pull (place_on axis pads)) paths ≤ 2 ^ 46
pulled-small axis pads nets paths h places light few =
    let at = place_on axis pads in
    omega (arith, few, few-steps at pads nets paths h light, pulls-small axis pads nets paths places (recursion_from_All (IsPath at pads nets) paths h.each))

-- One path more.

-- the uses of one path more
pub uses-more : (i : ℕ) (paths : List Path) (n : ℕ) (d : Path) → n < length paths → uses i (take (n + 1) paths) ≡ uses i (take n paths) + count_by (λ (s : Step). s.net == i) (get_or paths n d).steps
uses-more i paths n d lt =
    let path = get_or paths n d in
    let hit : Step → ℕ = λ s. cond (s.net == i) 1 0 in
    ap (uses i) (take_more paths n d lt)
    ∙ ap (sum_by hit) (flat_map-append (λ (p : Path). p.steps) (take n paths) (path ∷ []))
    ∙ sum_by-append hit (steps_of (take n paths)) (path.steps ++ [])
    ∙ ap (λ v. uses i (take n paths) + v) (sum_by-append hit path.steps [])
    ∙ omega arith

-- What is left.

-- what is left of each net, by its number
pub left-at : (i : ℕ) (paths : Paths) (nets : List Net) (k : ℕ) → k < length nets → get_or (left_from i paths nets) k 0 ≡ (net_in nets k).weight - max (uses (i + k) paths.across) (uses (i + k) paths.upward)
left-at i paths [] k lt = absurd (omega arith)
left-at i paths (net ∷ nets) zero lt =
    let e : i ≡ i + 0 = omega arith in
    ap (λ j. net.weight - max (uses j paths.across) (uses j paths.upward)) e
left-at i paths (net ∷ nets) (suc k) lt =
    let e : i + 1 + k ≡ i + suc k = omega arith in
    left-at (i + 1) paths nets k (omega arith) ∙ ap (λ j. (net_in nets k).weight - max (uses j paths.across) (uses j paths.upward)) e

-- there is a number for each net
pub length-left : (i : ℕ) (paths : Paths) (nets : List Net) → length (left_from i paths nets) ≡ length nets
length-left i paths [] = refl
length-left i paths (net ∷ nets) = omega (arith, length-left (i + 1) paths nets)

-- without paths the nets keep their weights
pub left-none : (i : ℕ) (nets : List Net) → left_from i no_paths nets ≡ map (λ (n : Net). n.weight) nets
left-none i [] = refl
left-none i (net ∷ nets) =
    let all : net.weight - max 0 0 ≡ net.weight = omega arith in
    ap (λ (w : ℕ). w ∷ left_from (i + 1) no_paths nets) all ∙ ap (λ (v : List ℕ). net.weight ∷ v) (left-none (i + 1) nets)

-- what each axis leaves, the lesser of both
pub left-is : (nets : List Net) (paths : Paths) (lefts : List ℕ) → length lefts ≡ length nets
    → ((k : ℕ) → k < length nets → get_or lefts k 0 + max (uses k paths.across) (uses k paths.upward) ≡ (net_in nets k).weight)
    → lefts ≡ left_from 0 paths nets
left-is nets paths lefts len each =
    ext_get_or 0 lefts (left_from 0 paths nets) (len ∙ sym (length-left 0 paths nets)) (λ k lt. one k (omega (arith, len)))
  where
    one : (k : ℕ) → k < length nets → get_or lefts k 0 ≡ get_or (left_from 0 paths nets) k 0
    one k lt =
        let e : 0 + k ≡ k = omega arith in
        let there = left-at 0 paths nets k lt ∙ ap (λ j. (net_in nets k).weight - max (uses j paths.across) (uses j paths.upward)) e in
        omega (arith, there, each k lt)

-- the weight of a net by its number
pub weight-at : (nets : List Net) (k : ℕ) → k < length nets → get_or (map (λ (n : Net). n.weight) nets) k 0 ≡ (net_in nets k).weight
weight-at nets k lt = get_or-map (λ (n : Net). n.weight) nets k (record { pins = []; weight = 0 }) 0 lt

-- Paths of both axes.

-- no path is legal
pub none-legal : (at : Pin → ℤ) (pads : List Pad) (nets : List Net) → ArePathsOfAxis at pads nets []
none-legal at pads nets = record { each = λ k d lt. absurd (omega arith); spare = λ i lt. omega arith }

-- the paths of an axis lead from pads to pads
axis-leads : (at : Pin → ℤ) (pads : List Pad) (nets : List Net) (paths : List Path) → AllByRecursion (IsPath at pads nets) paths → list_all leads paths ≡ true
axis-leads at pads nets [] h = refl
axis-leads at pads nets (path ∷ paths) h = and_from (leads path) (list_all leads paths) h.0.leads (axis-leads at pads nets paths h.1)

-- so legal paths do
pub legal-leads : (pads : List Pad) (nets : List Net) (paths : Paths) → AreLegal pads nets paths → IsTrue (all_lead paths)
legal-leads pads nets paths h =
    and_from (list_all leads paths.across) (list_all leads paths.upward)
    (axis-leads (pad_x pads) pads nets paths.across (recursion_from_All (IsPath (pad_x pads) pads nets) paths.across h.across.each))
    (axis-leads (pad_y pads) pads nets paths.upward (recursion_from_All (IsPath (pad_y pads) pads nets) paths.upward h.upward.each))

-- what follows from no paths
abbrev pub unrouted : List Net → Routes
unrouted nets = record { paths = no_paths; left = map (λ (n : Net). n.weight) nets; wires = 0 }

-- does
pub none-routes : (pads : List Pad) (nets : List Net) → AreRoutes pads nets (unrouted nets)
none-routes pads nets = record { legal = record { across = none-legal (pad_x pads) pads nets; upward = none-legal (pad_y pads) pads nets }; left_is = sym (left-none 0 nets); wires_are = refl }

-- Of a design.

-- there is a number for each net
pub lefts-count : (design : Design) → length design.routes.left ≡ length design.nets
lefts-count design = ap (λ (l : List ℕ). length l) design.routed.left_is ∙ length-left 0 design.routes.paths design.nets

-- of no net more than its weight is left
pub lefts-most : (design : Design) (k : ℕ) → k < length design.nets → get_or design.routes.left k 0 ≤ (net_in design.nets k).weight
lefts-most design k lt = omega (arith, ap (λ (l : List ℕ). get_or l k 0) design.routed.left_is, left-at 0 design.routes.paths design.nets k lt)

-- the ends of its paths are apart by this at most
pub routes-small : (design : Design) → design.routes.wires ≤ 2 ^ 47
routes-small design =
    let small = λ (axis : Axis) (paths : List Path) (h : ArePathsOfAxis (place_on axis design.pads) design.pads design.nets paths). pulled-small axis design.pads design.nets paths h design.limits.places design.limits.net_weights design.limits.few_nets in
    omega (
      arith,
      design.routed.wires_are,
      small Across design.routes.paths.across design.routed.legal.across,
      small Upward design.routes.paths.upward design.routed.legal.upward,
    )

-- Steps of the loops.

-- a walk fails at a step that is none
pub hop-fails : (nets : List Net) (path : Path) (items : List Step) (i : ℕ) (at : Pin) → items ≡ path.steps → i < length items
    → (Walks nets path.first path.steps ↔ Walks nets at (drop i path.steps)) → ¬ (IsHop nets (at, get_or items i (record { net = 0; to = pin.Block 0 }))) → ¬ (All (IsHop nets) (hops path))
hop-fails nets path items i at same lt walks none all =
    let d : Step = record { net = 0; to = pin.Block 0 } in
    let left = walks.0 (recursion_from_All (IsHop nets) (hops path) all) in
    let more = subst (λ ss. Walks nets at (drop i ss)) (sym same) left in
    none (subst (Walks nets at) (drop_step items i d lt) more).0

-- a step to a pad reaches it where it is the last one
pub reach-at-pad : (s : Step) (ss : List Step) → names_pad s.to ≡ true → reach_pad (s ∷ ss) ≡ (length ss == 0)
reach-at-pad s [] pad = pad
reach-at-pad s (t ∷ ss) pad =
    let over : reach_pad (s ∷ t ∷ ss) ≡ false = ap (λ b. not b && reach_pad (t ∷ ss)) pad in
    let more : (length (t ∷ ss) == 0) ≡ false = grind (arith, nat_tests) in
    over ∙ sym more

-- one to a block as the steps behind it do
pub reach-past-block : (s : Step) (ss : List Step) → names_pad s.to ≡ false → reach_pad (s ∷ ss) ≡ reach_pad ss
reach-past-block s [] block = block
reach-past-block s (t ∷ ss) block = ap (λ b. not b && reach_pad (t ∷ ss)) block

-- what holds of each of one path more holds of that path
pub at-last : (P : Path → Type 0) (paths : List Path) (n : ℕ) (path : Path) → n < length paths → path ≡ get_or paths n path → All P (take (n + 1) paths) → P path
at-last P paths n path lt is all =
    let there = all n path (omega (arith, length-take-le (n + 1) paths (omega (arith, lt)))) in
    subst P (get_or-take (n + 1) paths n path (omega arith) ∙ sym is) there

module _ (at : Pin → ℤ) (pads : List Pad) (nets : List Net) (paths : List Path) (n : ℕ) (path : Path) (steps : List Step) (lt : n < length paths) (is : path ≡ get_or paths n path) (same : steps ≡ path.steps) where
  -- how often the first paths and this one use a net
  one-more : (i : ℕ) → uses i (take (n + 1) paths) ≡ uses i (take n paths) + count_by (λ (s : Step). s.net == i) steps
  one-more i =
      uses-more i paths n path lt
      ∙ ap (λ (p : Path). uses i (take n paths) + count_by (λ (s : Step). s.net == i) p.steps) (sym is)
      ∙ ap (λ ss. uses i (take n paths) + count_by (λ (s : Step). s.net == i) ss) (sym same)

  module _ (left : List ℕ) (taken : (k : ℕ) → k < length nets → get_or left k 0 + uses k (take n paths) ≡ (net_in nets k).weight) where
    -- where it uses a net more often than is left, they are not legal together
    pub over-wrong : (i : ℕ) → i < length nets → get_or left i 0 < count_by (λ (s : Step). s.net == i) steps → ¬ (ArePathsOfAxis at pads nets (take (n + 1) paths))
    over-wrong i inside over legal = omega (arith, taken i inside, over, legal.spare i inside, one-more i)

    module _ (new : List ℕ) (now : (k : ℕ) → k < length nets → get_or new k 0 + count_by (λ (s : Step). s.net == k) steps ≡ get_or left k 0) where
      -- what is left after it
      pub taken-more : (k : ℕ) → k < length nets → get_or new k 0 + uses k (take (n + 1) paths) ≡ (net_in nets k).weight
      taken-more k inside = omega (arith, taken k inside, now k inside, one-more k)

      -- then they are legal together
      pub axis-more : ArePathsOfAxis at pads nets (take n paths) → IsPath at pads nets path → ArePathsOfAxis at pads nets (take (n + 1) paths)
      axis-more before fine = record {
        each = subst (All (IsPath at pads nets)) (sym (take_more paths n path lt ∙ ap (λ (p : Path). take n paths ++ p ∷ []) (sym is))) (All-push (IsPath at pads nets) (take n paths) path before.each fine);
        spare = λ k inside. omega (arith, taken-more k inside);
      }

-- no paths, as the code makes them
pub none-made : (pads : List Pad) (nets : List Net) (across upward : List Path) (left : List ℕ) → across ≡ [] → upward ≡ [] → left ≡ map (λ (n : Net). n.weight) nets
    → AreRoutes pads nets (record { paths = record { across = across; upward = upward }; left = left; wires = 0 })
none-made pads nets across upward left a u l =
    subst (λ (ps : List Path). AreRoutes pads nets (record { paths = record { across = ps; upward = upward }; left = left; wires = 0 })) (sym a)
    (subst (λ (ps : List Path). AreRoutes pads nets (record { paths = record { across = []; upward = ps }; left = left; wires = 0 })) (sym u)
    (subst (λ (ws : List ℕ). AreRoutes pads nets (record { paths = no_paths; left = ws; wires = 0 })) (sym l) (none-routes pads nets)))

-- the first wrong path of those across is so among all
pub wrong-across : (pads : List Pad) (nets : List Net) (paths : Paths) (n : ℕ) → IsFirstWrongOfAxis (pad_x pads) pads nets paths.across n → IsFirstWrong pads nets paths n
wrong-across pads nets paths n h =
    let none : n - length paths.across ≡ 0 = elim (cases_lt n (length paths.across)) [
      | inl within ↦ omega arith
      | inr past ↦ absurd (h.wrong (subst (ArePathsOfAxis (pad_x pads) pads nets) (take_all n paths.across past ∙ sym (take_all (n + 1) paths.across (omega arith))) h.before))
    ] in
    record {
      before = record {
        across = h.before;
        upward = subst (λ k. ArePathsOfAxis (pad_y pads) pads nets (take k paths.upward)) (sym none) (none-legal (pad_y pads) pads nets);
      };
      wrong = λ legal. h.wrong legal.across;
    }

-- the first wrong path of those upward is so among all
pub wrong-upward : (pads : List Pad) (nets : List Net) (paths : Paths) (n : ℕ) → ArePathsOfAxis (pad_x pads) pads nets paths.across → IsFirstWrongOfAxis (pad_y pads) pads nets paths.upward n → IsFirstWrong pads nets paths (length paths.across + n)
wrong-upward pads nets paths n across h =
    let a = length paths.across in
    let all : take (a + n) paths.across ≡ paths.across = take_all (a + n) paths.across (omega arith) in
    let these : a + n - a ≡ n = omega arith in
    let more : a + n + 1 - a ≡ n + 1 = omega arith in
    record {
      before = record {
        across = subst (ArePathsOfAxis (pad_x pads) pads nets) (sym all) across;
        upward = subst (λ k. ArePathsOfAxis (pad_y pads) pads nets (take k paths.upward)) (sym these) h.before;
      };
      wrong = λ legal. h.wrong (subst (λ k. ArePathsOfAxis (pad_y pads) pads nets (take k paths.upward)) more legal.upward);
    }

-- the number of a path that a fault names
pub bad : {a b : ℕ} → BadPath a ≡ BadPath b → a ≡ b
bad {a} {b} e = ap number e
  where
    number : PathFault → ℕ
    number (BadPath n) = n
    number NoMemory = 0

-- what both axes leave of a net, and how often they use it
pub two-left : (nets : List Net) (paths : Paths) (k : ℕ) → k < length nets → (first second left upward_left lefts : List ℕ) (across upward : List Path) → first ≡ map (λ (n : Net). n.weight) nets → second ≡ map (λ (n : Net). n.weight) nets
    → across ≡ paths.across → upward ≡ paths.upward → get_or left k 0 + uses k across ≡ get_or first k 0 → get_or upward_left k 0 + uses k upward ≡ get_or second k 0 → get_or lefts k 0 ≡ min (get_or left k 0) (get_or upward_left k 0)
    → get_or lefts k 0 + max (uses k paths.across) (uses k paths.upward) ≡ (net_in nets k).weight
two-left nets paths k low first second left upward_left lefts across upward is_first is_second is_across is_upward of_across of_upward least =
    omega (
      arith,
      weight-at nets k low,
      ap (λ (l : List ℕ). get_or l k 0) is_first,
      ap (λ (l : List ℕ). get_or l k 0) is_second,
      ap (uses k) is_across,
      ap (uses k) is_upward,
      of_across,
      of_upward,
      least,
    )

-- A design is determined by its fields, whatever shows what they keep.
use Rattle.std.proofs.Common.{◌≡◌, ℕ, List, ap, sym, ◌∙◌}
use Rattle.std.proofs.Props.{props}
use Rattle.sf_model.proofs.Common.{IsWithinLimits, Design, Block, Pad, Net, IsAreaFloorIn, AreRoutes, left_from, path_wires, Outline, Weights, Paths, Routes}

-- there is one way to keep the limits
one_proof : (blocks : List Block) (pads : List Pad) (nets : List Net) (outline : Outline) (weights : Weights) → IsProp (IsWithinLimits blocks pads nets outline weights)
one_proof blocks pads nets outline weights = hlevel props

-- there is one way to show a floor
one_floor : (blocks : List Block) (outline : Outline) (floor : ℕ) → IsProp (IsAreaFloorIn blocks outline floor)
one_floor blocks outline floor = hlevel props

-- there is one way to show what follows from paths
one_route : (pads : List Pad) (nets : List Net) (routes : Routes) → IsProp (AreRoutes pads nets routes)
one_route pads nets routes = hlevel props

-- what follows from paths
followed : List Pad → List Net → Paths → Routes
followed pads nets paths = record { paths = paths; left = left_from 0 paths nets; wires = path_wires pads paths }

-- a design has nothing else
routes-followed : (pads : List Pad) (nets : List Net) (routes : Routes) → AreRoutes pads nets routes → routes ≡ followed pads nets routes.paths
unfolding followed
routes-followed pads nets routes h =
    ap (λ (l : List ℕ). record { paths = routes.paths; left = l; wires = routes.wires }) h.left_is
    ∙ ap (λ n. record { paths = routes.paths; left = left_from 0 routes.paths nets; wires = n }) h.wires_are

-- so from the same paths the same follows
same_routes : (d e : Design) → d.pads ≡ e.pads → d.nets ≡ e.nets → d.routes.paths ≡ e.routes.paths → d.routes ≡ e.routes
same_routes d e p n r =
    routes-followed d.pads d.nets d.routes d.routed
    ∙ ap (λ ps. followed ps d.nets d.routes.paths) p
    ∙ ap (λ ns. followed e.pads ns d.routes.paths) n
    ∙ ap (followed e.pads e.nets) r
    ∙ sym (routes-followed e.pads e.nets e.routes e.routed)

-- the design of these fields
design_of : (blocks : List Block) (pads : List Pad) (nets : List Net) (outline : Outline) (weights : Weights) (floor : ℕ) (routes : Routes) → IsWithinLimits blocks pads nets outline weights → IsAreaFloorIn blocks outline floor → AreRoutes pads nets routes → Design
design_of blocks pads nets outline weights floor routes kept floored routed = record { blocks = blocks; pads = pads; nets = nets; outline = outline; weights = weights; area_floor = floor; routes = routes; limits = kept; floored = floored; routed = routed }

-- a design is the one of its fields, whatever shows that they keep the limits, that the floor is one, and that the paths are legal
IsOf : Design → List Block → List Pad → List Net → Outline → Weights → ℕ → Routes → Type 0
IsOf d blocks pads nets outline weights floor routes =
    (kept : IsWithinLimits blocks pads nets outline weights) (floored : IsAreaFloorIn blocks outline floor) (routed : AreRoutes pads nets routes) → d ≡ design_of blocks pads nets outline weights floor routes kept floored routed

-- a design is the one of its own fields
own : (d : Design) → IsOf d d.blocks d.pads d.nets d.outline d.weights d.area_floor d.routes
unfolding IsOf design_of
own d kept floored routed =
    ap (λ k. design_of d.blocks d.pads d.nets d.outline d.weights d.area_floor d.routes k d.floored d.routed) (one_proof d.blocks d.pads d.nets d.outline d.weights d.limits kept)
    ∙ ap (λ k. design_of d.blocks d.pads d.nets d.outline d.weights d.area_floor d.routes kept k d.routed) (one_floor d.blocks d.outline d.area_floor d.floored floored)
    ∙ ap (design_of d.blocks d.pads d.nets d.outline d.weights d.area_floor d.routes kept floored) (one_route d.pads d.nets d.routes d.routed routed)

-- two designs of the same fields are the same
pub same_design : (d e : Design) → d.blocks ≡ e.blocks → d.pads ≡ e.pads → d.nets ≡ e.nets → d.outline ≡ e.outline → d.weights ≡ e.weights → d.area_floor ≡ e.area_floor → d.routes.paths ≡ e.routes.paths → d ≡ e
unfolding IsOf design_of
same_design d e b p n o w f q =
    let r = same_routes d e p n q in
    let k : IsOf d e.blocks e.pads e.nets e.outline e.weights e.area_floor e.routes = rw (← b, ← p, ← n, ← o, ← w, ← f, ← r) (own d) in k e.limits e.floored e.routed

-- Worked values of the bound and of costs, in small designs.
use Rattle.std.proofs.Common.{◌≡◌, ℕ, List, [], ◌∷◌, length, refl}
use Rattle.sf_standard.proofs.Common.{pos, Design, Net, Outline, Pin, Shape, IsWithinLimits, Tree, Leaf, Beside, Above, spots_of, wire, cost, root, walk, extended, standard, part_value, no_floor, none-routes, unrouted, AreRoutes, Block, Pad, full}
use Rattle.sf_model.specs.AreaFloor.{IsAreaFloorIn}
use Rattle.sf_model.specs.declared.parts.Pin.TheVariants as pin
use Rattle.sf_model.specs.declared.parts.Weights.{Weights}
use Rattle.sf_model.specs.declared.paths.Routes.{Routes}
use Rattle.sf_node.specs.declared.step.Step.TheVariants as step
use Rattle.sf_node.specs.declared.part.Part.TheVariants as by

-- a shape by its sides
abbrev shape : ℕ → ℕ → Shape
shape w h = record { w = w; h = h }

-- a block of these shapes
abbrev block : List Shape → Block
block shapes = record { name = 98 ∷ []; shapes = shapes }

-- a pad at a point
abbrev pad : ℕ → ℕ → Pad
pad x y = record { name = 112 ∷ []; x = pos x; y = pos y }

-- a net of weight 1
abbrev net : List Pin → Net
net pins = record { pins = pins; weight = 1 }

-- a net of the blocks 0 and 1
abbrev pair : ℕ → Net
pair weight = record { pins = pin.Block 0 ∷ pin.Block 1 ∷ []; weight = weight }

-- an outline in which everything fits
abbrev wide : Outline
wide = record { w = 1048576; h = 1048576 }

-- area weighs 1, and wire this
abbrev weights : ℕ → Weights
weights wire = record { area = 1; wire = wire }

module _ (limits : IsWithinLimits (block (shape 3 4 ∷ shape 4 3 ∷ []) ∷ []) [] [] wide (weights 0)) where
  -- one block of two shapes
  abbrev lone_design : Design
  lone_design = record { blocks = block (shape 3 4 ∷ shape 4 3 ∷ []) ∷ []; pads = []; nets = []; outline = wide; weights = weights 0; area_floor = 0; routes = unrouted []; limits = limits; floored = no_floor (block (shape 3 4 ∷ shape 4 3 ∷ []) ∷ []) wide; routed = none-routes [] [] }

  -- its tree has two subproblems: the root, and the block
  lone_full : full lone_design ≡ 2
  lone_full = refl

  -- the least area at the root
  lone_root_bound : standard lone_design (root lone_design) ≡ 12
  lone_root_bound = refl

  -- and where the block stands
  lone_solved_bound : standard lone_design (walk (root lone_design) (step.Block 0 ∷ [])) ≡ 12
  lone_solved_bound = refl

module _ (limits : IsWithinLimits (block (shape 2 3 ∷ []) ∷ block (shape 3 2 ∷ []) ∷ []) [] [] wide (weights 0)) where
  -- two blocks of one shape each
  abbrev hard_design : Design
  hard_design = record { blocks = block (shape 2 3 ∷ []) ∷ block (shape 3 2 ∷ []) ∷ []; pads = []; nets = []; outline = wide; weights = weights 0; area_floor = 0; routes = unrouted []; limits = limits; floored = no_floor (block (shape 2 3 ∷ []) ∷ block (shape 3 2 ∷ []) ∷ []) wide; routed = none-routes [] [] }

  -- the first beside the second
  abbrev hard_plan : Tree
  hard_plan = Beside (Leaf 0 (shape 2 3)) (Leaf 1 (shape 3 2))

  -- its area
  hard_plan_cost : cost hard_design hard_plan ≡ 15
  hard_plan_cost = refl

  -- the subproblems of the whole tree
  hard_full : full hard_design ≡ 9
  hard_full = refl

  -- at the root the sum of both areas
  hard_root_bound : standard hard_design (root hard_design) ≡ 12
  hard_root_bound = refl

  -- at the plan its cost
  hard_solved_bound : standard hard_design (walk (root hard_design) (step.Block 0 ∷ step.Block 1 ∷ step.Beside ∷ [])) ≡ 15
  hard_solved_bound = refl

  -- the root has a child for each block
  hard_children : length (extended (root hard_design)) ≡ 2
  hard_children = refl

module _ (limits : IsWithinLimits (block (shape 2 2 ∷ []) ∷ block (shape 2 2 ∷ []) ∷ []) [] (net (pin.Block 0 ∷ pin.Block 1 ∷ []) ∷ []) wide (weights 1)) where
  -- two squares and a net that joins them
  abbrev joined_design : Design
  joined_design = record { blocks = block (shape 2 2 ∷ []) ∷ block (shape 2 2 ∷ []) ∷ []; pads = []; nets = net (pin.Block 0 ∷ pin.Block 1 ∷ []) ∷ []; outline = wide; weights = weights 1; area_floor = 0; routes = unrouted (net (pin.Block 0 ∷ pin.Block 1 ∷ []) ∷ []); limits = limits; floored = no_floor (block (shape 2 2 ∷ []) ∷ block (shape 2 2 ∷ []) ∷ []) wide; routed = none-routes [] (net (pin.Block 0 ∷ pin.Block 1 ∷ []) ∷ []) }

  -- the one beside the other
  abbrev joined_plan : Tree
  joined_plan = Beside (Leaf 0 (shape 2 2)) (Leaf 1 (shape 2 2))

  -- their centres are 2 apart, 4 in doubled units
  joined_wire : wire joined_design (spots_of joined_plan) ≡ 4
  joined_wire = refl

  -- area and wire
  joined_cost : cost joined_design joined_plan ≡ 12
  joined_cost = refl

  -- no plan costs less, which the root already tells
  joined_root_bound : standard joined_design (root joined_design) ≡ 12
  joined_root_bound = refl

  -- the area alone
  joined_area_part : part_value joined_design (root joined_design) by.Area ≡ 8
  joined_area_part = refl

  -- area and pair: two squares are apart by half a side of each
  joined_pair_part : part_value joined_design (root joined_design) by.Pair ≡ 12
  joined_pair_part = refl

module _ (limits : IsWithinLimits (block (shape 2 2 ∷ []) ∷ block (shape 2 2 ∷ []) ∷ []) [] (pair 3 ∷ []) wide (weights 1)) where
  -- the same with a net of weight 3
  abbrev heavy_design : Design
  heavy_design = record { blocks = block (shape 2 2 ∷ []) ∷ block (shape 2 2 ∷ []) ∷ []; pads = []; nets = pair 3 ∷ []; outline = wide; weights = weights 1; area_floor = 0; routes = unrouted (pair 3 ∷ []); limits = limits; floored = no_floor (block (shape 2 2 ∷ []) ∷ block (shape 2 2 ∷ []) ∷ []) wide; routed = none-routes [] (pair 3 ∷ []) }

  -- its wire counts three times
  heavy_wire : wire heavy_design (spots_of (Beside (Leaf 0 (shape 2 2)) (Leaf 1 (shape 2 2)))) ≡ 12
  heavy_wire = refl

  -- in the cost too
  heavy_cost : cost heavy_design (Beside (Leaf 0 (shape 2 2)) (Leaf 1 (shape 2 2))) ≡ 20
  heavy_cost = refl

  -- and in the bound
  heavy_root_bound : standard heavy_design (root heavy_design) ≡ 20
  heavy_root_bound = refl

module _ (limits : IsWithinLimits (block (shape 2 2 ∷ []) ∷ block (shape 2 2 ∷ []) ∷ []) [] (pair 0 ∷ []) wide (weights 1)) where
  -- the same with a net of weight 0
  abbrev free_design : Design
  free_design = record { blocks = block (shape 2 2 ∷ []) ∷ block (shape 2 2 ∷ []) ∷ []; pads = []; nets = pair 0 ∷ []; outline = wide; weights = weights 1; area_floor = 0; routes = unrouted (pair 0 ∷ []); limits = limits; floored = no_floor (block (shape 2 2 ∷ []) ∷ block (shape 2 2 ∷ []) ∷ []) wide; routed = none-routes [] (pair 0 ∷ []) }

  -- its wire does not count in the cost
  free_cost : cost free_design (Above (Leaf 0 (shape 2 2)) (Leaf 1 (shape 2 2))) ≡ 8
  free_cost = refl

  -- nor in the bound
  free_root_bound : standard free_design (root free_design) ≡ 8
  free_root_bound = refl

module _ (limits : IsWithinLimits (block (shape 2 2 ∷ []) ∷ []) (pad 10 0 ∷ []) (net (pin.Block 0 ∷ pin.Pad 0 ∷ []) ∷ []) wide (weights 1)) where
  -- a square and a pad that is far from it
  abbrev distant_design : Design
  distant_design = record { blocks = block (shape 2 2 ∷ []) ∷ []; pads = pad 10 0 ∷ []; nets = net (pin.Block 0 ∷ pin.Pad 0 ∷ []) ∷ []; outline = wide; weights = weights 1; area_floor = 0; routes = unrouted (net (pin.Block 0 ∷ pin.Pad 0 ∷ []) ∷ []); limits = limits; floored = no_floor (block (shape 2 2 ∷ []) ∷ []) wide; routed = none-routes (pad 10 0 ∷ []) (net (pin.Block 0 ∷ pin.Pad 0 ∷ []) ∷ []) }

  -- the square stands at the corner
  distant_cost : cost distant_design (Leaf 0 (shape 2 2)) ≡ 24
  distant_cost = refl

  -- at the root it may stand anywhere across, so that half its height counts alone, 2 in doubled units
  distant_root_bound : standard distant_design (root distant_design) ≡ 6
  distant_root_bound = refl

module _ (limits : IsWithinLimits (block (shape 1 4 ∷ shape 2 2 ∷ shape 3 2 ∷ []) ∷ []) (pad 10 0 ∷ []) (net (pin.Block 0 ∷ pin.Pad 0 ∷ []) ∷ []) wide (weights 10)) where
  -- a block of three shapes and a pad, where wire weighs 10
  abbrev soft_design : Design
  soft_design = record { blocks = block (shape 1 4 ∷ shape 2 2 ∷ shape 3 2 ∷ []) ∷ []; pads = pad 10 0 ∷ []; nets = net (pin.Block 0 ∷ pin.Pad 0 ∷ []) ∷ []; outline = wide; weights = weights 10; area_floor = 0; routes = unrouted (net (pin.Block 0 ∷ pin.Pad 0 ∷ []) ∷ []); limits = limits; floored = no_floor (block (shape 1 4 ∷ shape 2 2 ∷ shape 3 2 ∷ []) ∷ []) wide; routed = none-routes (pad 10 0 ∷ []) (net (pin.Block 0 ∷ pin.Pad 0 ∷ []) ∷ []) }

  -- the cost of the highest shape
  high_cost : cost soft_design (Leaf 0 (shape 1 4)) ≡ 234
  high_cost = refl

  -- of the square
  square_cost : cost soft_design (Leaf 0 (shape 2 2)) ≡ 204
  square_cost = refl

  -- and of the widest, the least
  wide_cost : cost soft_design (Leaf 0 (shape 3 2)) ≡ 196
  wide_cost = refl

  -- the subproblems of the whole tree
  soft_full : full soft_design ≡ 6
  soft_full = refl

  -- at the root
  soft_root_bound : standard soft_design (root soft_design) ≡ 24
  soft_root_bound = refl

  -- where the block stands in its whole span
  soft_whole_bound : standard soft_design (walk (root soft_design) (step.Block 0 ∷ [])) ≡ 194
  soft_whole_bound = refl

  -- there by the area alone
  soft_area_part : part_value soft_design (walk (root soft_design) (step.Block 0 ∷ [])) by.Area ≡ 4
  soft_area_part = refl

  -- by area and range
  soft_range_part : part_value soft_design (walk (root soft_design) (step.Block 0 ∷ [])) by.Range ≡ 24
  soft_range_part = refl

  -- by area and hull
  soft_hull_part : part_value soft_design (walk (root soft_design) (step.Block 0 ∷ [])) by.Hull ≡ 194
  soft_hull_part = refl

  -- with the first shape its cost
  high_bound : standard soft_design (walk (root soft_design) (step.Block 0 ∷ step.Left 0 ∷ [])) ≡ 234
  high_bound = refl

  -- with the other two
  lower_half_bound : standard soft_design (walk (root soft_design) (step.Block 0 ∷ step.Right 0 ∷ [])) ≡ 194
  lower_half_bound = refl

  -- with the second shape its cost
  square_bound : standard soft_design (walk (root soft_design) (step.Block 0 ∷ step.Right 0 ∷ step.Left 0 ∷ [])) ≡ 204
  square_bound = refl

  -- with the third shape its cost
  wide_bound : standard soft_design (walk (root soft_design) (step.Block 0 ∷ step.Right 0 ∷ step.Right 0 ∷ [])) ≡ 196
  wide_bound = refl

module _ (limits : IsWithinLimits (block (shape 2 2 ∷ []) ∷ block (shape 2 2 ∷ []) ∷ []) (pad 0 0 ∷ pad 10 0 ∷ []) (net (pin.Block 0 ∷ pin.Pad 0 ∷ []) ∷ net (pin.Block 0 ∷ pin.Block 1 ∷ []) ∷ net (pin.Block 1 ∷ pin.Pad 1 ∷ []) ∷ []) wide (weights 1)) where
  -- two squares in a chain between two pads
  abbrev chained_design : Design
  chained_design = record { blocks = block (shape 2 2 ∷ []) ∷ block (shape 2 2 ∷ []) ∷ []; pads = pad 0 0 ∷ pad 10 0 ∷ []; nets = net (pin.Block 0 ∷ pin.Pad 0 ∷ []) ∷ net (pin.Block 0 ∷ pin.Block 1 ∷ []) ∷ net (pin.Block 1 ∷ pin.Pad 1 ∷ []) ∷ []; outline = wide; weights = weights 1; area_floor = 0; routes = unrouted (net (pin.Block 0 ∷ pin.Pad 0 ∷ []) ∷ net (pin.Block 0 ∷ pin.Block 1 ∷ []) ∷ net (pin.Block 1 ∷ pin.Pad 1 ∷ []) ∷ []); limits = limits; floored = no_floor (block (shape 2 2 ∷ []) ∷ block (shape 2 2 ∷ []) ∷ []) wide; routed = none-routes (pad 0 0 ∷ pad 10 0 ∷ []) (net (pin.Block 0 ∷ pin.Pad 0 ∷ []) ∷ net (pin.Block 0 ∷ pin.Block 1 ∷ []) ∷ net (pin.Block 1 ∷ pin.Pad 1 ∷ []) ∷ []) }

  -- at the root
  chained_root_bound : standard chained_design (root chained_design) ≡ 18
  chained_root_bound = refl

  -- side by side they lie along the chain
  chained_beside_cost : cost chained_design (Beside (Leaf 0 (shape 2 2)) (Leaf 1 (shape 2 2))) ≡ 32
  chained_beside_cost = refl

  -- one above the other they do not
  chained_above_cost : cost chained_design (Above (Leaf 0 (shape 2 2)) (Leaf 1 (shape 2 2))) ≡ 40
  chained_above_cost = refl

module _ (limits : IsWithinLimits (block (shape 2 3 ∷ []) ∷ block (shape 3 2 ∷ []) ∷ []) [] [] wide (weights 0)) (floored : IsAreaFloorIn (block (shape 2 3 ∷ []) ∷ block (shape 3 2 ∷ []) ∷ []) wide 15) where
  -- the same two blocks where the design knows that no floorplan has an area below 15
  abbrev floored_design : Design
  floored_design = record { blocks = block (shape 2 3 ∷ []) ∷ block (shape 3 2 ∷ []) ∷ []; pads = []; nets = []; outline = wide; weights = weights 0; area_floor = 15; routes = unrouted []; limits = limits; floored = floored; routed = none-routes [] [] }

  -- the value at the root is that floor, and not 12, the sum of the areas
  floored_root_bound : standard floored_design (root floored_design) ≡ 15
  floored_root_bound = refl

-- the nets of the two squares in a chain
abbrev chain : List Net
chain = net (pin.Block 0 ∷ pin.Pad 0 ∷ []) ∷ net (pin.Block 0 ∷ pin.Block 1 ∷ []) ∷ net (pin.Block 1 ∷ pin.Pad 1 ∷ []) ∷ []

-- a path along the chain, 20 from end to end in doubled units, which leaves nothing of the nets
abbrev chain_routes : Routes
chain_routes = record {
  paths = record {
    across = record { first = pin.Pad 0; steps = record { net = 0; to = pin.Block 0 } ∷ record { net = 1; to = pin.Block 1 } ∷ record { net = 2; to = pin.Pad 1 } ∷ [] } ∷ [];
    upward = [];
  };
  left = 0 ∷ 0 ∷ 0 ∷ [];
  wires = 20;
}

module _ (limits : IsWithinLimits (block (shape 2 2 ∷ []) ∷ block (shape 2 2 ∷ []) ∷ []) (pad 0 0 ∷ pad 10 0 ∷ []) chain wide (weights 1)) (routed : AreRoutes (pad 0 0 ∷ pad 10 0 ∷ []) chain chain_routes) where
  -- the same chain where the design has this path
  abbrev routed_design : Design
  routed_design = record { blocks = block (shape 2 2 ∷ []) ∷ block (shape 2 2 ∷ []) ∷ []; pads = pad 0 0 ∷ pad 10 0 ∷ []; nets = chain; outline = wide; weights = weights 1; area_floor = 0; routes = chain_routes; limits = limits; floored = no_floor (block (shape 2 2 ∷ []) ∷ block (shape 2 2 ∷ []) ∷ []) wide; routed = routed }

  -- the value at the root is the area 8 with these 20, and not 18
  routed_root_bound : standard routed_design (root routed_design) ≡ 28
  routed_root_bound = refl

-- What the area and the wires of a subproblem cost, by each part of the bound.
use Rattle.std.proofs.Common.{◌≡◌, ℕ, ◌+◌, ◌*◌, ◌^◌, ◌<◌, ◌≤◌, arith, ap}
use Rattle.sf_bounds.proofs.Common.{mul-le-mul, Design, Area, Range, Pair, Hull, Full, Parts, wires_by, full_part, open_value, standard, part_value, WireParts, IsAreaCost, AreWireCosts}
use Rattle.sf_node.specs.declared.part.Part.{Part}
use Rattle.sf_node.specs.ByPart.{AreValues}
use Rattle.sf_standard.proofs.ByPart.{areas-free}

-- a weight and wires that keep their limits make a cost that does
pub cost-small : (weight wires n : ℕ) → weight < 2 ^ 16 → wires ≡ n → n < 2 ^ 47 → weight * wires ≤ 2 ^ 63
cost-small weight wires n light is short =
    let w : weight ≤ 65535 = omega (arith, light) in
    let l : wires ≤ 2 ^ 47 = omega (arith, is, short) in
    let most : weight * wires ≤ 65535 * 2 ^ 47 = mul-le-mul w l in
    omega (arith, most)

module _ (design : Design) (node : Parts) where
  -- the cost of the area is the value of the part of that name
  pub area-is : (v : ℕ) → IsAreaCost design node v → v ≡ part_value design node Area
  area-is v cost =
      omega (arith, cost.value (wires_by design node Area), ap (λ n. design.weights.wire * n) (areas-free design node))

  -- with the costs of the wires it makes the values of the parts
  pub parts-are : (v : ℕ) (w : WireParts) → IsAreaCost design node v → AreWireCosts design node w → AreValues (part_value design node) (record { area = v; range = v + w.range; pair = v + w.pair; hull = v + w.hull })
  parts-are v w cost wires = record {
    area = area-is v cost;
    range = omega (arith, cost.value (wires_by design node Range), wires.values.range);
    pair = omega (arith, cost.value (wires_by design node Pair), wires.values.pair);
    hull = omega (arith, cost.value (wires_by design node Hull), wires.values.hull);
  }

  -- one of them alone, the whole bound too
  pub part-is : (part : Part) (v cost : ℕ) → IsAreaCost design node v → cost ≡ design.weights.wire * wires_by design node part → standard design node ≡ open_value design node → v + cost ≡ part_value design node part
  part-is Area v cost area is full = omega (arith, area.value (wires_by design node Area), is)
  part-is Range v cost area is full = omega (arith, area.value (wires_by design node Range), is)
  part-is Pair v cost area is full = omega (arith, area.value (wires_by design node Pair), is)
  part-is Hull v cost area is full = omega (arith, area.value (wires_by design node Hull), is)
  part-is Full v cost area is full = omega (arith, area.value (full_part design node), is, full)

  -- all of them together
  pub full-is : (v : ℕ) (w : WireParts) → IsAreaCost design node v → AreWireCosts design node w → v + w.full ≡ open_value design node
  full-is v w cost wires = omega (arith, cost.value (full_part design node), wires.values.full)

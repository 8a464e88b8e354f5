use Rattle.std.proofs.Common.{◌≡◌, ℕ, ◌<◌, ◌^◌, All, length, sum_by, sym, ap, subst, arith, rules}
use Rattle.sf_model.specs.Limits.{IsCoordinate, IsPinSet, IsShapeList}
use Rattle.sf_model.specs.declared.parts.Block.{Block}
use Rattle.sf_model.specs.declared.parts.Net.{Net}
use Rattle.sf_model.specs.declared.parts.Pad.{Pad}
use Rattle.sf_search_tests.proofs.paths.chain.Goals as goal

pub new-requires : goal.new-requires
new-requires c =
    let blocks = c.from_vec.ensures in
    let pads = c.from_vec-2.ensures in
    let nets = c.from_vec-3.ensures in
    let three : length c.from_vec.result ≡ 3 = omega (arith, ap length blocks, c.in_ok-blocks.ensures.count) in
    let as-many : length c.from_vec-2.result ≡ 3 = omega (arith, ap length pads, c.in_ok-pads.ensures.count) in
    let pins = subst (All (λ (n : Net). IsPinSet 3 3 n.pins)) (sym nets) c.in_ok-nets.ensures.pins in
    let pins-of-three = subst (λ (k : ℕ). All (λ (n : Net). IsPinSet k 3 n.pins) c.from_vec-3.result) (sym three) pins in
    record {
      some_block = omega (arith, three);
      few_blocks = omega (arith, three);
      few_pads = omega (arith, as-many);
      few_nets = omega (arith, ap length nets, c.in_ok-nets.ensures.count);
      few_pins = omega (arith, ap (sum_by (λ (n : Net). length n.pins)) nets, c.in_ok-nets.ensures.few);
      shapes = subst (All (λ (b : Block). IsShapeList b.shapes)) (sym blocks) c.in_ok-blocks.ensures.shapes;
      places = subst (All (λ (p : Pad). IsCoordinate p.x × IsCoordinate p.y)) (sym pads) c.in_ok-pads.ensures.places;
      pins = subst (λ (k : ℕ). All (λ (n : Net). IsPinSet (length c.from_vec.result) k n.pins) c.from_vec-3.result) (sym as-many) pins-of-three;
      net_weights = subst (All (λ (n : Net). n.weight < 2 ^ 8)) (sym nets) c.in_ok-nets.ensures.weights;
      width = search rules;
      height = search rules;
      area_weight = omega arith;
      wire_weight = omega arith;
      weighted = omega arith;
    }

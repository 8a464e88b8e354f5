use Rattle.std.proofs.Common.{◌≡◌, ℕ, ◌<◌, ◌^◌, All, length, sum_by, sym, ap, subst, arith, rules}
use Rattle.std.proofs.lemmas.List.Elements.{All-weaker}
use Rattle.sf_model.specs.Limits.{IsCoordinate, IsPinSet, IsShapeList}
use Rattle.sf_model.specs.declared.parts.Block.{Block}
use Rattle.sf_model.specs.declared.parts.Net.{Net}
use Rattle.sf_model.specs.declared.parts.Pad.{Pad}
use Rattle.sf_test_designs.proofs.drawing.drawn.Goals as goal

pub new-requires : goal.new-requires
new-requires c =
    let blocks = c.from_vec.ensures in
    let pads = c.from_vec-2.ensures in
    let nets = c.from_vec-3.ensures in
    let many : length c.from_vec.result ≡ c.args.count = omega (arith, ap length blocks, c.in_ok-blocks.ensures.count) in
    let four : length c.from_vec-2.result ≡ 4 = omega (arith, ap length pads, c.in_ok-pads.ensures.count) in
    let pins = subst (All (λ (n : Net). IsPinSet c.args.count 4 n.pins)) (sym nets) c.in_ok-nets.ensures.pins in
    let pins-of-many = subst (λ (k : ℕ). All (λ (n : Net). IsPinSet k 4 n.pins) c.from_vec-3.result) (sym many) pins in
    record {
      some_block = omega (arith, many, c.requires.some);
      few_blocks = omega (arith, many, c.requires.few);
      few_pads = omega (arith, four);
      few_nets = omega (arith, ap length nets, c.in_ok-nets.ensures.count, c.requires.few);
      few_pins = omega (arith, ap (sum_by (λ (n : Net). length n.pins)) nets, c.in_ok-nets.ensures.few, c.requires.few);
      shapes = subst (All (λ (b : Block). IsShapeList b.shapes)) (sym blocks) c.in_ok-blocks.ensures.shapes;
      places = subst (All (λ (p : Pad). IsCoordinate p.x × IsCoordinate p.y)) (sym pads) c.in_ok-pads.ensures.places;
      pins = subst (λ (k : ℕ). All (λ (n : Net). IsPinSet (length c.from_vec.result) k n.pins) c.from_vec-3.result) (sym four) pins-of-many;
      net_weights = All-weaker (λ (n : Net). n.weight ≡ 1) (λ n. n.weight < 2 ^ 8) (λ n h. omega (arith, h)) c.from_vec-3.result (subst (All (λ (n : Net). n.weight ≡ 1)) (sym nets) c.in_ok-nets.ensures.weights);
      width = c.requires.width;
      height = c.requires.height;
      area_weight = omega arith;
      wire_weight = search rules;
      weighted = omega arith;
    }

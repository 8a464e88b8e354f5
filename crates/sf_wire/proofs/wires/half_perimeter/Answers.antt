use Rattle.std.proofs.Common.{◌≡◌, ◌+◌, ◌∷◌, List, map, ap, sym, ◌∙◌}
use Rattle.sf_wire.proofs.Common.{int_max, int_min, Pin, pin_x, pin_y, spread}
use Rattle.sf_model.specs.declared.parts.Pin.TheVariants as pin
use Rattle.sf_wire.proofs.Folds.{fold_pins, near_same, near_least, near_greatest, spread_of}
use Rattle.sf_wire.proofs.Pinned.{later_pin}
use Rattle.sf_wire.proofs.wires.half_perimeter.Goals as goal

pub point_of-x-requires-in-loop-pin-clause-in_range : goal.point_of-x-requires-in-loop-pin-clause-in_range
point_of-x-requires-in-loop-pin-clause-in_range c =
    let e : c.args.net.now.pins ≡ c.in-Some.first.now ∷ c.in-Some.others.now = sym c.as_slice.ensures ∙ c.in-Some.ensures.cases.0 in
    later_pin c.args.design.now c.args.net.now c.in-Some.first.now c.in-Some.others.now c.requires.pins e c.loop-pin.pin-index (pin.Block 0) c.loop-pin-test.true

pub loop-pin-preserved : goal.loop-pin-preserved
loop-pin-preserved c =
    let x = c.point_of-x-in-loop-pin.result.0 in
    let y = c.point_of-x-in-loop-pin.result.1 in
    let p = c.point_of-x-in-loop-pin.ensures in
    let i = c.loop-pin.pin-index in
    let was = c.loop-pin.invariant in
    let x_of = pin_x c.args.design.now c.args.spots.now in
    let y_of = pin_y c.args.design.now c.args.spots.now in
    let h = c.loop-pin-test.true in
    let left = c.with-across.ensures.least ∙ ap (int_min c.loop-pin.across.least) (near_same x p.near_x) in
    let right = c.with-across.ensures.greatest ∙ ap (int_max c.loop-pin.across.greatest) (near_same x p.near_x) in
    let lower = c.with-upward.ensures.least ∙ ap (int_min c.loop-pin.upward.least) (near_same y p.near_y) in
    let upper = c.with-upward.ensures.greatest ∙ ap (int_max c.loop-pin.upward.greatest) (near_same y p.near_y) in
    record {
      left = fold_pins int_min x_of _ c.in-Some.others.now i (pin.Block 0) c.loop-pin.across.least c.with-across.result.least x h was.left p.x left;
      right = fold_pins int_max x_of _ c.in-Some.others.now i (pin.Block 0) c.loop-pin.across.greatest c.with-across.result.greatest x h was.right p.x right;
      lower = fold_pins int_min y_of _ c.in-Some.others.now i (pin.Block 0) c.loop-pin.upward.least c.with-upward.result.least y h was.lower p.y lower;
      upper = fold_pins int_max y_of _ c.in-Some.others.now i (pin.Block 0) c.loop-pin.upward.greatest c.with-upward.result.greatest y h was.upper p.y upper;
      near_left = near_least c.loop-pin.across.least x c.with-across.result.least was.near_left p.near_x left;
      near_right = near_greatest c.loop-pin.across.greatest x c.with-across.result.greatest was.near_right p.near_x right;
      near_lower = near_least c.loop-pin.upward.least y c.with-upward.result.least was.near_lower p.near_y lower;
      near_upper = near_greatest c.loop-pin.upward.greatest y c.with-upward.result.greatest was.near_upper p.near_y upper;
    }

pub returns-clause-wire : goal.returns-clause-wire
returns-clause-wire c =
    let first = c.in-Some.first.now in
    let others = c.in-Some.others.now in
    let e : c.args.net.now.pins ≡ first ∷ others = sym c.as_slice.ensures ∙ c.in-Some.ensures.cases.0 in
    let x_of = pin_x c.args.design.now c.args.spots.now in
    let y_of = pin_y c.args.design.now c.args.spots.now in
    let p = c.point_of-x.ensures in
    let was = c.loop-pin.invariant in
    let across : c.spread.result ≡ spread (map x_of (first ∷ others)) = spread_of x_of first others c.loop-pin.pin-index _ _ _ c.spread.result c.loop-pin-test.false (near_same c.point_of-x.result.0 p.near_x ∙ p.x) was.left was.right c.spread.ensures.apart in
    let upward : c.spread-2.result ≡ spread (map y_of (first ∷ others)) = spread_of y_of first others c.loop-pin.pin-index _ _ _ c.spread-2.result c.loop-pin-test.false (near_same c.point_of-x.result.1 p.near_y ∙ p.y) was.lower was.upper c.spread-2.ensures.apart in
    ap (λ v. v + c.spread-2.result) across ∙ ap (λ v. spread (map x_of (first ∷ others)) + v) upward
    ∙ ap (λ (pins : List Pin). spread (map x_of pins) + spread (map y_of pins)) (sym e)

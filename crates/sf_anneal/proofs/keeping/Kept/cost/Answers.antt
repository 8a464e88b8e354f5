use Rattle.std.proofs.Common.{◌≡◌, ◌+◌, ◌-◌, ◌*◌, ◌^◌, ◌≤◌, ◌∙◌, mul-le-mul, refl, ap, subst, sym, arith}
use Rattle.sf_anneal.proofs.Common.{IsLeastArea, area_of, IsCost}
use Rattle.sf_anneal.proofs.Costs.{rooms-most, root-flat, root-none, root-priced}
use Rattle.sf_anneal.proofs.keeping.Kept.cost.Goals as goal

pub returns-in_default : goal.returns-in_default
returns-in_default c = root-none _ _ _ _ c.requires.moved c.requires.normal c.requires.whole (sym c.curve.ensures ∙ c.in_default.ensures.empty.0 refl)

pub overflow_mul-rooms : goal.overflow_mul-rooms
overflow_mul-rooms c =
    let least = subst (λ ps. IsLeastArea ps c.in-Some.size) c.curve.ensures c.in-Some.ensures.least in
    let rooms = rooms-most _ _ _ _ c.requires.moved c.requires.normal c.requires.whole c.from.result c.area.result c.in-Some.size c.from.ensures c.area.ensures least.found in
    omega (arith, rooms)

pub returns-then-design-eq0 : goal.returns-then-design-eq0
returns-then-design-eq0 c =
    let least = subst (λ ps. IsLeastArea ps c.in-Some.size) c.curve.ensures c.in-Some.ensures.least in
    let rooms = ap (λ v. v * c.area.result) c.from.ensures ∙ ap (λ v. c.args.design.now.weights.area * v) c.area.ensures in
    subst (IsCost c.args.design.now c.args.tokens.now) (sym rooms) (root-flat _ _ _ _ c.requires.moved c.requires.normal c.requires.whole c.in-Some.size least c.if-design-eq0.true)

pub wire-requires : goal.wire-requires
wire-requires c =
    let least = subst (λ ps. IsLeastArea ps c.in-Some.size) c.curve.ensures c.in-Some.ensures.least in
    (root-priced _ _ _ _ c.requires.moved c.requires.normal c.requires.whole c.in-Some.size c.args.spots.now c.place.new.spots least c.requires.spots (c.place.ensures c.args.design.now c.requires.moved)).legal

pub overflow_add-result : goal.overflow_add-result
overflow_add-result c =
    let least = subst (λ ps. IsLeastArea ps c.in-Some.size) c.curve.ensures c.in-Some.ensures.least in
    let rooms = rooms-most _ _ _ _ c.requires.moved c.requires.normal c.requires.whole c.from.result c.area.result c.in-Some.size c.from.ensures c.area.ensures least.found in
    let thin : c.from-2.result ≤ 2 ^ 16 - 1 = omega (arith, c.from-2.ensures, c.args.design.now.limits.wire_weight) in
    let short : c.wire.result ≤ 2 ^ 47 = omega (arith, c.wire.ensures.bounded) in
    let wires : c.from-2.result * c.wire.result ≤ (2 ^ 16 - 1) * 2 ^ 47 = mul-le-mul thin short in
    omega (arith, rooms, wires)

pub returns : goal.returns
returns c =
    let d = c.args.design.now in
    let least = subst (λ ps. IsLeastArea ps c.in-Some.size) c.curve.ensures c.in-Some.ensures.least in
    let rooms = ap (λ v. v * c.area.result) c.from.ensures ∙ ap (λ v. d.weights.area * v) c.area.ensures in
    let priced = root-priced _ _ _ _ c.requires.moved c.requires.normal c.requires.whole c.in-Some.size c.args.spots.now c.place.new.spots least c.requires.spots (c.place.ensures d c.requires.moved) in
    let wires : c.from-2.result * c.wire.result ≡ d.weights.wire * c.wire.result = ap (λ v. v * c.wire.result) c.from-2.ensures in
    subst (IsCost d c.args.tokens.now) (sym (ap (λ v. v + c.from-2.result * c.wire.result) rooms ∙ ap (λ v. d.weights.area * area_of c.in-Some.size + v) wires)) (priced.costs c.wire.result c.wire.ensures.wire)

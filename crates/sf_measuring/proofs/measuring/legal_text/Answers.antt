use Rattle.std.proofs.Common.{◌≡◌, ◌++◌, ◌∷◌, [], ◌*◌, arith, ap, ◌∙◌, codes, string_bytes}
use Rattle.sf_measuring.proofs.Common.{decimal, right_end, upper_end, spots_cost, wire}
use Rattle.sf_measuring.proofs.Legal.{area_small, lines_joined, legal_same}
use Rattle.sf_measuring.proofs.measuring.legal_text.Goals as goal

pub overflow_mul-area : goal.overflow_mul-area
overflow_mul-area c =
    let s = area_small c.args.design.now c.args.spots.now c.spots_size-width.result.0 c.spots_size-width.result.1 c.requires c.spots_size-width.ensures.right c.spots_size-width.ensures.upper in
    omega (arith, s)

pub returns : goal.returns
returns c =
    let design = c.args.design.now in
    let spots = c.args.spots.now in
    let cost = c.spots_cost-cost.result in
    let w = c.spots_size-width.result.0 in
    let h = c.spots_size-width.result.1 in
    let wires = c.wire-wires.result in
    let text : string_bytes c.in_ok-text.text ≡ codes "status Legal\ncost " ++ (decimal cost ++ (codes "\nsize " ++ (decimal w ++ 32 ∷ (decimal h ++ (codes "\narea " ++ (decimal (w * h) ++ (codes "\nwire " ++ (decimal wires ++ 10 ∷ [])))))))) = c.in_ok-text.ensures.ok in
    ap (λ v. v.items) c.into_bytes.ensures.value ∙ text ∙ lines_joined (decimal cost) (decimal w) (decimal h) (decimal (w * h)) (decimal wires)
    ∙ legal_same cost w h wires (spots_cost design spots) (right_end spots) (upper_end spots) (wire design spots) c.spots_cost-cost.ensures.cost c.spots_size-width.ensures.right c.spots_size-width.ensures.upper c.wire-wires.ensures.wire

use Rattle.std.proofs.Common.{ℕ, length, Err, inl, inr, refl, ap, subst}
use Rattle.sf_designs.proofs.Common.{err_from_is_err_and, text_of, Stops, WeightsRead, YalWeighed}
use Rattle.sf_designs.proofs.Stages.{stops-map}
use Rattle.sf_designs.proofs.reading.read_weighed_yal.Goals as goal

pub returns-in_err-net_weights-clause-parts : goal.returns-in_err-net_weights-clause-parts
returns-in_err-net_weights-clause-parts g c =
    let held = (g.S.Shelf.seen c.args.shelf.now).holds in
    let weights = text_of c.args.weights in
    let parts = c.in_ok-read.read.parts in
    let stop = c.in_err-net_weights.field-0.0 in
    let p = err_from_is_err_and c.from_residual-in_err-net_weights.result c.from_residual-in_err-net_weights.ensures.1 in
    let here = subst (λ h. Stops stop (λ why. WeightsRead h weights (length c.as_slice-nets.result.now) (Err why))) c.in_ok-read.ensures.shelf.0.unchanged c.in_err-net_weights.ensures.weights in
    let failed = subst (λ (nets : ℕ). Stops stop (λ why. WeightsRead held weights nets (Err why))) (ap length c.as_slice-nets.ensures) here in
    rw (p.1, p.2)
    (stops-map (λ why. WeightsRead held weights (length parts.nets) (Err why)) (λ why. YalWeighed held c.args.scale.per_unit c.args.file.now weights (Err why)) (λ why q. inl (parts, c.in_ok-read.ensures.parts, inr (why, q, refl))) stop failed)
